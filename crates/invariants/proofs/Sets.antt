-- Sets of terminals, looked at by the numbers of the terminals.
use Rattle.std.proofs.Common.{◌≡◌, ℕ, ◌^◌, Bool, true, ◌||◌, eqb, ltb, ◌⊎◌, sym, ap, ◌∙◌, inl, inr}
use Rattle.std.proofs.lemmas.Bool.{cond_both, eqb-true, false≢true, or_cases}
use Rattle.std.proofs.lemmas.Nat.Bits.{bit_at-zero}
use Rattle.parts.specs.declared.counts.Terminal.{Terminal}
use Rattle.parts.specs.declared.sets.TerminalSet.{TerminalSet}
use Rattle.parts.specs.Limits.{terminals}
use Rattle.parts.specs.Sets.{bit_of, nobody, with_one}
use Rattle.parts.proofs.Bits.{bit-one, bit-or}

-- the terminal with this number
abbrev pub terminal : ℕ → Terminal
terminal j = record { 0 = j }

-- terminal j is in the set
unfoldable pub holds : TerminalSet → ℕ → Bool
holds s j = bit_of s.bits j

-- who is in a set to which terminal i was added is i, or was in it before
pub with_cases : (s : TerminalSet) (i j : ℕ) → holds (with_one s (terminal i)) j ≡ true → (j ≡ i) ⊎ (holds s j ≡ true)
unfolding holds
with_cases s i j = cond_both (ltb i terminals) _ s (λ (z : TerminalSet). bit_of z.bits j ≡ true → (j ≡ i) ⊎ (bit_of s.bits j ≡ true))
    (λ _ e. added (sym (bit-or s.bits (2 ^ i) j) ∙ e))
    (λ _ e. inr e)
  where
    added : (bit_of s.bits j || bit_of (2 ^ i) j) ≡ true → (j ≡ i) ⊎ (bit_of s.bits j ≡ true)
    added e = elim (or_cases _ _ e) [ inl h ↦ inr h | inr h ↦ inl (eqb-true j i (sym (bit-one i j) ∙ h)) ]

pub nobody-in : (j : ℕ) → holds nobody j ≡ true → ⊥
unfolding holds
nobody-in j e = false≢true (sym (ap (λ n. eqb n 1) (bit_at-zero j)) ∙ e)
