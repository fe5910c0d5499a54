-- What two sets of terminals have in common, over any number of bits.
use Rattle.std.specs.Prelude.{◌≡◌, ℕ, zero, suc, ◌+◌, ◌*◌, ◌/◌, ◌%◌, ◌^◌, ◌<◌, ◌≤◌, true, ◌&&◌, ◌==◌, nat_eq, refl}
use Rattle.std.proofs.Common.{sym, ap, ◌∙◌, ⊎_elim, mod-lt, div-one, pow-suc, arith, pow_mono}
use Rattle.std.specs.Int.Bits.{bit_and, bit_or}
use Rattle.std.proofs.lemmas.Nat.{and_shr, and_mod, pow_pos}
use Rattle.std.proofs.lemmas.Bool.{eq-eqb, eqb-true, eqb-false, not-true, and_parts, and_from, or_left, or_right, cases_lt}
use Rattle.parts.specs.declared.counts.Terminal.{Terminal}
use Rattle.parts.specs.declared.sets.TerminalSet.{TerminalSet}
use Rattle.parts.specs.Sets.{bit_of, of_bits, union, within, Within, Meet}
use Rattle.books.specs.Sets.{share}
use Rattle.parts.proofs.Bits.{bit-or, bit-one, bit-suc, nothing-added, each-bit}

one_bit : (x y : ℕ) → x < 2 → y < 2 → (bit_and x y == 1) ≡ (x == 1 && y == 1)
one_bit zero zero h l = refl
one_bit zero (suc zero) h l = refl
one_bit (suc zero) zero h l = refl
one_bit (suc zero) (suc zero) h l = refl
one_bit (suc (suc x)) y h l = absurd (omega arith)
one_bit zero (suc (suc y)) h l = absurd (omega arith)
one_bit (suc zero) (suc (suc y)) h l = absurd (omega arith)

bit-and : (a b k : ℕ) → bit_of (bit_and a b) k ≡ (bit_of a k && bit_of b k)
bit-and a b k =
    let x : ℕ = a / 2 ^ k in
    let y : ℕ = b / 2 ^ k in
    ap (λ n. nat_eq (n % 2) 1) (and_shr a b k) ∙ ap (λ n. nat_eq n 1) (and_mod x y 1) ∙ one_bit (x % 2) (y % 2) (mod-lt x (omega arith)) (mod-lt y (omega arith))

-- every number has a power of two above it
below-pow : (n : ℕ) → n < 2 ^ n
below-pow zero = pow_pos 0
below-pow (suc n) = omega (arith, below-pow n, pow-suc 2 n)

below-sum : (a b : ℕ) → a < 2 ^ (a + b)
below-sum a b = let p : 2 ^ a ≤ 2 ^ (a + b) = pow_mono (omega arith) in omega (arith, below-pow a)

below-sum' : (a b : ℕ) → b < 2 ^ (a + b)
below-sum' a b = let p : 2 ^ b ≤ 2 ^ (a + b) = pow_mono (omega arith) in omega (arith, below-pow b)

pub within-says : (s s' : TerminalSet) → within s s' ≡ true → Within s s'
within-says s s' e t = each-bit s.bits s'.bits (eqb-true _ _ e) t.0

pub says-within : (s s' : TerminalSet) → Within s s' → within s s' ≡ true
says-within s s' f =
    let a = s.bits in
    let b = s'.bits in
    eq-eqb (bit_or a b) b (nothing-added (a + b) a b (below-sum a b) (below-sum' a b) (λ k. f (record { 0 = k })))

-- the terminals that are in both sets
abbrev pub common : TerminalSet → TerminalSet → TerminalSet
common s s' = of_bits (bit_and s.bits s'.bits)

pub common-left : (s s' : TerminalSet) → Within (common s s') s
common-left s s' t h = (and_parts _ _ (sym (bit-and s.bits s'.bits t.0) ∙ h)).0

pub common-right : (s s' : TerminalSet) → Within (common s s') s'
common-right s s' t h = (and_parts _ _ (sym (bit-and s.bits s'.bits t.0) ∙ h)).1

pub common-both : (s s' : TerminalSet) (t : ℕ) → bit_of s.bits t ≡ true → bit_of s'.bits t ≡ true → bit_of (common s s').bits t ≡ true
common-both s s' t h l = bit-and s.bits s'.bits t ∙ and_from _ _ h l

-- a terminal that joins a set is in it, and the others stay
pub joined-has : (s : TerminalSet) (t : ℕ) → bit_of (union s (of_bits (2 ^ t))).bits t ≡ true
joined-has s t = bit-or s.bits (2 ^ t) t ∙ or_right _ _ (bit-one t t ∙ eq-eqb t t refl)

pub joined_keeps : (s s' : TerminalSet) (k : ℕ) → bit_of s.bits k ≡ true → bit_of (union s s').bits k ≡ true
joined_keeps s s' k h = bit-or s.bits s'.bits k ∙ or_left _ _ h

-- a number other than 0 has a bit
some-bit : (n a : ℕ) → a < 2 ^ n → 0 < a → (k : ℕ) × (bit_of a k ≡ true)
some-bit zero a h l = absurd (omega arith)
some-bit (suc n) a h l =
    ⊎_elim
    (λ (even : a % 2 < 1).
    let two : 2 ^ suc n ≡ 2 ^ n * 2 = pow-suc 2 n in
    let up = some-bit n (a / 2) (omega arith) (omega arith) in
    (suc up.0, bit-suc a up.0 ∙ up.1))
    (λ (odd : 1 ≤ a % 2). (0, ap (λ n. nat_eq (n % 2) 1) (div-one a) ∙ eq-eqb (a % 2) 1 (let below : a % 2 < 2 = mod-lt a (omega arith) in omega arith)))
    (cases_lt (a % 2) 1)

-- sets whose bits have one in common share a terminal
pub share-says : (s s' : TerminalSet) → share s s' ≡ true → Meet s s'
share-says s s' e =
    let n : ℕ = bit_and s.bits s'.bits in
    let ne = eqb-false n 0 (not-true _ e) in
    let k = some-bit n n (below-pow n) (omega arith) in
    let t : Terminal = record { 0 = k.0 } in
    (t, common-left s s' t k.1, common-right s s' t k.1)
