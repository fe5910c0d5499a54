-- Rows without a gap are those that are their own cut.
use Rattle.std.proofs.Common.{◌≡◌, ℕ, zero, suc, ◌≤◌, false, ◌≢◌, List, [], ◌∷◌, sym, refl, ap, ◌∙◌, inl, inr, arith}
use Rattle.std.proofs.lemmas.List.{ext_get_or}
use Rattle.parts.specs.declared.counts.Group.{Group as GroupNumber}
use Rattle.parts.specs.declared.entries.Entry.{Entry}
use Rattle.parts.specs.declared.entries.Entry.TheVariants.{Unknown, Group, Retired}
use Rattle.parts.specs.Charts.{blank, cut_list, length_list, any_group, gap_list}
use Rattle.parts.specs.ChartLaws.{entry_in, Usable}
use Rattle.parts.proofs.Walks.{length_cut}
use Rattle.parts.proofs.Places.{cut-cases}
use Rattle.parts.proofs.Cuts.{usable-length}

no-group : (a : List Entry) → any_group a ≡ false → (k : ℕ) (c : GroupNumber) → entry_in a k ≢ Group c
unfolding any_group
no-group [] h k c e = grind arith
no-group (Unknown ∷ a) h zero c e = grind arith
no-group (Unknown ∷ a) h (suc k) c e = no-group a h k c e
no-group (Group d ∷ a) h k c e = grind arith
no-group (Retired ∷ a) h zero c e = grind arith
no-group (Retired ∷ a) h (suc k) c e = no-group a h k c e

no-group-behind : (a : List Entry) → gap_list a ≡ false → (k : ℕ) (c : GroupNumber) → length_list a ≤ k → entry_in a k ≢ Group c
unfolding gap_list length_list
no-group-behind [] h k c l e = grind arith
no-group-behind (Unknown ∷ a) h zero c l e = grind arith
no-group-behind (Unknown ∷ a) h (suc k) c l e = no-group a h k c e
no-group-behind (Group d ∷ a) h zero c l e = omega arith
no-group-behind (Group d ∷ a) h (suc k) c l e = no-group-behind a h k c (omega arith) e
no-group-behind (Retired ∷ a) h zero c l e = omega arith
no-group-behind (Retired ∷ a) h (suc k) c l e = no-group-behind a h k c (omega arith) e

pub cut-whole : (a : List Entry) → Usable a → gap_list a ≡ false → cut_list a ≡ a
cut-whole a (m, c, u) h = ext_get_or Unknown (cut_list a) a (length_cut a) (λ k _. elim (cut-cases a k) [
  | inl p ↦ p.1
  | inr p ↦ (let l = usable-length a m c u in let g = no-group-behind a h k in let v = u.above k (omega arith) in grind arith)
])

blank-no-group : (a : List Entry) → any_group (blank a) ≡ false
unfolding blank any_group
blank-no-group [] = refl
blank-no-group (e ∷ a) = blank-no-group a

cut-no-gap : (a : List Entry) → gap_list (cut_list a) ≡ false
unfolding cut_list gap_list
cut-no-gap [] = refl
cut-no-gap (Unknown ∷ a) = blank-no-group a
cut-no-gap (Group c ∷ a) = cut-no-gap a
cut-no-gap (Retired ∷ a) = cut-no-gap a

pub whole-gapless : (a : List Entry) → cut_list a ≡ a → gap_list a ≡ false
whole-gapless a e = sym (ap gap_list e) ∙ cut-no-gap a
