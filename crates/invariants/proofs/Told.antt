-- A row in which the group c, listed at place k, is joined into that place.
use Rattle.std.proofs.Common.{◌≡◌, ℕ, ◌<◌, ◌⊎◌, List, length, set, sym, ◌∙◌, inl, inr, arith}
use Rattle.std.proofs.lemmas.List.{length-set}
use Rattle.parts.specs.declared.counts.Group.{Group as GroupNumber}
use Rattle.parts.specs.declared.entries.Entry.{Entry}
use Rattle.parts.specs.declared.entries.Entry.TheVariants.{Group, Retired, Unknown}
use Rattle.parts.specs.ChartLaws.{Usable, entry_in}
use Rattle.parts.specs.Charts.{join_entry}
use Rattle.invariants.proofs.Lists.{set_cases}
use Rattle.invariants.proofs.Rows.{Below, RowOk}
use Rattle.invariants.proofs.Views.{group_at}

module _ (ls : List GroupNumber) (a : List Entry) (k : ℕ) (c : GroupNumber) (inside : k < length ls) (is : c ≡ group_at ls k) (ok : RowOk ls a) where
  told : List Entry
  told = set a k (join_entry (entry_in a k) (Group c))

  told_at : (x : ℕ) → ((x ≡ k) × (entry_in told x ≡ join_entry (entry_in a k) (Group c))) ⊎ (entry_in told x ≡ entry_in a x)
  unfolding told
  told_at x = elim (set_cases a k x (join_entry (entry_in a k) (Group c)) Unknown) [ inl c ↦ inl (c.0, c.2) | inr e ↦ inr e ]

  told-agree : (x : ℕ) (d : GroupNumber) → entry_in told x ≡ Group d → (x < length ls) × (d ≡ group_at ls x)
  told-agree x d e = let g = ok.agree x d in elim (told_at x) [
    | inr p ↦ g (sym p ∙ e)
    | inl p ↦ (let g' = ok.agree k d in (grind arith, grind arith))
  ]

  told-usable : Usable a → Usable told
  told-usable (m, d, u) = (
    m,
    d,
    record {
      below = λ x h. let g = u.below x h in grind (arith, told_at x);
      here = let g = u.here in grind (arith, told_at m);
      above = λ x h e. let g = u.above x h in grind (arith, told_at x);
    },
  )

  pub told-ok : RowOk ls (set a k (join_entry (entry_in a k) (Group c)))
  unfolding told
  told-ok = record { agree = told-agree; usable = told-usable ok.usable; wide = length-set _ _ _ ∙ ok.wide }

  pub told_below : Below a (set a k (join_entry (entry_in a k) (Group c)))
  unfolding told
  told_below = record { known = λ x h e. grind (arith, told_at x); gone = λ x h. grind (arith, told_at x) }

  pub told-gone : (x : ℕ) → entry_in (set a k (join_entry (entry_in a k) (Group c))) x ≡ Retired → entry_in a x ≡ Retired
  unfolding told
  told-gone x e = grind (arith, told_at x)
