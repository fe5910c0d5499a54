-- A row whose first place in use is retired.
use Rattle.std.proofs.Common.{◌≡◌, ℕ, zero, suc, ◌≤◌, ◌⊎◌, List, set, refl, ap, ◌∙◌, subst, inl, inr, arith}
use Rattle.std.proofs.lemmas.List.{length-set}
use Rattle.std.proofs.lemmas.Bool.{cases_eq, cases_lt}
use Rattle.parts.specs.declared.counts.Group.{Group as GroupNumber}
use Rattle.parts.specs.declared.entries.Entry.{Entry}
use Rattle.parts.specs.declared.entries.Entry.TheVariants.{Group, Retired, Unknown}
use Rattle.parts.specs.ChartLaws.{Usable, UsableAt, entry_in}
use Rattle.parts.specs.Charts.{length_list}
use Rattle.parts.proofs.Cuts.{usable-length, usable-retired}
use Rattle.parts.proofs.Places.{length_from}
use Rattle.invariants.proofs.Lists.{set_cases}
use Rattle.invariants.proofs.Rows.{Below, RowOk}

-- the place before k is retired
abbrev pub Behind : List Entry → ℕ → Type 0
Behind a k = (l : ℕ) → suc l ≡ k → entry_in a l ≡ Retired

-- groups at k, behind a retired place, and at k + 1: the places up to k + 1 are known
pub reach : (a : List Entry) (k : ℕ) (c d : GroupNumber) → Usable a → entry_in a k ≡ Group c → entry_in a (suc k) ≡ Group d → Behind a k →
    suc (suc k) ≤ length_list a
reach a k c d (m, c₀, u) e e' f = let z = usable-length a m c₀ u in length_from a (suc (suc k)) (λ x h q. elim (cases_lt x m) [
  | inl l ↦ (let g = u.below x l in grind arith)
  | inr l ↦ elim (cases_lt k x) [
    | inl p ↦ (let y : x ≡ suc k = omega arith in let y' = ap (entry_in a) y in grind arith)
    | inr p ↦ elim (cases_eq x k) [
      | inl y ↦ (let y' = ap (entry_in a) y in grind arith)
      | inr y ↦ first-place a k m c₀ x u f l p y
    ]
  ]
])
  where
    first-place : (a : List Entry) (k m : ℕ) (c₀ : GroupNumber) (x : ℕ) → UsableAt a m c₀ → Behind a k → m ≤ x → x ≤ k → (x ≡ k → ⊥) → ⊥
    first-place a zero m c₀ x u f l p y = y (omega arith)
    first-place a (suc k) m c₀ x u f l p y = u.above k (omega arith) (f k refl)

-- a group behind a retired place is at the first place in use
first_group : (a : List Entry) (k m : ℕ) (c c₀ : GroupNumber) → UsableAt a m c₀ → entry_in a k ≡ Group c → Behind a k → m ≡ k
first_group a zero m c c₀ u e f = elim (cases_eq m 0) [ inl p ↦ p | inr p ↦ (let g = u.below 0 (omega arith) in grind arith) ]
first_group a (suc k) m c c₀ u e f = elim (cases_lt (suc k) m) [
  | inl l ↦ (let g = u.below (suc k) l in grind arith)
  | inr l ↦ elim (cases_eq m (suc k)) [ inl p ↦ p | inr p ↦ absurd (u.above k (omega arith) (f k refl)) ]
]

module _ (a : List Entry) (k : ℕ) where
  gone_at : (x : ℕ) → ((x ≡ k) × (entry_in (set a k Retired) x ≡ Retired)) ⊎ (entry_in (set a k Retired) x ≡ entry_in a x)
  gone_at x = elim (set_cases a k x Retired Unknown) [ inl c ↦ inl (c.0, c.2) | inr e ↦ inr e ]

  retired-usable : (c d : GroupNumber) → Usable a → entry_in a k ≡ Group c → entry_in a (suc k) ≡ Group d → Behind a k → Usable (set a k Retired)
  retired-usable c d (m, c₀, u) e e' f = let p = first_group a k m c c₀ u e f in
      (suc k, d, usable-retired a k c₀ d (subst (λ m. UsableAt a m c₀) p u) e')

  pub retired-ok : (ls : List GroupNumber) → RowOk ls a → (c d : GroupNumber) → entry_in a k ≡ Group c → entry_in a (suc k) ≡ Group d → Behind a k →
      RowOk ls (set a k Retired)
  retired-ok ls ok c d e e' f = record {
    agree = λ x c₁ h. ok.agree x c₁ (grind (arith, gone_at x));
    usable = retired-usable c d ok.usable e e' f;
    wide = length-set _ _ _ ∙ ok.wide;
  }

  pub retired-below : Below a (set a k Retired)
  retired-below = record { known = λ x h e. grind (arith, gone_at x); gone = λ x h. grind (arith, gone_at x) }

  pub retired-gone : (x : ℕ) → entry_in (set a k Retired) x ≡ Retired → (x ≡ k) ⊎ (entry_in a x ≡ Retired)
  retired-gone x e = grind (arith, gone_at x)
