-- Members of lists, and rows of tables.
use Rattle.std.proofs.Common.{◌≡◌, ℕ, zero, suc, ◌<◌, ◌⊎◌, List, [], ◌∷◌, ◌++◌, length, get_or, take, drop, set, refl, inl, inr}
use mathlib.Core.List.Memᴰ
use mathlib.Core.List.{Memᴰ}
use Rattle.std.proofs.lemmas.List.{get_or-set_other, get_or-set_same, set_past}
use Rattle.std.proofs.lemmas.Bool.{cases_eq, cases_lt}

pub mem-take : {X : Type 0} (x : X) (xs : List X) (p : ℕ) (ys : List X) → Memᴰ x (take p xs ++ ys) → Memᴰ x xs ⊎ Memᴰ x ys
mem-take x xs zero ys h = inr h
mem-take x [] (suc p) ys h = inr h
mem-take x (y ∷ xs) (suc p) ys h = elim (Memᴰ.cases_cons h) [
  | inl e ↦ inl (Memᴰ.head e)
  | inr k ↦ elim (mem-take x xs p ys k) [ inl l ↦ inl (Memᴰ.tail l) | inr r ↦ inr r ]
]

pub mem-drop : {X : Type 0} (x : X) (xs : List X) (p : ℕ) → Memᴰ x (drop p xs) → Memᴰ x xs
mem-drop x xs zero h = h
mem-drop x [] (suc p) h = h
mem-drop x (y ∷ xs) (suc p) h = Memᴰ.tail (mem-drop x xs p h)

-- what is there when one joins at the end was there before, or is that one
pub mem-push : {X : Type 0} (x : X) (xs : List X) (y : X) → Memᴰ x (xs ++ y ∷ []) → Memᴰ x xs ⊎ (x ≡ y)
mem-push x [] y h = elim (Memᴰ.cases_cons h) [ inl e ↦ inr e | inr k ↦ inl k ]
mem-push x (z ∷ xs) y h = elim (Memᴰ.cases_cons h) [
  | inl e ↦ inl (Memᴰ.head e)
  | inr k ↦ elim (mem-push x xs y k) [ inl l ↦ inl (Memᴰ.tail l) | inr r ↦ inr r ]
]

-- row j of a table in which row i was set is what was set, or what it was
pub set_cases : {X : Type 0} (xs : List X) (i j : ℕ) (x d : X) →
    ((j ≡ i) × (i < length xs) × (get_or (set xs i x) j d ≡ x)) ⊎ (get_or (set xs i x) j d ≡ get_or xs j d)
set_cases xs i j x d = elim (cases_lt i (length xs)) [
  | inr l ↦ inr (rw (set_past xs i x l) refl)
  | inl l ↦ elim (cases_eq j i) [ inl e ↦ inl (e, l, rw e (get_or-set_same xs i x d l)) | inr ne ↦ inr (get_or-set_other xs i j x d ne) ]
]
