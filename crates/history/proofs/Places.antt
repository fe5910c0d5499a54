-- `nth` after a push, a change and a take.
use Rattle.std.proofs.Common.{◌≡◌, ℕ, zero, suc, ◌<◌, ◌≤◌, ◌≢◌, ◌⊎◌, List, [], ◌∷◌, ◌++◌, length, take, set, Some, None, sym, refl, ap, ◌∙◌, inl, inr, arith}
use Rattle.std.specs.List.{slice_get}
use Rattle.std.proofs.lemmas.Bool.{cases_eq}

pub nth-below : {X : Type 0} (xs : List X) (k : ℕ) (x : X) → slice_get xs k ≡ Some x → k < length xs
nth-below [] k x e = absurd (grind arith)
nth-below (y ∷ xs) zero x e = omega arith
nth-below (y ∷ xs) (suc k) x e = let h = nth-below xs k x e in omega arith

pub nth-push : {X : Type 0} (xs : List X) (x : X) (k : ℕ) (y : X) → slice_get (xs ++ x ∷ []) k ≡ Some y → (slice_get xs k ≡ Some y) ⊎ ((k ≡ length xs) × (x ≡ y))
nth-push [] x zero y e = inr (refl, cc)
nth-push [] x (suc k) y e = absurd (grind arith)
nth-push (z ∷ xs) x zero y e = inl e
nth-push (z ∷ xs) x (suc k) y e = elim (nth-push xs x k y e) [ inl h ↦ inl h | inr h ↦ inr (ap suc h.0, h.1) ]

nth-set-new : {X : Type 0} (xs : List X) (k : ℕ) (x y : X) → slice_get xs k ≡ Some x → slice_get (set xs k y) k ≡ Some y
nth-set-new [] k x y e = absurd (grind arith)
nth-set-new (z ∷ xs) zero x y e = refl
nth-set-new (z ∷ xs) (suc k) x y e = nth-set-new xs k x y e

nth-set-old : {X : Type 0} (xs : List X) (k j : ℕ) (y : X) → j ≢ k → slice_get (set xs k y) j ≡ slice_get xs j
nth-set-old [] k j y ne = refl
nth-set-old (z ∷ xs) zero zero y ne = absurd (ne refl)
nth-set-old (z ∷ xs) zero (suc j) y ne = refl
nth-set-old (z ∷ xs) (suc k) zero y ne = refl
nth-set-old (z ∷ xs) (suc k) (suc j) y ne = nth-set-old xs k j y (λ e. ne (ap suc e))

-- what is found after a change: what was put there, or what was there
pub nth-set : {X : Type 0} (xs : List X) (k j : ℕ) (x y z : X) → slice_get xs k ≡ Some x → slice_get (set xs k y) j ≡ Some z →
    ((j ≡ k) × (y ≡ z)) ⊎ ((j ≢ k) × (slice_get xs j ≡ Some z))
nth-set xs k j x y z e f = elim (cases_eq j k) [
  | inl h ↦ inl (h, (let n = nth-set-new xs k x y e in let g = ap (slice_get (set xs k y)) h in cc))
  | inr h ↦ inr (h, sym (nth-set-old xs k j y h) ∙ f)
]

pub take_nth : {X : Type 0} (xs : List X) (n : ℕ) (x : X) → slice_get xs n ≡ Some x → take (suc n) xs ≡ take n xs ++ x ∷ []
take_nth [] n x e = absurd (grind arith)
take_nth (y ∷ xs) zero x e = let u : y ≡ x = cc in cc
take_nth (y ∷ xs) (suc n) x e = ap (λ zs. y ∷ zs) (take_nth xs n x e)

pub take-end : {X : Type 0} (xs : List X) (n : ℕ) → slice_get xs n ≡ None → take (suc n) xs ≡ take n xs
take-end [] zero e = refl
take-end [] (suc n) e = refl
take-end (y ∷ xs) zero e = absurd (grind arith)
take-end (y ∷ xs) (suc n) e = ap (λ zs. y ∷ zs) (take-end xs n e)

pub take-push : {X : Type 0} (xs : List X) (x : X) (n : ℕ) → n ≤ length xs → take n (xs ++ x ∷ []) ≡ take n xs
take-push xs x zero l = refl
take-push [] x (suc n) l = absurd (omega arith)
take-push (y ∷ xs) x (suc n) l = ap (λ zs. y ∷ zs) (take-push xs x n (omega arith))
