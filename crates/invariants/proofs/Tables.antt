-- The caller's tables: rows that are there, and messages that join the pool or leave it.
use Rattle.std.proofs.Common.{◌≡◌, ℕ, zero, suc, ◌+◌, ◌-◌, ◌<◌, ◌≤◌, List, [], ◌∷◌, ◌++◌, length, get_or, take, drop, Some, sym, refl, ap, ◌∙◌, subst, inl, inr, arith}
use mathlib.Core.List.{Memᴰ}
use Rattle.std.specs.List.{slice_get}
use Rattle.std.proofs.lemmas.List.{drop_all, take_all}
use Rattle.house.specs.Tables.{closed_up}
use Rattle.invariants.proofs.Lists.{mem-drop, mem-take}

pub nth_here : {X : Type 0} (xs : List X) (i : ℕ) (x d : X) → slice_get xs i ≡ Some x → (i < length xs) × (get_or xs i d ≡ x)
nth_here [] i x d e = absurd (let z : ◌≡◌ {A = ℕ} 0 1 = cc in omega arith)
nth_here (y ∷ ys) zero x d e = (omega arith, cc)
nth_here (y ∷ ys) (suc i) x d e = let h = nth_here ys i x d e in (omega (arith, h.0), h.1)

-- the first n rows, of rows that have moved up by one behind a first that left
front : {X : Type 0} (y : X) (ys : List X) (n : ℕ) → take n (take n ys ++ drop n (y ∷ ys)) ≡ take n ys
front y ys zero = refl
front y [] (suc n) = ap (take (suc n)) (drop_all n [] (omega arith))
front y (z ∷ zs) (suc n) = ap (λ xs. z ∷ xs) (front z zs n)

-- of n + 1 rows one leaves, and those behind it move up: the first n rows are the others
closed : {X : Type 0} (xs : List X) (p n : ℕ) → p ≤ n →
    take n (take p xs ++ (drop (suc p) (take (suc n) xs) ++ drop n xs)) ≡ take p xs ++ drop (suc p) (take (suc n) xs)
closed [] zero n h = ap (take n) (drop_all n [] (omega arith)) ∙ take_all n [] (omega arith)
closed (y ∷ ys) zero n h = front y ys n
closed xs (suc p) zero h = absurd (omega arith)
closed [] (suc p) (suc n) h = refl
closed (y ∷ ys) (suc p) (suc n) h = ap (λ xs. y ∷ xs) (closed ys p n (omega arith))

-- a message that waits once another has left did so before
pub mem-closed : {X : Type 0} (x : X) (xs : List X) (p n : ℕ) → p < n → Memᴰ x (take (n - 1) (closed_up p n xs)) → Memᴰ x (take n xs)
mem-closed x xs p zero h m = absurd (omega arith)
mem-closed x xs p (suc n) h m =
    let e : suc n - 1 ≡ n = omega arith in
    let f : p + 1 ≡ suc p = omega arith in
    let g : take (suc n - 1) (closed_up p (suc n) xs) ≡ take n (take p xs ++ (drop (suc p) (take (suc n) xs) ++ drop n xs)) = rw (e, f) refl in
    let r : take p xs ≡ take p (take (suc n) xs) = sym (take-take-le xs p (suc n) (omega arith)) in
    let others = subst (Memᴰ x) (g ∙ closed xs p n (omega arith) ∙ ap (λ ys. ys ++ drop (suc p) (take (suc n) xs)) r) m in
    elim (mem-take x (take (suc n) xs) p (drop (suc p) (take (suc n) xs)) others) [
      | inl k ↦ k
      | inr k ↦ mem-drop x (take (suc n) xs) (suc p) k
    ]
  where
    take-take-le : {X : Type 0} (xs : List X) (p n : ℕ) → p ≤ n → take p (take n xs) ≡ take p xs
    take-take-le xs zero n h = refl
    take-take-le xs (suc p) zero h = absurd (omega arith)
    take-take-le [] (suc p) (suc n) h = refl
    take-take-le (y ∷ ys) (suc p) (suc n) h = ap (λ zs. y ∷ zs) (take-take-le ys p n (omega arith))

-- a message at a position below n is one of the first n
pub mem-nth : {X : Type 0} (xs : List X) (p n : ℕ) (x : X) → p < n → slice_get xs p ≡ Some x → Memᴰ x (take n xs)
mem-nth [] p n x h e = absurd (let z : ◌≡◌ {A = ℕ} 0 1 = cc in omega arith)
mem-nth (y ∷ ys) p zero x h e = absurd (omega arith)
mem-nth (y ∷ ys) zero (suc n) x h e = Memᴰ.head (let q : y ≡ x = cc in sym q)
mem-nth (y ∷ ys) (suc p) (suc n) x h e = Memᴰ.tail (mem-nth ys p n x (omega arith) e)
