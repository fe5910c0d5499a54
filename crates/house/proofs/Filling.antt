-- A table whose first k rows have been written.
use Rattle.std.proofs.Common.{◌≡◌, ℕ, zero, suc, ◌+◌, ◌<◌, List, [], ◌∷◌, ◌++◌, length, drop, set, replicate, refl, ap, add-one, arith}

further : {X : Type 0} (xs : List X) (k : ℕ) (y : X) → k < length xs → set (replicate k y ++ drop k xs) k y ≡ replicate (suc k) y ++ drop (suc k) xs
further [] k y h = absurd (omega arith)
further (x ∷ xs) zero y h = refl
further (x ∷ xs) (suc k) y h = ap (λ zs. y ∷ zs) (further xs k y (omega arith))

-- one turn of the loop
pub filled_more : {X : Type 0} (xs zs : List X) (k : ℕ) (y : X) → k < length xs → zs ≡ replicate k y ++ drop k xs → set zs k y ≡ replicate (k + 1) y ++ drop (k + 1) xs
filled_more xs zs k y h e = rw (e, add-one) (further xs k y h)
