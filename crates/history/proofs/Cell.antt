-- The plain cell along a list of operations: its last write counts.
use Rattle.std.proofs.Common.{◌≡◌, ℕ, zero, suc, ◌<◌, List, [], ◌∷◌, take, Some, refl, arith}
use Rattle.std.specs.List.{slice_get}
use Rattle.replica.specs.declared.operations.Kind.TheVariants.{Read, Write}
use Rattle.history.specs.Operations.{Operation}
use Rattle.history.specs.Lines.{cell_after}

-- reads leave the card as it is
pub cell-reads : {C : Type 0} (c : C) (xs : List (Operation C)) (n : ℕ) → ((j : ℕ) (r : Operation C) → j < n → slice_get xs j ≡ Some r → r.kind ≡ Read) →
    cell_after c (take n xs) ≡ c
unfolding cell_after
cell-reads c xs zero h = refl
cell-reads c [] (suc n) h = refl
cell-reads c (x ∷ xs) (suc n) h = rw (h 0 x (omega arith) refl) (cell-reads c xs n (λ j r l. h (suc j) r (omega arith)))

-- behind a write they leave the card written
pub cell-write : {C : Type 0} (c : C) (xs : List (Operation C)) (m n : ℕ) (q : Operation C) (d : C) → m < n → slice_get xs m ≡ Some q → q.kind ≡ Write d →
    ((j : ℕ) (r : Operation C) → m < j → j < n → slice_get xs j ≡ Some r → r.kind ≡ Read) → cell_after c (take n xs) ≡ d
unfolding cell_after
cell-write c xs m zero q d l e w h = absurd (omega arith)
cell-write c [] m (suc n) q d l e w h = absurd (grind arith)
cell-write c (x ∷ xs) zero (suc n) q d l e w h = let u : x.kind ≡ Write d = cc in rw u (cell-reads d xs n (λ j r k. h (suc j) r (omega arith) (omega arith)))
cell-write c (x ∷ xs) (suc m) (suc n) q d l e w h = cell-write _ xs m n q d (omega arith) e w (λ j r a b. h (suc j) r (omega arith) (omega arith))
