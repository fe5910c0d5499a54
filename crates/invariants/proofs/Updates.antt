-- A function with another value in one place.
use Rattle.std.proofs.Common.{◌≡◌, ℕ, cond, eqb, refl}
use Rattle.std.proofs.lemmas.Bool.{eq-eqb, ne_eqb}

unfoldable pub update : {X : Type 0} → (ℕ → X) → ℕ → X → ℕ → X
update f i x j = cond (eqb j i) x (f j)

pub update_same : {X : Type 0} (f : ℕ → X) (i : ℕ) (x : X) → update f i x i ≡ x
unfolding update
update_same f i x = rw (eq-eqb i i refl) refl

pub update_other : {X : Type 0} (f : ℕ → X) (i : ℕ) (x : X) (j : ℕ) → (j ≡ i → ⊥) → update f i x j ≡ f j
unfolding update
update_other f i x j n = rw (ne_eqb j i n) refl
