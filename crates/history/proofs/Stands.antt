-- What stands in the line, by places.
use Rattle.std.proofs.Common.{◌≡◌, ℕ, zero, suc, Bool, true, false, ◌⊎◌, List, [], ◌∷◌, is_some, Some, None, filter, Option, refl, ap, ◌∙◌, inl, inr, arith}
use Rattle.std.specs.List.{ContainsAt as Has, slice_get}
use Rattle.std.proofs.ByRecursion.{all_kept_by, kept_by_passes, all_shuffled, has_shuffled}
use Rattle.std.proofs.lemmas.Option.{slice_get-get_or}
use Rattle.std.proofs.lemmas.Bool.{cond_both}
use Rattle.parts.specs.declared.stamps.Stamp.{Stamp}
use Rattle.replica.specs.declared.operations.Kind.{Kind}
use Rattle.replica.specs.declared.operations.Kind.TheVariants.{Read, Write}
use Rattle.history.specs.Operations.{Collection, Operation}
use Rattle.history.specs.Lines.{in_line, line}
use Rattle.history.proofs.Facts.{Tidy}
use Rattle.history.proofs.Sort.{shuffled-line, all-nth, from-nth}

-- membership by places
pub has-nth : {X : Type 0} (xs : List X) (k : ℕ) (x : X) → slice_get xs k ≡ Some x → Has xs x
has-nth [] k x e = absurd (grind arith)
has-nth (y ∷ xs) zero x e = (0, omega arith, λ d. cc)
has-nth (y ∷ xs) (suc k) x e = let h = has-nth xs k x e in (suc h.0, omega (arith, h.1), h.2)

pub nth-has : {X : Type 0} (xs : List X) (x : X) → Has xs x → (k : ℕ) × (slice_get xs k ≡ Some x)
nth-has xs x h = (h.0, slice_get-get_or xs h.0 x h.1 ∙ ap Some (h.2 x))

kept-nth : {X : Type 0} (t : X → Bool) (xs : List X) (k : ℕ) (x : X) → slice_get xs k ≡ Some x → t x ≡ true → (j : ℕ) × (slice_get (filter t xs) j ≡ Some x)
kept-nth t [] k x e h = absurd (grind arith)
kept-nth t (y ∷ xs) zero x e h = let u : y ≡ x = cc in
    cond_both (t y) (y ∷ filter t xs) (filter t xs) (λ zs. (j : ℕ) × (slice_get zs j ≡ Some x)) (λ _. (0, e)) (λ f. absurd (let z : t x ≡ false = rw (← u) f in grind arith))
kept-nth t (y ∷ xs) (suc k) x e h = let r = kept-nth t xs k x e h in
    cond_both (t y) (y ∷ filter t xs) (filter t xs) (λ zs. (j : ℕ) × (slice_get zs j ≡ Some x)) (λ _. (suc r.0, r.1)) (λ _. r)

-- whatever stands in the line is one of the operations, and belongs in it
pub line-from : {C : Type 0} (os : List (Operation C)) (k : ℕ) (p : Operation C) → slice_get (line os) k ≡ Some p → (j : ℕ) × (slice_get os j ≡ Some p) × (in_line p ≡ true)
line-from {C} os k p e =
    let Among : Operation C → Type 0 = λ p. (j : ℕ) × (slice_get os j ≡ Some p) in
    let a = all_shuffled Among (filter in_line os) (line os) (shuffled-line os) (all_kept_by in_line Among os (from-nth Among os (λ k x h. (k, h)))) in
    let b = all_shuffled (λ p. in_line p ≡ true) (filter in_line os) (line os) (shuffled-line os) (kept_by_passes in_line os) in
    let r = all-nth Among (line os) k p a e in
    (r.0, r.1, all-nth (λ p. in_line p ≡ true) (line os) k p b e)

-- and whatever belongs in it stands there
pub line-has : {C : Type 0} (os : List (Operation C)) (k : ℕ) (p : Operation C) → slice_get os k ≡ Some p → in_line p ≡ true → (j : ℕ) × (slice_get (line os) j ≡ Some p)
line-has os k p e h = let r = kept-nth in_line os k p e h in
    nth-has (line os) p (has_shuffled (filter in_line os) (line os) p (shuffled-line os) (has-nth (filter in_line os) r.0 p r.1))

some_is : {X : Type 0} (o : Option X) → is_some o ≡ true → (x : X) × (o ≡ Some x)
some_is None e = absurd (grind arith)
some_is (Some x) e = (x, refl)

pub kind-cases : {C : Type 0} (k : Kind C) → (k ≡ Read) ⊎ ((c : C) × (k ≡ Write c))
kind-cases Read = inl refl
kind-cases (Write c) = inr (c, refl)

-- a read in the line has been collected
pub read-collected : {C : Type 0} (p : Operation C) → p.kind ≡ Read → in_line p ≡ true → (a : Collection C) × (p.collected ≡ Some a)
read-collected p k h = some_is p.collected (rw k at h)

-- everything in the line has been settled
pub line-stamped : {C : Type 0} (os : List (Operation C)) → Tidy os → (k : ℕ) (p : Operation C) → slice_get (line os) k ≡ Some p → (s : Stamp) × (p.stamp ≡ Some s)
line-stamped os tidy k p e = let r = line-from os k p e in elim (kind-cases p.kind) [
  | inl z ↦ (let a = read-collected p z r.2 in (a.0.stamp, tidy.stamped r.0 p a.0 r.1 a.1))
  | inr c ↦ some_is p.stamp (rw c.1 at r.2)
]
