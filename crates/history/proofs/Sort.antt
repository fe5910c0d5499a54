-- `line` has each operation in line once, and each ahead of those behind it.
use Rattle.std.proofs.Common.{◌≡◌, ℕ, zero, suc, ◌<◌, true, ◌≢◌, List, [], ◌∷◌, Some, filter, refl, ap, inl, inr, arith}
use Rattle.std.specs.List.{AllByRecursion, slice_get}
use Rattle.std.specs.List.Sorted.{IsPermutation}
use Rattle.std.proofs.lemmas.Bool.{cases_order, cond_both}
use Rattle.std.proofs.ByRecursion.{All-weaker, all_kept_by, all_shuffled}
use Rattle.std.proofs.lemmas.List.Sorted.{IsPermutation-refl, IsPermutation-trans, IsPermutation-cons, IsPermutation-swap}
use Rattle.history.specs.Operations.{Operation}
use Rattle.history.specs.Lines.{in_line, ahead, insert, sorted, line}
use Rattle.history.proofs.Order.{irrefl, trans, total}

shuffled-insert : {C : Type 0} (p : Operation C) (qs : List (Operation C)) → IsPermutation (p ∷ qs) (insert p qs)
unfolding insert
shuffled-insert p [] = IsPermutation-refl (p ∷ [])
shuffled-insert {C} p (q ∷ qs) = cond_both (ahead p q) (p ∷ q ∷ qs) (q ∷ insert p qs) (IsPermutation (p ∷ q ∷ qs))
    (λ _. IsPermutation-refl (p ∷ q ∷ qs))
    (λ _. IsPermutation-trans (p ∷ q ∷ qs) (q ∷ p ∷ qs) (q ∷ insert p qs) (IsPermutation-swap (p ∷ q ∷ qs) (q ∷ p ∷ qs) 0 1 (omega arith) (omega arith) refl) (IsPermutation-cons q (p ∷ qs) (insert p qs) (shuffled-insert p qs)))

shuffled-sorted : {C : Type 0} (ps : List (Operation C)) → IsPermutation ps (sorted ps)
unfolding sorted
shuffled-sorted [] = IsPermutation-refl []
shuffled-sorted (p ∷ ps) =
    IsPermutation-trans (p ∷ ps) (p ∷ sorted ps) (insert p (sorted ps)) (IsPermutation-cons p ps (sorted ps) (shuffled-sorted ps)) (shuffled-insert p (sorted ps))

pub shuffled-line : {C : Type 0} (os : List (Operation C)) → IsPermutation (filter in_line os) (line os)
unfolding line
shuffled-line os = shuffled-sorted (filter in_line os)

-- each ahead of all behind it
abbrev pub Sorted : {C : Type 0} → List (Operation C) → Type 0
Sorted [] = Unit {0}
Sorted (p ∷ ps) = AllByRecursion (λ q. ahead p q ≡ true) ps × Sorted ps

-- no two begun at one position
abbrev pub Apart : {C : Type 0} → List (Operation C) → Type 0
Apart [] = Unit {0}
Apart (p ∷ ps) = AllByRecursion (λ q. p.begun ≢ q.begun) ps × Apart ps

insert-sorted : {C : Type 0} (p : Operation C) (qs : List (Operation C)) → AllByRecursion (λ q. p.begun ≢ q.begun) qs → Sorted qs → Sorted (insert p qs)
unfolding insert
insert-sorted p [] a s = (tt, tt)
insert-sorted p (q ∷ qs) a s = cond_both (ahead p q) (p ∷ q ∷ qs) (q ∷ insert p qs) Sorted
    (λ h. ((h, All-weaker (λ r. ahead q r ≡ true) (λ r. ahead p r ≡ true) (λ r k. trans p q r h k) qs s.0), s))
    (λ h. (all_shuffled (λ r. ahead q r ≡ true) (p ∷ qs) (insert p qs) (shuffled-insert p qs) (total p q a.0 h, s.0), insert-sorted p qs a.1 s.1))

sorted-sorted : {C : Type 0} (ps : List (Operation C)) → Apart ps → Sorted (sorted ps)
unfolding sorted
sorted-sorted [] a = tt
sorted-sorted (p ∷ ps) a = insert-sorted p (sorted ps) (all_shuffled (λ q. p.begun ≢ q.begun) ps (sorted ps) (shuffled-sorted ps) a.0) (sorted-sorted ps a.1)

apart-kept : {C : Type 0} (os : List (Operation C)) → Apart os → Apart (filter in_line os)
apart-kept [] a = tt
apart-kept (p ∷ os) a = cond_both (in_line p) (p ∷ filter in_line os) (filter in_line os) Apart
    (λ _. (all_kept_by in_line (λ q. p.begun ≢ q.begun) os a.0, apart-kept os a.1))
    (λ _. apart-kept os a.1)

pub sorted-line : {C : Type 0} (os : List (Operation C)) → Apart os → Sorted (line os)
unfolding line
sorted-line os a = sorted-sorted (filter in_line os) (apart-kept os a)

-- the same by places
pub all-nth : {X : Type 0} (P : X → Type 0) (xs : List X) (k : ℕ) (x : X) → AllByRecursion P xs → slice_get xs k ≡ Some x → P x
all-nth P [] k x a e = absurd (grind arith)
all-nth P (y ∷ xs) zero x a e = let u : y ≡ x = cc in rw (← u) a.0
all-nth P (y ∷ xs) (suc k) x a e = all-nth P xs k x a.1 e

pub sorted-nth : {C : Type 0} (xs : List (Operation C)) (j k : ℕ) (p q : Operation C) → Sorted xs → j < k → slice_get xs j ≡ Some p → slice_get xs k ≡ Some q → ahead p q ≡ true
sorted-nth [] j k p q s l e f = absurd (grind arith)
sorted-nth (x ∷ xs) zero zero p q s l e f = absurd (omega arith)
sorted-nth (x ∷ xs) zero (suc k) p q s l e f = let u : x ≡ p = cc in rw (← u) (all-nth (λ r. ahead x r ≡ true) xs k q s.0 f)
sorted-nth (x ∷ xs) (suc j) zero p q s l e f = absurd (omega arith)
sorted-nth (x ∷ xs) (suc j) (suc k) p q s l e f = sorted-nth xs j k p q s.1 (omega arith) e f

-- who is ahead stands ahead
pub stands : {C : Type 0} (xs : List (Operation C)) (j k : ℕ) (p q : Operation C) → Sorted xs → slice_get xs j ≡ Some p → slice_get xs k ≡ Some q → ahead p q ≡ true → j < k
stands xs j k p q s e f h = elim (cases_order j k) [
  | inl same ↦ absurd (let u : slice_get xs j ≡ slice_get xs k = ap (slice_get xs) same in let v : p ≡ q = cc in let i = irrefl p in let z : ahead p p ≡ true = rw v (rw v at h) in grind arith)
  | inr apart ↦ elim apart [ inl l ↦ l | inr l ↦ absurd (let z = trans p q p h (sorted-nth xs k j q p s l f e) in let i = irrefl p in grind arith) ]
]

-- from places to Apart
pub from-nth : {X : Type 0} (P : X → Type 0) (xs : List X) → ((k : ℕ) (x : X) → slice_get xs k ≡ Some x → P x) → AllByRecursion P xs
from-nth P [] h = tt
from-nth P (x ∷ xs) h = (h 0 x refl, from-nth P xs (λ k. h (suc k)))

pub apart-nth : {C : Type 0} (os : List (Operation C)) → ((j k : ℕ) (p q : Operation C) → slice_get os j ≡ Some p → slice_get os k ≡ Some q → j < k → p.begun < q.begun) →
    Apart os
apart-nth [] h = tt
apart-nth (p ∷ os) h = (from-nth (λ q. p.begun ≢ q.begun) os (λ k q e. let l = h 0 (suc k) p q refl e (omega arith) in omega arith), apart-nth os (λ j k p' q e f l. h (suc j) (suc k) p' q e f (omega arith)))
