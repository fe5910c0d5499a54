-- The line is the one sorted list of the operations in line, and the law holds of it.
use Rattle.std.proofs.Common.{◌≡◌, ℕ, zero, suc, ◌<◌, true, ◌⊎◌, List, [], ◌∷◌, Some, filter, sym, refl, ap₂, inl, inr, arith}
use Rattle.std.specs.List.{AllByRecursion, slice_get}
use Rattle.std.proofs.lemmas.List.Sorted.{IsPermutation-sym}
use Rattle.std.proofs.ByRecursion.{has_shuffled}
use Rattle.parts.specs.declared.counts.Terminal.{Terminal}
use Rattle.history.specs.Events.{Event, settled, collected}
use Rattle.history.specs.Operations.{Operation, operations_of}
use Rattle.history.specs.Lines.{in_line, ahead, line}
use Rattle.history.specs.Law.{Atomic, Arranged, Lined}
use Rattle.history.proofs.Facts.{Stamps, Orderly}
use Rattle.history.proofs.Order.{irrefl, trans}
use Rattle.history.proofs.Sort.{Sorted, sorted-line, shuffled-line, apart-nth, from-nth, all-nth, sorted-nth}
use Rattle.history.proofs.Timed.{timed}
use Rattle.history.proofs.Keeps.{tidy}
use Rattle.history.proofs.Law.{unique, cell, order}
use Rattle.history.proofs.Stands.{has-nth, nth-has}

line-sorted : {C : Type 0} (h : List (Event C)) → Sorted (line (operations_of h))
line-sorted h = sorted-line (operations_of h) (apart-nth (operations_of h) (timed h).rising)

-- two sorted lists with the same members are one
Within : {X : Type 0} → List X → List X → Type 0
Within {X} xs ys = (k : ℕ) (x : X) → slice_get xs k ≡ Some x → (j : ℕ) × (slice_get ys j ≡ Some x)

head-or-behind : {C : Type 0} (y : Operation C) (ys : List (Operation C)) (k : ℕ) (x : Operation C) → AllByRecursion (λ z. ahead y z ≡ true) ys → slice_get (y ∷ ys) k ≡ Some x →
    (y ≡ x) ⊎ (ahead y x ≡ true)
head-or-behind y ys zero x a e = inl cc
head-or-behind y ys (suc k) x a e = inr (all-nth (λ z. ahead y z ≡ true) ys k x a e)

one-head : {C : Type 0} (x y : Operation C) → (x ≡ y) ⊎ (ahead x y ≡ true) → (y ≡ x) ⊎ (ahead y x ≡ true) → x ≡ y
one-head x y (inl e) v = e
one-head x y (inr l) (inl e) = sym e
one-head x y (inr l) (inr m) = absurd (let z = trans x y x l m in let i = irrefl x in grind arith)

tail_within : {C : Type 0} (x y : Operation C) (xs ys : List (Operation C)) → x ≡ y → AllByRecursion (λ z. ahead x z ≡ true) xs → Within (x ∷ xs) (y ∷ ys) → Within xs ys
unfolding Within
tail_within x y xs ys same a f k z e = go (f (suc k) z e).0 (f (suc k) z e).1
  where
    go : (j : ℕ) → slice_get (y ∷ ys) j ≡ Some z → (j : ℕ) × (slice_get ys j ≡ Some z)
    go zero g = absurd (let b = all-nth (λ z. ahead x z ≡ true) xs k z a e in let u : x ≡ z = cc in let c : ahead z z ≡ true = rw u at b in let i = irrefl z in grind arith)
    go (suc j) g = (j, g)

same-list : {C : Type 0} (xs ys : List (Operation C)) → Sorted xs → Sorted ys → Within xs ys → Within ys xs → xs ≡ ys
unfolding Within
same-list [] [] s t f g = refl
same-list [] (y ∷ ys) s t f g = absurd (let r = g 0 y refl in let e = r.1 in grind arith)
same-list (x ∷ xs) [] s t f g = absurd (let r = f 0 x refl in let e = r.1 in grind arith)
same-list (x ∷ xs) (y ∷ ys) s t f g =
    let fx = f 0 x refl in let gy = g 0 y refl in
    let h : x ≡ y = one-head x y (head-or-behind x xs gy.0 y s.0 gy.1) (head-or-behind y ys fx.0 x t.0 fx.1) in
    let r = same-list xs ys s.1 t.1 (tail_within x y xs ys h s.0 f) (tail_within y x ys xs (sym h) t.0 g) in
    ap₂ (λ z zs. z ∷ zs) h r

sorted-from : {C : Type 0} (xs : List (Operation C)) → ((j k : ℕ) (p q : Operation C) → j < k → slice_get xs j ≡ Some p → slice_get xs k ≡ Some q → ahead p q ≡ true) → Sorted xs
sorted-from [] h = tt
sorted-from (x ∷ xs) h =
    (from-nth (λ z. ahead x z ≡ true) xs (λ k z e. h 0 (suc k) x z (omega arith) refl e), sorted-from xs (λ j k p q l. h (suc j) (suc k) p q (omega arith)))

only : {C : Type 0} (h : List (Event C)) (xs : List (Operation C)) → Arranged (operations_of h) xs → xs ≡ line (operations_of h)
unfolding Within
only h xs l =
    let ys = line (operations_of h) in let ks = filter in_line (operations_of h) in let m = l.members in let n = shuffled-line (operations_of h) in
    same-list xs ys (sorted-from xs l.order) (line-sorted h)
    (λ k z e. nth-has ys z (has_shuffled ks ys z n (has_shuffled xs ks z (IsPermutation-sym ks xs m) (has-nth xs k z e))))
    (λ k z e. nth-has xs z (has_shuffled ks xs z m (has_shuffled ys ks z (IsPermutation-sym ks ys n) (has-nth ys k z e))))

-- the line of any history
pub lined : {C : Type 0} (h : List (Event C)) → Lined (operations_of h)
lined h = record {
  arranged = record { members = shuffled-line (operations_of h); order = λ j k p q l e f. sorted-nth (line (operations_of h)) j k p q (line-sorted h) l e f };
  only = only h;
}

-- the law, of an orderly history whose stamps and cards are right
pub law : {C : Type 0} (first : C) (founder : Terminal) (h : List (Event C)) → Orderly h → Stamps first founder (operations_of h) → Atomic first h
law first founder h o s = let t = tidy h o in record {
  unique = unique first founder (operations_of h) s t;
  cell = cell first founder (operations_of h) s t;
  order = order first founder (operations_of h) s t;
  collects = λ n i c s. o n (collected i c s);
  settles = λ n i s. o n (settled i s);
}
