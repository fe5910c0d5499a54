-- In every history the operations stand in the order begun, and a collect comes after its operation was begun.
use Rattle.std.proofs.Common.{◌≡◌, ℕ, suc, ◌+◌, ◌<◌, List, [], ◌∷◌, ◌++◌, length, set, Some, sym, refl, ap, ◌∙◌, inl, inr, arith}
use Rattle.std.specs.List.{slice_get}
use Rattle.parts.specs.declared.counts.Terminal.{Terminal}
use Rattle.replica.specs.declared.operations.Kind.{Kind}
use Rattle.history.specs.Events.{Event, begun, settled, collected, other}
use Rattle.history.specs.Operations.{Collection, Operation, started, with_stamp, with_collection, at_last, after, operations_from, operations_of}
use Rattle.history.proofs.Places.{nth-below, nth-push, nth-set}
use Rattle.history.proofs.More.{last_set, none-set, last-or-none}

-- as of position n
pub record Timed {C : Type 0} (n : ℕ) (os : List (Operation C)) : Type 0 where
  pub rising : (j k : ℕ) (p q : Operation C) → slice_get os j ≡ Some p → slice_get os k ≡ Some q → j < k → p.begun < q.begun
  pub within : (k : ℕ) (p : Operation C) → slice_get os k ≡ Some p → p.begun < n
  pub later : (k : ℕ) (p : Operation C) (a : Collection C) → slice_get os k ≡ Some p → p.collected ≡ Some a → p.begun < a.at

timed-none : {C : Type 0} → Timed {C = C} 0 []
timed-none = record { rising = λ j k p q e f l. absurd (grind arith); within = λ k p e. absurd (grind arith); later = λ k p a e f. absurd (grind arith) }

module _ {C : Type 0} (n : ℕ) (os : List (Operation C)) (w : Timed n os) where
  timed-same : Timed (suc n) os
  timed-same = record { rising = w.rising; within = λ k p e. let b = w.within k p e in omega arith; later = w.later }

  timed-push : (i : Terminal) (k : Kind C) → Timed (suc n) (os ++ started n i k ∷ [])
  timed-push i k = let new = started n i k in record {
    rising = λ m j p q e f l. elim (nth-push os new m p e) [
      | inl x ↦ elim (nth-push os new j q f) [ inl y ↦ w.rising m j p q x y l | inr y ↦ rw (← y.1) (w.within m p x) ]
      | inr x ↦ elim (nth-push os new j q f) [ inl y ↦ absurd (let b = nth-below os j q y in omega arith) | inr y ↦ absurd (omega arith) ]
    ];
    within = λ m p e. elim (nth-push os new m p e) [ inl x ↦ (let b = w.within m p x in omega arith) | inr x ↦ rw (← x.1) (omega arith) ];
    later = λ m p a e f. elim (nth-push os new m p e) [ inl x ↦ w.later m p a x f | inr x ↦ absurd (let u = x.1 in grind arith) ];
  }

  timed-set : (k : ℕ) (o o' : Operation C) → slice_get os k ≡ Some o → o'.begun ≡ o.begun → ((a : Collection C) → o'.collected ≡ Some a → o.begun < a.at) →
      Timed (suc n) (set os k o')
  timed-set k o o' here same ends = record {
    rising = λ i j p q e f l. let a = was i p e in let b = was j q f in let r = w.rising i j a.0 b.0 a.1 b.1 l in omega arith;
    within = λ j p e. let a = was j p e in let r = w.within j a.0 a.1 in omega arith;
    later = λ j p a e f. elim (nth-set os k j o o' p here e) [ inl x ↦ rw (← x.1) (rw same (ends a (ap (λ p. p.collected) x.1 ∙ f))) | inr x ↦ w.later j p a x.1 f ];
  }
    where
      was : (j : ℕ) (p : Operation C) → slice_get (set os k o') j ≡ Some p → (q : Operation C) × (slice_get os j ≡ Some q) × (q.begun ≡ p.begun)
      was j p e = elim (nth-set os k j o o' p here e) [ inl x ↦ (o, ap (slice_get os) x.0 ∙ here, sym same ∙ ap (λ p. p.begun) x.1) | inr x ↦ (p, x.1, refl) ]

  timed-last : (i : Terminal) (f : Operation C → Operation C) → ((o : Operation C) → (f o).begun ≡ o.begun) →
      ((k : ℕ) (o : Operation C) → slice_get os k ≡ Some o → (a : Collection C) → (f o).collected ≡ Some a → o.begun < a.at) → Timed (suc n) (at_last i f os)
  timed-last i f same ends = elim (last-or-none os i) [
    | inl l ↦ rw (last_set i f os l.0 l.1 l.2) (timed-set l.0 l.1 (f l.1) l.2.here (same l.1) (ends l.0 l.1 l.2.here))
    | inr none ↦ rw (none-set i f os none) timed-same
  ]

  timed-after : (e : Event C) → Timed (suc n) (after n e os)
  unfolding after
  timed-after (begun i k) = timed-push i k
  timed-after (settled i s) = timed-last i (with_stamp s) (λ o. refl) (λ k o e a. w.later k o a e)
  timed-after (collected i c s) = timed-last i (with_collection (record { at = n; card = c; stamp = s })) (λ o. refl) (λ k o e a f. let b = w.within k o e in let u : record { at = n; card = c; stamp = s } ≡ a = cc in let z : n ≡ a.at = ap (λ a. a.at) u in omega arith)
  timed-after other = timed-same

timed-from : {C : Type 0} (n : ℕ) (os : List (Operation C)) (h : List (Event C)) → Timed n os → Timed (n + length h) (operations_from n os h)
unfolding operations_from
timed-from n os [] w = let z : n + 0 ≡ n = omega arith in rw z w
timed-from n os (e ∷ h) w = let z : n + suc (length h) ≡ suc n + length h = omega arith in rw z (timed-from (suc n) (after n e os) h (timed-after n os w e))

pub timed : {C : Type 0} (h : List (Event C)) → Timed (length h) (operations_of h)
unfolding operations_of
timed h = let z : 0 + length h ≡ length h = omega arith in rw z at (timed-from 0 [] h timed-none)
