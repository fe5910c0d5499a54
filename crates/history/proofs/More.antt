-- What one more event makes of the operations.
use Rattle.std.proofs.Common.{◌≡◌, ℕ, zero, suc, ◌+◌, ◌<◌, true, false, eqb, ◌≢◌, ◌⊎◌, List, [], ◌∷◌, ◌++◌, length, set, Some, refl, ap, ◌∙◌, inl, inr, arith}
use Rattle.std.specs.List.{slice_get}
use Rattle.std.proofs.lemmas.Bool.{cases_eq, eq-eqb, ne_eqb}
use Rattle.parts.specs.declared.counts.Terminal.{Terminal}
use Rattle.parts.specs.declared.stamps.Stamp.{Stamp}
use Rattle.replica.specs.declared.operations.Kind.{Kind}
use Rattle.history.specs.Events.{Event, begun, settled, collected, other}
use Rattle.history.specs.Operations.{Operation, started, with_stamp, with_collection, any_at, at_last, after, operations_from, operations_of, Last}

from_more : {C : Type 0} (n : ℕ) (os : List (Operation C)) (h : List (Event C)) (e : Event C) →
    operations_from n os (h ++ e ∷ []) ≡ after (n + length h) e (operations_from n os h)
unfolding operations_from
from_more n os [] e = let z : n + 0 ≡ n = omega arith in rw z refl
from_more n os (d ∷ h) e = let z : n + suc (length h) ≡ suc n + length h = omega arith in rw z (from_more (suc n) (after n d os) h e)

-- one more event
operations-more : {C : Type 0} (h : List (Event C)) (e : Event C) → operations_of (h ++ e ∷ []) ≡ after (length h) e (operations_of h)
unfolding operations_of
operations-more h e = let z : 0 + length h ≡ length h = omega arith in from_more 0 [] h e ∙ ap (λ n. after n e (operations_from 0 [] h)) z

pub more-begins : {C : Type 0} (h : List (Event C)) (i : Terminal) (k : Kind C) → operations_of (h ++ begun i k ∷ []) ≡ operations_of h ++ started (length h) i k ∷ []
unfolding after
more-begins h i k = operations-more h (begun i k)

pub more-other : {C : Type 0} (h : List (Event C)) → operations_of (h ++ other ∷ []) ≡ operations_of h
unfolding after
more-other h = operations-more h other

-- terminals are told apart by their numbers
same-terminal : (a b : Terminal) → a.0 ≡ b.0 → a ≡ b
same-terminal a b e = ap (λ n. record { 0 = n }) e

cases-terminal : (a b : Terminal) → (a ≡ b) ⊎ (a ≢ b)
cases-terminal a b = elim (cases_eq a.0 b.0) [ inl e ↦ inl (same-terminal a b e) | inr ne ↦ inr (λ e. ne (ap (λ (t : Terminal). t.0) e)) ]

at-terminal : (a b : Terminal) → a ≡ b → eqb a.0 b.0 ≡ true
at-terminal a b e = eq-eqb a.0 b.0 (ap (λ (t : Terminal). t.0) e)

not-at-terminal : (a b : Terminal) → a ≢ b → eqb a.0 b.0 ≡ false
not-at-terminal a b ne = ne_eqb a.0 b.0 (λ e. ne (same-terminal a b e))

-- no operation at terminal i
abbrev pub NoneAt : {C : Type 0} → List (Operation C) → Terminal → Type 0
NoneAt {C} os i = (k : ℕ) (o : Operation C) → slice_get os k ≡ Some o → o.terminal ≢ i

none_any : {C : Type 0} (i : Terminal) (os : List (Operation C)) → NoneAt os i → any_at i os ≡ false
unfolding any_at
none_any i [] h = refl
none_any i (p ∷ os) h = rw (not-at-terminal p.terminal i (h 0 p refl)) (none_any i os (λ k. h (suc k)))

one-any : {C : Type 0} (i : Terminal) (os : List (Operation C)) (k : ℕ) (o : Operation C) → slice_get os k ≡ Some o → o.terminal ≡ i → any_at i os ≡ true
unfolding any_at
one-any i [] k o e t = absurd (grind arith)
one-any i (p ∷ os) zero o e t = let u : p ≡ o = cc in rw (at-terminal p.terminal i (ap (λ (o : Operation _). o.terminal) u ∙ t)) refl
one-any i (p ∷ os) (suc k) o e t = let a = one-any i os k o e t in grind arith

-- the last one at its terminal is changed in its place
pub last_set : {C : Type 0} (i : Terminal) (f : Operation C → Operation C) (os : List (Operation C)) (k : ℕ) (o : Operation C) → Last os i k o →
    at_last i f os ≡ set os k (f o)
unfolding at_last
last_set i f [] k o l = absurd (let e = l.here in grind arith)
last_set i f (p ∷ os) zero o l =
    let e = l.here in let u : p ≡ o = cc in
    let a = none_any i os (λ k q g. l.last (suc k) q (omega arith) g) in
    let b = at-terminal o.terminal i l.own in rw (a, u, b) refl
last_set i f (p ∷ os) (suc k) o l =
    let a = one-any i os k o l.here l.own in
    rw a (ap (λ zs. p ∷ zs) (last_set i f os k o (record { here = l.here; own = l.own; last = λ j q m g. l.last (suc j) q (omega arith) g })))

-- and where there is none nothing is changed
pub none-set : {C : Type 0} (i : Terminal) (f : Operation C → Operation C) (os : List (Operation C)) → NoneAt os i → at_last i f os ≡ os
unfolding at_last
none-set i f [] h = refl
none-set i f (p ∷ os) h = let a = none_any i os (λ k. h (suc k)) in let b = not-at-terminal p.terminal i (h 0 p refl) in rw (a, b) refl

later-cons : {C : Type 0} (os : List (Operation C)) (i : Terminal) (k : ℕ) → ((j : ℕ) (q : Operation C) → k < j → slice_get os j ≡ Some q → q.terminal ≢ i) →
    (p : Operation C) (j : ℕ) (q : Operation C) → suc k < j → slice_get (p ∷ os) j ≡ Some q → q.terminal ≢ i
later-cons os i k h p zero q m g = absurd (omega arith)
later-cons os i k h p (suc j) q m g = h j q (omega arith) g

none-later : {C : Type 0} (os : List (Operation C)) (i : Terminal) → NoneAt os i → (p : Operation C) (j : ℕ) (q : Operation C) → 0 < j →
    slice_get (p ∷ os) j ≡ Some q → q.terminal ≢ i
none-later os i h p zero q m g = absurd (omega arith)
none-later os i h p (suc j) q m g = h j q g

none-cons : {C : Type 0} (os : List (Operation C)) (i : Terminal) → NoneAt os i → (p : Operation C) → p.terminal ≢ i → NoneAt (p ∷ os) i
none-cons os i h p t zero q g = let u : p ≡ q = cc in rw (← u) t
none-cons os i h p t (suc j) q g = h j q g

pub last-or-none : {C : Type 0} (os : List (Operation C)) (i : Terminal) → ((k : ℕ) × (o : Operation C) × Last os i k o) ⊎ NoneAt os i
last-or-none [] i = inr (λ k o e. absurd (grind arith))
last-or-none (p ∷ os) i = elim (last-or-none os i) [
  | inl l ↦ inl (suc l.0, l.1, record { here = l.2.here; own = l.2.own; last = later-cons os i l.0 l.2.last p })
  | inr n ↦ elim (cases-terminal p.terminal i) [
    | inl t ↦ inl (0, p, record { here = refl; own = t; last = none-later os i n p })
    | inr t ↦ inr (none-cons os i n p t)
  ]
]

pub more-settles : {C : Type 0} (h : List (Event C)) (i : Terminal) (s : Stamp) (k : ℕ) (o : Operation C) → Last (operations_of h) i k o →
    operations_of (h ++ settled i s ∷ []) ≡ set (operations_of h) k (with_stamp s o)
unfolding after
more-settles h i s k o l = operations-more h (settled i s) ∙ last_set i (with_stamp s) (operations_of h) k o l

pub more-collects : {C : Type 0} (h : List (Event C)) (i : Terminal) (c : C) (s : Stamp) (k : ℕ) (o : Operation C) → Last (operations_of h) i k o →
    operations_of (h ++ collected i c s ∷ []) ≡ set (operations_of h) k (with_collection (record { at = length h; card = c; stamp = s }) o)
unfolding after
more-collects h i c s k o l =
    operations-more h (collected i c s) ∙ last_set i (with_collection (record { at = length h; card = c; stamp = s })) (operations_of h) k o l
