-- What an orderly history keeps: each collect answers the stamp of its settle.
use Rattle.std.proofs.Common.{◌≡◌, ℕ, zero, suc, ◌⊎◌, List, [], ◌∷◌, ◌++◌, length, take, set, Some, None, Option, sym, refl, ap, ◌∙◌, subst, inl, inr, arith}
use Rattle.std.specs.List.{slice_get}
use Rattle.std.proofs.lemmas.List.{take_all}
use Rattle.parts.specs.declared.counts.Terminal.{Terminal}
use Rattle.parts.specs.declared.stamps.Stamp.{Stamp}
use Rattle.replica.specs.declared.operations.Kind.{Kind}
use Rattle.history.specs.Events.{Event, begun, settled, collected, other}
use Rattle.history.specs.Operations.{Collection, Operation, started, with_stamp, with_collection, operations_of}
use Rattle.history.specs.Law.{Settles, Collects}
use Rattle.history.proofs.Facts.{Fits, Orderly, Tidy}
use Rattle.history.proofs.Places.{nth-below, nth-push, nth-set, take_nth, take-end, take-push}
use Rattle.history.proofs.More.{more-begins, more-settles, more-collects, more-other}
use Rattle.history.proofs.Timed.{timed}

option_cases : {X : Type 0} (o : Option X) → (o ≡ None) ⊎ ((x : X) × (o ≡ Some x))
option_cases None = inl refl
option_cases (Some x) = inr (x, refl)

-- every collected operation was settled, with the stamp that was collected
abbrev Stamped : {C : Type 0} → List (Operation C) → Type 0
Stamped {C} os = (k : ℕ) (p : Operation C) (a : Collection C) → slice_get os k ≡ Some p → p.collected ≡ Some a → p.stamp ≡ Some a.stamp

module _ {C : Type 0} (os : List (Operation C)) (w : Stamped os) where
  stamped-begins : (n : ℕ) (i : Terminal) (k : Kind C) → Stamped (os ++ started n i k ∷ [])
  stamped-begins n i k j p a e f = elim (nth-push os (started n i k) j p e) [ inl x ↦ w j p a x f | inr x ↦ absurd (let u = x.1 in grind arith) ]

  stamped-settles : (i : Terminal) (s : Stamp) (f : Settles os i) → Stamped (set os f.place (with_stamp s f.operation))
  stamped-settles i s f j p a e g = elim (nth-set os f.place j f.operation (with_stamp s f.operation) p f.last.here e) [
    | inl x ↦ absurd (let u : f.operation.collected ≡ p.collected = ap (λ (o : Operation C). o.collected) x.1 in let none = f.uncollected in grind arith)
    | inr x ↦ w j p a x.1 g
  ]

  stamped-collects : (n : ℕ) (i : Terminal) (c : C) (s : Stamp) (f : Collects os i c s) → Stamped (set os f.place (with_collection (record { at = n; card = c; stamp = s }) f.operation))
  stamped-collects n i c s f j p a e g =
      let a₀ : Collection C = record { at = n; card = c; stamp = s } in
      elim (nth-set os f.place j f.operation (with_collection a₀ f.operation) p f.last.here e) [
        | inl x ↦ (let u : Some a₀ ≡ p.collected = ap (λ (o : Operation C). o.collected) x.1 in let v : a₀ ≡ a = cc in
            sym (ap (λ (o : Operation C). o.stamp) x.1) ∙ f.stamp ∙ ap Some (ap (λ (a : Collection C). a.stamp) v))
        | inr x ↦ w j p a x.1 g
      ]

-- an event that fits
stamped-more : {C : Type 0} (h : List (Event C)) (e : Event C) → Stamped (operations_of h) → Fits (operations_of h) e → Stamped (operations_of (h ++ e ∷ []))
stamped-more h (begun i k) w f = subst Stamped (sym (more-begins h i k)) (stamped-begins (operations_of h) w (length h) i k)
stamped-more h (settled i s) w f = subst Stamped (sym (more-settles h i s f.place f.operation f.last)) (stamped-settles (operations_of h) w i s f)
stamped-more h (collected i c s) w f =
    subst Stamped (sym (more-collects h i c s f.place f.operation f.last)) (stamped-collects (operations_of h) w (length h) i c s f)
stamped-more h other w f = subst Stamped (sym (more-other h)) w

-- an orderly history grows by an event that fits
pub orderly-none : {C : Type 0} → Orderly {C = C} []
orderly-none n e f = absurd (grind arith)

pub orderly-more : {C : Type 0} (h : List (Event C)) (e : Event C) → Orderly h → Fits (operations_of h) e → Orderly (h ++ e ∷ [])
orderly-more h e o f n d g = elim (nth-push h e n d g) [
  | inl x ↦ (let z = take-push h e n (let b = nth-below h n d x in omega arith) in rw z (o n d x))
  | inr x ↦ (let z = take-push h e n (omega arith) in let y = take_all n h (omega arith) in rw (z, y, ← x.1) f)
]

-- event by event
stamped : {C : Type 0} (h : List (Event C)) → Orderly h → Stamped (operations_of h)
unfolding operations_of
stamped h o = subst (λ h. Stamped (operations_of h)) (take_all (length h) h (omega arith)) (upto (length h))
  where
    upto : (n : ℕ) → Stamped (operations_of (take n h))
    upto zero = λ k p a e f. absurd (grind arith)
    upto (suc n) = elim (option_cases (slice_get h n)) [
      | inl x ↦ rw (take-end h n x) (upto n)
      | inr x ↦ rw (take_nth h n x.0 x.1) (stamped-more (take n h) x.0 (upto n) (o n x.0 x.1))
    ]

pub tidy : {C : Type 0} (h : List (Event C)) → Orderly h → Tidy (operations_of h)
tidy h o = let t = timed h in record { rising = t.rising; later = t.later; stamped = stamped h o }
