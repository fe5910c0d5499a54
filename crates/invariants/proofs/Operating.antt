-- What the calls that move an operation come to: they are declined and change nothing, or they move it on.
use Rattle.std.proofs.Common.{◌≡◌, ◌<◌, true, ltb, length, Ok, Err, Result, refl}
use Rattle.std.proofs.lemmas.Bool.{cond_both}
use Rattle.parts.specs.declared.counts.Terminal.{Terminal}
use Rattle.parts.specs.declared.stamps.Stamp.{Stamp}
use Rattle.parts.specs.Limits.{last_number}
use Rattle.replica.specs.declared.operations.Kind.{Kind}
use Rattle.replica.specs.declared.operations.Kind.TheVariants.{Read, Write}
use Rattle.replica.specs.declared.operations.Move.TheVariants.{Begin, Collect as MoveCollect, Confirm as MoveConfirm, Settle as MoveSettle}
use Rattle.replica.specs.declared.operations.Operation.{Operation}
use Rattle.replica.specs.declared.operations.Operation.TheVariants.{Done, Free, Prop, Query}
use Rattle.replica.specs.declared.operations.Phase.{Phase}
use Rattle.replica.specs.declared.refusals.Refusal.{Refusal}
use Rattle.replica.specs.declared.replicas.Replica.{Replica}
use Rattle.replica.specs.Covering.{covered_list}
use Rattle.replica.specs.Operating.{moving, operated, proposed, queried, settled}
use Rattle.house.specs.declared.guarding.Need.TheVariants.{ToBeActive}
use Rattle.house.specs.Guards.{kept}
use Rattle.house.specs.States.{State, seated}
use Rattle.house.specs.Steps.{Rule, operate_step, operating}
use Rattle.invariants.proofs.Acting.{acting-cases}
use Rattle.invariants.proofs.OpsSettle.{settled-card, settled-stamp}
use Rattle.invariants.proofs.Seen.{seen}
use Rattle.invariants.proofs.Views.{row}

module _ {B C : Type 0} (reads writes : Rule B) (first : C) (i : Terminal) (s : State B C) where
  -- the row of the terminal that acts
  abbrev mine : Replica C
  mine = row (seen first s) i.0

  module _ (P : Result (C × Stamp) Refusal × State B C → Type 0) (fails : (e : Refusal) → P (Err e, s)) where
    -- read and write
    abbrev Begins : Kind C → Type 0
    Begins k = i.0 < length s.replicas → P (Ok (mine.card, mine.stamp), seated i (queried k mine) s)

    begun : (k : Kind C) → Begins k → i.0 < length s.replicas → (o : Operation C) →
        P (kept i (moving (reads s.book) (writes s.book) i o (Begin k) mine) s)
    begun k begins l Free = cond_both (ltb mine.number.0 last_number) _ _ (λ z. P (kept i z s)) (λ _. begins l) (λ _. fails _)
    begun k begins l (Query k' p) = fails _
    begun k begins l (Prop pair p) = fails _
    begun k begins l (Done pair) = fails _

    pub begin-cases : (k : Kind C) → Begins k → P (operate_step reads writes (Begin k) i s)
    begin-cases k begins = acting-cases first ToBeActive i i s (λ r. operating reads writes (Begin k) i r s) P fails (λ l _. begun k begins l _)

    -- settle: it answers the card and the stamp that the operation keeps from now on
    abbrev Keeps : Kind C → Type 0
    Keeps k = P (
      Ok (settled-card mine k, settled-stamp mine i.0 k),
      seated i (proposed (settled-card mine k) (settled-stamp mine i.0 k) mine) s,
    )

    abbrev Settles : Type 0
    Settles = (k : Kind C) (p : Phase) → i.0 < length s.replicas → mine.operation ≡ Query k p →
        covered_list (reads s.book) p.chart.places p.heard ≡ true → Keeps k

    by_kind : (k : Kind C) → Keeps k → P (kept i (settled i k mine) s)
    by_kind Read h = h
    by_kind (Write c) h = cond_both (ltb mine.stamp.count last_number) _ _ (λ z. P (kept i z s)) (λ _. h) (λ _. fails _)

    settled-by : Settles → i.0 < length s.replicas → (o : Operation C) → mine.operation ≡ o →
        P (kept i (moving (reads s.book) (writes s.book) i o MoveSettle mine) s)
    settled-by settles l Free e = fails _
    settled-by settles l (Query k p) e = cond_both (covered_list (reads s.book) p.chart.places p.heard) _ _ (λ z. P (kept i z s))
        (λ c. cond_both (ltb mine.number.0 last_number) _ _ (λ z. P (kept i z s)) (λ _. by_kind k (settles k p l e c)) (λ _. fails _))
        (λ _. fails _)
    settled-by settles l (Prop pair p) e = fails _
    settled-by settles l (Done pair) e = fails _

    pub settle-cases : Settles → P (operate_step reads writes MoveSettle i s)
    settle-cases settles = acting-cases first ToBeActive i i s (λ r. operating reads writes MoveSettle i r s) P fails (λ l _. settled-by settles l _ refl)

    -- confirm
    abbrev Confirms : Type 0
    Confirms = (pair : C × Stamp) (p : Phase) → i.0 < length s.replicas → mine.operation ≡ Prop pair p →
        covered_list (writes s.book) p.chart.places p.heard ≡ true →
        P (Ok pair, seated i (operated mine.card mine.stamp mine.number (Done pair) mine) s)

    confirmed-by : Confirms → i.0 < length s.replicas → (o : Operation C) → mine.operation ≡ o →
        P (kept i (moving (reads s.book) (writes s.book) i o MoveConfirm mine) s)
    confirmed-by confirms l Free e = fails _
    confirmed-by confirms l (Query k p) e = fails _
    confirmed-by confirms l (Prop pair p) e = cond_both (covered_list (writes s.book) p.chart.places p.heard) _ _ (λ z. P (kept i z s))
        (λ c. confirms pair p l e c) (λ _. fails _)
    confirmed-by confirms l (Done pair) e = fails _

    pub confirm-cases : Confirms → P (operate_step reads writes MoveConfirm i s)
    confirm-cases confirms = acting-cases first ToBeActive i i s (λ r. operating reads writes MoveConfirm i r s) P fails (λ l _. confirmed-by confirms l _ refl)

    -- collect
    abbrev Collects : Type 0
    Collects = (pair : C × Stamp) → i.0 < length s.replicas → mine.operation ≡ Done pair →
        P (Ok pair, seated i (operated mine.card mine.stamp mine.number Free mine) s)

    collected-by : Collects → i.0 < length s.replicas → (o : Operation C) → mine.operation ≡ o →
        P (kept i (moving (reads s.book) (writes s.book) i o MoveCollect mine) s)
    collected-by collects l Free e = fails _
    collected-by collects l (Query k p) e = fails _
    collected-by collects l (Prop pair p) e = fails _
    collected-by collects l (Done pair) e = collects pair l e

    pub collect-cases : Collects → P (operate_step reads writes MoveCollect i s)
    collect-cases collects = acting-cases first ToBeActive i i s (λ r. operating reads writes MoveCollect i r s) P fails (λ l _. collected-by collects l _ refl)
