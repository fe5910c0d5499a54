-- What a terminal's operation does next: its phase and the call decide together.
use Rattle.std.specs.Prelude.{ℕ, ◌+◌, cond, Ok, Err, Result, nat_lt}
use Rattle.parts.specs.declared.charts.Chart.{Chart}
use Rattle.parts.specs.declared.counts.PhaseNumber.{PhaseNumber}
use Rattle.parts.specs.declared.counts.Terminal.{Terminal}
use Rattle.parts.specs.declared.stamps.Stamp.{Stamp}
use Rattle.parts.specs.Charts.{cut}
use Rattle.parts.specs.Limits.{last_number}
use Rattle.parts.specs.Sets.{nobody}
use Rattle.replica.specs.declared.operations.Kind.{Kind}
use Rattle.replica.specs.declared.operations.Kind.TheVariants.{Read, Write}
use Rattle.replica.specs.declared.operations.Move.{Move}
use Rattle.replica.specs.declared.operations.Move.TheVariants.{Begin, Settle, Confirm, Collect}
use Rattle.replica.specs.declared.operations.Operation.{Operation}
use Rattle.replica.specs.declared.operations.Operation.TheVariants.{Free, Query, Prop, Done}
use Rattle.replica.specs.declared.operations.Phase.{Phase}
use Rattle.replica.specs.declared.refusals.Refusal.{Refusal}
use Rattle.replica.specs.declared.refusals.Refusal.TheVariants.{UnderWay, WrongPhase, SetMissing, NumbersEnd, CountsEnd}
use Rattle.replica.specs.declared.replicas.Replica.{Replica}
use Rattle.replica.specs.Covering.{Answer, covered}
use Rattle.replica.specs.Numbers.{phase_number}
use Rattle.replica.specs.Replicas.{stamp_of}

-- a phase that begins: its number, its chart, and nobody heard
abbrev pub new_phase : ℕ → Chart → Phase
new_phase n a = record { number = phase_number n; chart = a; heard = nobody }

-- what a move answers, and the terminal that it leaves
abbrev pub Moved : Type 0 → Type 0
Moved C = Result (C × Stamp) Refusal × Replica C

module _ {C : Type 0} where
  -- the terminal with another card, stamp, phase number and operation
  abbrev pub operated : C → Stamp → PhaseNumber → Operation C → Replica C → Replica C
  operated c st n o t = record {
    status = t.status;
    crashed = t.crashed;
    known = t.known;
    card = c;
    stamp = st;
    chart = t.chart;
    number = n;
    latest = t.latest;
    operation = o;
    retirement = t.retirement;
  }

  -- the query starts: the phase number rises by one, and the phase has that number, the cut chart and nobody heard
  abbrev pub queried : Kind C → Replica C → Replica C
  queried k t =
      operated t.card t.stamp (phase_number (t.number.0 + 1)) (Query k (new_phase (t.number.0 + 1) (cut t.chart))) t

  -- a read or a write begins
  abbrev pub beginning : Kind C → Replica C → Moved C
  beginning k t = cond (nat_lt t.number.0 last_number) (Ok (t.card, t.stamp), queried k t) (Err NumbersEnd, t)

  -- the operation keeps card and stamp, which are the terminal's from now on, and prop starts as query did
  abbrev pub proposed : C → Stamp → Replica C → Replica C
  proposed c st t = operated c st (phase_number (t.number.0 + 1)) (Prop (c, st) (new_phase (t.number.0 + 1) (cut t.chart))) t

  -- a read keeps the terminal's card and stamp; a write its own card with the stamp (count + 1, terminal)
  abbrev pub settled : Terminal → Kind C → Replica C → Moved C
  settled i Read t = (Ok (t.card, t.stamp), proposed t.card t.stamp t)
  settled i (Write c) t =
      cond (nat_lt t.stamp.count last_number)
      (Ok (c, stamp_of (t.stamp.count + 1) i), proposed c (stamp_of (t.stamp.count + 1) i) t)
      (Err CountsEnd, t)

  -- settling needs a read set among the heard for each group of the phase's chart
  abbrev pub settling : Answer → Terminal → Kind C → Phase → Replica C → Moved C
  settling reads i k p t =
      cond (covered reads p.chart p.heard)
      (cond (nat_lt t.number.0 last_number) (settled i k t) (Err NumbersEnd, t))
      (Err SetMissing, t)

  -- confirming needs a write set among the heard for each group of the phase's chart; the operation is done
  abbrev pub confirming : Answer → C × Stamp → Phase → Replica C → Moved C
  confirming writes kept p t =
      cond (covered writes p.chart p.heard) (Ok kept, operated t.card t.stamp t.number (Done kept) t) (Err SetMissing, t)

  -- collecting ends the operation, and answers the card kept at settling and its stamp
  abbrev pub collecting : C × Stamp → Replica C → Moved C
  collecting kept t = (Ok kept, operated t.card t.stamp t.number Free t)

  module _ (reads writes : Answer) (i : Terminal) where
    -- every phase with every call
    abbrev pub moving : Operation C → Move C → Replica C → Moved C
    moving Free (Begin k) t = beginning k t
    moving Free Settle t = (Err WrongPhase, t)
    moving Free Confirm t = (Err WrongPhase, t)
    moving Free Collect t = (Err WrongPhase, t)
    moving (Query k p) (Begin k') t = (Err UnderWay, t)
    moving (Query k p) Settle t = settling reads i k p t
    moving (Query k p) Confirm t = (Err WrongPhase, t)
    moving (Query k p) Collect t = (Err WrongPhase, t)
    moving (Prop kept p) (Begin k') t = (Err UnderWay, t)
    moving (Prop kept p) Settle t = (Err WrongPhase, t)
    moving (Prop kept p) Confirm t = confirming writes kept p t
    moving (Prop kept p) Collect t = (Err WrongPhase, t)
    moving (Done kept) (Begin k') t = (Err UnderWay, t)
    moving (Done kept) Settle t = (Err WrongPhase, t)
    moving (Done kept) Confirm t = (Err WrongPhase, t)
    moving (Done kept) Collect t = collecting kept t

    -- what the call makes of the terminal
    abbrev pub moved : Move C → Replica C → Moved C
    moved m t = moving t.operation m t
