-- What was called and answered, as far as the line of a house needs it.
use Rattle.std.specs.Prelude.{List, [], ◌∷◌, Ok, Err}
use Rattle.parts.specs.declared.calls.Call.{Call}
use Rattle.parts.specs.declared.calls.Call.TheVariants.{Enter, Knock, Send, Deliver, Lose, Crash, Read, Write, Settle, Confirm, Collect, Appoint, Tell, Retire, RetireSettle, RetireConfirm, RetireClose}
use Rattle.parts.specs.declared.counts.Terminal.{Terminal}
use Rattle.parts.specs.declared.stamps.Stamp.{Stamp}
use Rattle.replica.specs.declared.operations.Kind.{Kind}
use Rattle.replica.specs.declared.operations.Kind.TheVariants.{Read as Reading, Write as Writing}
use Rattle.house.specs.declared.calling.Answer.{Answer}
use Rattle.house.specs.declared.calling.Answer.TheVariants.{Plain, Settled, Collected}
use Rattle.house.specs.Calls.{Outcome}

pub data Event (C : Type 0) : Type 0 where
  -- an accepted read or write begins an operation at its terminal
  begun : Terminal → Kind C → Event C
  -- an accepted settle at the terminal answers a stamp
  settled : Terminal → Stamp → Event C
  -- an accepted collect at the terminal answers a card and its stamp
  collected : Terminal → C → Stamp → Event C
  -- any other call, and every call that was declined
  other : Event C

module _ {C : Type 0} where
  -- a settle at i, by what it answers
  abbrev pub settle_event : Terminal → Answer C → Event C
  settle_event i Plain = other
  settle_event i (Settled st) = settled i st
  settle_event i (Collected pair) = other

  -- a collect at i, by what it answers
  abbrev pub collect_event : Terminal → Answer C → Event C
  collect_event i Plain = other
  collect_event i (Settled st) = other
  collect_event i (Collected pair) = collected i pair.0 pair.1

  -- an accepted call with its answer
  abbrev pub accepted_event : Call C → Answer C → Event C
  accepted_event (Enter i) a = other
  accepted_event (Knock i j) a = other
  accepted_event (Send i j) a = other
  accepted_event (Deliver p) a = other
  accepted_event (Lose p) a = other
  accepted_event (Crash i) a = other
  accepted_event (Read i) a = begun i Reading
  accepted_event (Write i c) a = begun i (Writing c)
  accepted_event (Settle i) a = settle_event i a
  accepted_event (Confirm i) a = other
  accepted_event (Collect i) a = collect_event i a
  accepted_event (Appoint c) a = other
  accepted_event (Tell i k) a = other
  accepted_event (Retire i k) a = other
  accepted_event (RetireSettle i) a = other
  accepted_event (RetireConfirm i) a = other
  accepted_event (RetireClose i) a = other

  -- a call with what it came to
  abbrev pub event_of : Call C → Outcome C → Event C
  event_of call (Ok a) = accepted_event call a
  event_of call (Err e) = other

  -- the history of a run: the event of each call and of what it came to, oldest first
  abbrev pub history_of : List (Call C) → List (Outcome C) → List (Event C)
  history_of [] os = []
  history_of (c ∷ cs) [] = []
  history_of (c ∷ cs) (o ∷ os) = event_of c o ∷ history_of cs os
