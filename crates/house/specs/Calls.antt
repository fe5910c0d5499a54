-- Any call on a house: what it answers, and the state that it leaves.
use Rattle.std.specs.Prelude.{ℕ, Result}
use Rattle.parts.specs.declared.calls.Call.{Call}
use Rattle.parts.specs.declared.calls.Call.TheVariants.{Enter, Knock, Send, Deliver, Lose, Crash, Read, Write, Settle, Confirm, Collect, Appoint, Tell, Retire, RetireSettle, RetireConfirm, RetireClose}
use Rattle.parts.specs.declared.counts.Group.{Group}
use Rattle.parts.specs.declared.sets.TerminalSet.{TerminalSet}
use Rattle.parts.specs.declared.stamps.Stamp.{Stamp}
use Rattle.replica.specs.declared.refusals.Refusal.{Refusal}
use Rattle.house.specs.declared.calling.Answer.{Answer}
use Rattle.house.specs.declared.calling.Answer.TheVariants.{Plain, Settled, Collected}
use Rattle.house.specs.Appointing.{appoint_step, tell_step}
use Rattle.house.specs.Guards.{answering}
use Rattle.house.specs.Retiring.{retire_step, retire_settle_step, retire_confirm_step, retire_close_step}
use Rattle.house.specs.States.{State}
use Rattle.house.specs.Steps.{Rule, enter_step, knock_step, send_step, deliver_step, lose_step, crash_step, read_step, write_step, settle_step, confirm_step, collect_step}

-- accepted with an answer, or declined with a cause
abbrev pub Outcome : Type 0 → Type 0
Outcome C = Result (Answer C) Refusal

module _ {C : Type 0} where
  -- the answer of a call that answers nothing, a stamp, or a card and its stamp
  abbrev pub plain_answer : Unit {0} → Answer C
  plain_answer u = Plain

  abbrev pub stamp_answer : Stamp → Answer C
  stamp_answer st = Settled st

  abbrev pub pair_answer : C × Stamp → Answer C
  pair_answer pair = Collected pair

-- over what a book answers: how many groups it has, the members of a group, and whether a set contains a read set or a write set
module _ {B C : Type 0} (size : B → ℕ) (members : B → Group → TerminalSet) (reads writes : Rule B) where
  -- one call, whichever it is
  unfoldable pub step : Call C → State B C → Outcome C × State B C
  step (Enter i) s = answering plain_answer (enter_step i s)
  step (Knock i j) s = answering plain_answer (knock_step i j s)
  step (Send i j) s = answering plain_answer (send_step i j s)
  step (Deliver p) s = answering plain_answer (deliver_step p s)
  step (Lose p) s = answering plain_answer (lose_step p s)
  step (Crash i) s = answering plain_answer (crash_step i s)
  step (Read i) s = answering plain_answer (read_step reads writes i s)
  step (Write i c) s = answering plain_answer (write_step reads writes i c s)
  step (Settle i) s = answering stamp_answer (settle_step reads writes i s)
  step (Confirm i) s = answering plain_answer (confirm_step reads writes i s)
  step (Collect i) s = answering pair_answer (collect_step reads writes i s)
  step (Appoint c) s = answering plain_answer (appoint_step size members c s)
  step (Tell i k) s = answering plain_answer (tell_step i k s)
  step (Retire i k) s = answering plain_answer (retire_step reads writes i k s)
  step (RetireSettle i) s = answering plain_answer (retire_settle_step reads writes i s)
  step (RetireConfirm i) s = answering plain_answer (retire_confirm_step reads writes i s)
  step (RetireClose i) s = answering plain_answer (retire_close_step reads writes i s)
