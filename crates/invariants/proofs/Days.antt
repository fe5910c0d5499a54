-- A day: a house with its tables, and the operations begun so far.
use Rattle.std.proofs.Common.{ℕ, suc, List, [], ◌∷◌, ◌++◌, length, set, Ok, Err}
use Rattle.parts.specs.declared.calls.Call.{Call}
use Rattle.parts.specs.declared.calls.Call.TheVariants.{Appoint, Collect, Confirm, Crash, Deliver, Enter, Knock as CallKnock, Lose, Read as CallRead, Retire, RetireClose, RetireConfirm, RetireSettle, Send, Settle, Tell, Write as CallWrite}
use Rattle.parts.specs.declared.counts.Terminal.{Terminal}
use Rattle.replica.specs.declared.operations.Kind.{Kind}
use Rattle.replica.specs.declared.operations.Kind.TheVariants.{Read, Write}
use Rattle.house.specs.declared.calling.Answer.TheVariants.{Collected as AnswerCollected, Plain, Settled}
use Rattle.house.specs.Calls.{Outcome}
use Rattle.house.specs.States.{State}
use Rattle.invariants.proofs.Ops.{Op, collected_op, new_op, op_at, settled_op}
use Rattle.invariants.proofs.Updates.{update}

pub record Day (B C : Type 0) : Type 0 where
  pub now : State B C
  -- the operations in the order begun
  pub ops : List (Op C)
  -- which of them was begun last at each terminal
  pub cur : ℕ → ℕ
  -- how many calls were made
  pub clock : ℕ

module _ {C : Type 0} where
  -- one thing if the call was accepted, another if it was declined
  abbrev pub accepted : {X : Type 0} → Outcome C → X → X → X
  accepted (Ok a) x y = x
  accepted (Err e) x y = y

module _ {B C : Type 0} where
  -- which operation was begun last at each terminal, once one is begun at i
  abbrev pub begun_last : Terminal → Day B C → ℕ → ℕ
  begun_last i d = update d.cur i.0 (length d.ops)

  abbrev pub cur_after : Call C → Outcome C → Day B C → ℕ → ℕ
  cur_after (Enter i) o d = d.cur
  cur_after (CallKnock i j) o d = d.cur
  cur_after (Send i j) o d = d.cur
  cur_after (Deliver p) o d = d.cur
  cur_after (Lose p) o d = d.cur
  cur_after (Crash i) o d = d.cur
  cur_after (CallRead i) o d = accepted o (begun_last i d) d.cur
  cur_after (CallWrite i c) o d = accepted o (begun_last i d) d.cur
  cur_after (Settle i) o d = d.cur
  cur_after (Confirm i) o d = d.cur
  cur_after (Collect i) o d = d.cur
  cur_after (Appoint c) o d = d.cur
  cur_after (Tell i k) o d = d.cur
  cur_after (Retire i k) o d = d.cur
  cur_after (RetireSettle i) o d = d.cur
  cur_after (RetireConfirm i) o d = d.cur
  cur_after (RetireClose i) o d = d.cur

  -- the day after a call that changed nothing of the operations
  abbrev pub day_on : State B C → Day B C → Day B C
  day_on s d = record { now = s; ops = d.ops; cur = d.cur; clock = suc d.clock }

module _ {B C : Type 0} (first : C) where
  -- the operations once an operation of this kind is begun at i
  abbrev pub begun_ops : Terminal → Kind C → Day B C → List (Op C)
  begun_ops i k d = d.ops ++ new_op first i.0 k d.clock ∷ []

  -- the operations once the last one begun at i has become another
  abbrev pub changed_ops : Terminal → (Op C → Op C) → Day B C → List (Op C)
  changed_ops i f d = set d.ops (d.cur i.0) (f (op_at first d.ops (d.cur i.0)))

  -- the operations once a settle at i has come to this
  abbrev pub settled_by : Terminal → Outcome C → Day B C → List (Op C)
  settled_by i (Ok Plain) d = d.ops
  settled_by i (Ok (Settled st)) d = changed_ops i (λ o. settled_op o st) d
  settled_by i (Ok (AnswerCollected pair)) d = d.ops
  settled_by i (Err e) d = d.ops

  -- the operations once a collect at i has come to this
  abbrev pub collected_by : Terminal → Outcome C → Day B C → List (Op C)
  collected_by i (Ok Plain) d = d.ops
  collected_by i (Ok (Settled st)) d = d.ops
  collected_by i (Ok (AnswerCollected pair)) d = changed_ops i (λ o. collected_op o d.clock pair.0 pair.1) d
  collected_by i (Err e) d = d.ops

  -- the operations once a call has come to this
  abbrev pub ops_after : Call C → Outcome C → Day B C → List (Op C)
  ops_after (Enter i) o d = d.ops
  ops_after (CallKnock i j) o d = d.ops
  ops_after (Send i j) o d = d.ops
  ops_after (Deliver p) o d = d.ops
  ops_after (Lose p) o d = d.ops
  ops_after (Crash i) o d = d.ops
  ops_after (CallRead i) o d = accepted o (begun_ops i Read d) d.ops
  ops_after (CallWrite i c) o d = accepted o (begun_ops i (Write c) d) d.ops
  ops_after (Settle i) o d = settled_by i o d
  ops_after (Confirm i) o d = d.ops
  ops_after (Collect i) o d = collected_by i o d
  ops_after (Appoint c) o d = d.ops
  ops_after (Tell i k) o d = d.ops
  ops_after (Retire i k) o d = d.ops
  ops_after (RetireSettle i) o d = d.ops
  ops_after (RetireConfirm i) o d = d.ops
  ops_after (RetireClose i) o d = d.ops

  -- the day after a call that came to this and begins an operation
  abbrev pub begun_by : Terminal → Kind C → Outcome C × State B C → Day B C → Day B C
  begun_by i k r d = record { now = r.1; ops = accepted r.0 (begun_ops i k d) d.ops; cur = accepted r.0 (begun_last i d) d.cur; clock = suc d.clock }

  -- the day after a call that came to this
  abbrev pub day_by : Call C → Outcome C × State B C → Day B C → Day B C
  day_by call r d = record { now = r.1; ops = ops_after call r.0 d; cur = cur_after call r.0 d; clock = suc d.clock }
