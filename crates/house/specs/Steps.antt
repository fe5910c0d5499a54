-- What each call answers, and the state that it leaves.
use Rattle.std.specs.Prelude.{ℕ, ◌+◌, ◌-◌, Bool, true, false, cond, not, ◌&&◌, Some, None, Ok, Err, Option, Result, ◌==◌, nat_lt, slice_set}
use Rattle.std.specs.List.{slice_get}
use Rattle.parts.specs.declared.counts.Group.{Group}
use Rattle.parts.specs.declared.counts.Terminal.{Terminal}
use Rattle.parts.specs.declared.sets.TerminalSet.{TerminalSet}
use Rattle.parts.specs.declared.stamps.Stamp.{Stamp}
use Rattle.parts.specs.Limits.{messages as pool_size}
use Rattle.parts.specs.Sets.{has}
use Rattle.replica.specs.declared.messages.Body.{Body}
use Rattle.replica.specs.declared.messages.Body.TheVariants.{Knock, News}
use Rattle.replica.specs.declared.messages.Message.{Message}
use Rattle.replica.specs.declared.operations.Kind.TheVariants.{Read, Write}
use Rattle.replica.specs.declared.operations.Move.{Move}
use Rattle.replica.specs.declared.operations.Move.TheVariants.{Begin, Settle, Confirm, Collect}
use Rattle.replica.specs.declared.refusals.Refusal.{Refusal}
use Rattle.replica.specs.declared.refusals.Refusal.TheVariants.{WrongReceiver, PoolFull, NoMessage, WrongTables}
use Rattle.replica.specs.declared.replicas.Replica.{Replica}
use Rattle.replica.specs.declared.replicas.Status.{Status}
use Rattle.replica.specs.declared.replicas.Status.TheVariants.{Idle, Joining, Active}
use Rattle.replica.specs.Operating.{moved}
use Rattle.replica.specs.Receiving.{taken}
use Rattle.replica.specs.Replicas.{entered, news_for, after_crash}
use Rattle.house.specs.declared.guarding.Need.TheVariants.{ToBeIdle, ToBeJoining, ToBeActive, Nothing}
use Rattle.house.specs.Guards.{acting, kept, answering}
use Rattle.house.specs.States.{State, tables_fit, seated, pooled}
use Rattle.house.specs.Tables.{closed_up}

-- a call without an answer
abbrev pub Plain : Type 0
Plain = Result (Unit {0}) Refusal

-- what a book answers of its groups: does the set contain a read set, or a write set?
abbrev pub Rule : Type 0 → Type 0
Rule B = B → Group → TerminalSet → Bool

-- a terminal takes messages in unless it is idle or has crashed
abbrev pub not_idle : Status → Bool
not_idle Idle = false
not_idle Joining = true
not_idle Active = true

abbrev pub listens : {C : Type 0} → Replica C → Bool
listens t = not t.crashed && not_idle t.status

-- a message from i to j
abbrev pub message : {C : Type 0} → Terminal → Terminal → Body C → Message C
message i j b = record { from = i; to = j; body = b }

-- what is there, or cause 9
abbrev pub found : {C : Type 0} → Option (Message C) → Result (Message C) Refusal
found None = Err NoMessage
found (Some m) = Ok m

module _ {B C : Type 0} where
  -- enter i: the founder becomes active, any other joining; it knows itself
  abbrev pub entering : Terminal → Result (Replica C) Refusal → State B C → Plain × State B C
  entering i (Err e) s = (Err e, s)
  entering i (Ok t) s = (Ok tt, seated i (entered i (i.0 == s.founder.0) t) s)

  abbrev pub enter_step : Terminal → State B C → Plain × State B C
  enter_step i s = entering i (acting ToBeIdle i i s) s

  -- crash i: the terminal is crashed for ever
  abbrev pub crashing : Terminal → Result (Replica C) Refusal → State B C → Plain × State B C
  crashing i (Err e) s = (Err e, s)
  crashing i (Ok t) s = (Ok tt, seated i (after_crash t) s)

  abbrev pub crash_step : Terminal → State B C → Plain × State B C
  crash_step i s = crashing i (acting Nothing i i s) s

  -- a new message joins the pool at its end, unless the pool is full
  abbrev pub posted : Message C → State B C → Plain × State B C
  posted m s = cond (nat_lt s.waiting pool_size) (Ok tt, pooled (s.waiting + 1) (slice_set s.messages s.waiting m) s) (Err PoolFull, s)

  -- knock i j: a joining terminal puts a knock for another into the pool
  abbrev pub knocking : Terminal → Terminal → Result (Replica C) Refusal → State B C → Plain × State B C
  knocking i j (Err e) s = (Err e, s)
  knocking i j (Ok t) s = cond (i.0 == j.0) (Err WrongReceiver, s) (posted (message i j Knock) s)

  abbrev pub knock_step : Terminal → Terminal → State B C → Plain × State B C
  knock_step i j s = knocking i j (acting ToBeJoining i j s) s

  -- send i j: the pool gains a message with all that the sender holds, for a terminal that it knows
  abbrev pub sending : Terminal → Terminal → Result (Replica C) Refusal → State B C → Plain × State B C
  sending i j (Err e) s = (Err e, s)
  sending i j (Ok t) s = cond (has t.known j) (posted (message i j (News (news_for t j))) s) (Err WrongReceiver, s)

  abbrev pub send_step : Terminal → Terminal → State B C → Plain × State B C
  send_step i j s = sending i j (acting ToBeActive i j s) s

  -- message p leaves the pool, and those behind it move up by one
  abbrev pub without : ℕ → State B C → State B C
  without p s = pooled (s.waiting - 1) (closed_up p s.waiting s.messages) s

  -- message p, or the causes 18 and 9
  abbrev pub picked : ℕ → State B C → Result (Message C) Refusal
  picked p s = cond (tables_fit s) (cond (nat_lt p s.waiting) (found (slice_get s.messages p)) (Err NoMessage)) (Err WrongTables)

  -- message p leaves the pool, unless a cause holds
  abbrev pub leaving : ℕ → Result (Message C) Refusal → State B C → Result (Message C) Refusal × State B C
  leaving p (Err e) s = (Err e, s)
  leaving p (Ok m) s = (Ok m, without p s)

  abbrev pub take_step : ℕ → State B C → Result (Message C) Refusal × State B C
  take_step p s = leaving p (picked p s) s

  -- a receiver that listens takes the message in; one that does not, or does not exist, does nothing
  abbrev pub reaching : Message C → Option (Replica C) → State B C → State B C
  reaching m None s = s
  reaching m (Some t) s = cond (listens t) (seated m.to (taken m.from m.body t) s) s

  -- nor does one whose message names a sender that does not exist
  abbrev pub arrived : Message C → State B C → State B C
  arrived m s = cond (nat_lt m.from.0 s.size) (reaching m (slice_get s.replicas m.to.0) s) s

  -- deliver p: message p leaves the pool and comes to its receiver
  abbrev pub delivering : Result (Message C) Refusal × State B C → Plain × State B C
  delivering (Err e, s) = (Err e, s)
  delivering (Ok m, s) = (Ok tt, arrived m s)

  abbrev pub deliver_step : ℕ → State B C → Plain × State B C
  deliver_step p s = delivering (take_step p s)

  -- lose p: message p leaves the pool
  abbrev pub lose_step : ℕ → State B C → Plain × State B C
  lose_step p s = answering (λ m. tt) (take_step p s)

  module _ (reads writes : Rule B) where
    -- a call that moves the operation of terminal i on
    abbrev pub operating : Move C → Terminal → Result (Replica C) Refusal → State B C → Result (C × Stamp) Refusal × State B C
    operating m i (Err e) s = (Err e, s)
    operating m i (Ok t) s = kept i (moved (reads s.book) (writes s.book) i m t) s

    abbrev pub operate_step : Move C → Terminal → State B C → Result (C × Stamp) Refusal × State B C
    operate_step m i s = operating m i (acting ToBeActive i i s) s

    abbrev pub read_step : Terminal → State B C → Plain × State B C
    read_step i s = answering (λ p. tt) (operate_step (Begin Read) i s)

    abbrev pub write_step : Terminal → C → State B C → Plain × State B C
    write_step i c s = answering (λ p. tt) (operate_step (Begin (Write c)) i s)

    -- settle answers the stamp
    abbrev pub settle_step : Terminal → State B C → Result Stamp Refusal × State B C
    settle_step i s = answering (λ p. p.1) (operate_step Settle i s)

    abbrev pub confirm_step : Terminal → State B C → Plain × State B C
    confirm_step i s = answering (λ p. tt) (operate_step Confirm i s)

    -- collect answers the card kept at settling and its stamp
    abbrev pub collect_step : Terminal → State B C → Result (C × Stamp) Refusal × State B C
    collect_step i s = operate_step Collect i s
