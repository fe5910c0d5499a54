-- Whatever is called: the invariant holds from the opening on, and what it says of the operations begun.
use Rattle.std.proofs.Common.{◌≡◌, ℕ, ◌<◌, ◌≤◌, true, false, List, [], length, Some, None, Ok, Option, subst}
use Rattle.parts.specs.declared.calls.Call.{Call}
use Rattle.parts.specs.declared.calls.Call.TheVariants.{Appoint, Collect, Confirm, Crash, Deliver, Enter, Knock as CallKnock, Lose, Read as CallRead, Retire, RetireClose, RetireConfirm, RetireSettle, Send, Settle, Tell, Write as CallWrite}
use Rattle.parts.specs.declared.counts.Group.{Group as GroupNumber}
use Rattle.parts.specs.declared.counts.Terminal.{Terminal}
use Rattle.parts.specs.declared.sets.TerminalSet.{TerminalSet}
use Rattle.parts.specs.declared.stamps.Stamp.{Stamp}
use Rattle.parts.specs.Sets.{Meet}
use Rattle.parts.specs.Stamps.{below}
use Rattle.books.proofs.Meeting.{Found, answers-meet}
use Rattle.replica.specs.declared.messages.Message.{Message}
use Rattle.replica.specs.declared.operations.Kind.TheVariants.{Read, Write}
use Rattle.replica.specs.declared.refusals.Refusal.{Refusal}
use Rattle.replica.specs.declared.replicas.Replica.{Replica}
use Rattle.replica.specs.declared.retirements.Retiring.TheVariants.{Begin as RetiringBegin, Close as RetiringClose, Confirm as RetiringConfirm, Settle as RetiringSettle}
use Rattle.house.specs.declared.calling.Answer.TheVariants.{Collected as AnswerCollected, Settled}
use Rattle.house.specs.Calls.{step}
use Rattle.house.specs.Opening.{new_state, open_step, opening, why_not_open}
use Rattle.house.specs.States.{State}
use Rattle.house.specs.Steps.{Rule}
use Rattle.invariants.proofs.Acting.{not-ok, same_ok}
use Rattle.invariants.proofs.Books.{Meets}
use Rattle.invariants.proofs.Days.{Day, day_by}
use Rattle.invariants.proofs.Delivering.{fine-deliver, fine-lose}
use Rattle.invariants.proofs.Entering.{fine-crash, fine-enter, fine-knock, fine-send}
use Rattle.invariants.proofs.Fine.{Fine, answers_of}
use Rattle.invariants.proofs.Listing.{fine-appoint, fine-tell}
use Rattle.invariants.proofs.Opening.{fine-new}
use Rattle.invariants.proofs.OperationCalls.{CollectFinds, SettleFinds, collect-finds, fine-begin, fine-collect, fine-confirm, fine-settle, settle-finds}
use Rattle.invariants.proofs.Ops.{Op, ValueOf, is_writing, op_at}
use Rattle.invariants.proofs.Retiring.{fine-retiring}
use Rattle.invariants.proofs.Sets.{holds}
use Rattle.invariants.proofs.Stamps.{is_below, not-below}

-- the laws of a book, in the form in which they are used
abbrev pub Lawful : {B : Type 0} → (reads writes : Rule B) → Type 0
Lawful {B} reads writes = (b : B) → Meets (answers_of reads writes b)

-- a book in which every read set and every write set of a group share a terminal is such
pub lawful : {B : Type 0} (read_set write_set reads writes : Rule B) → Found read_set reads → Found write_set writes →
    ((b : B) (c : GroupNumber) (p q : TerminalSet) → read_set b c p ≡ true → write_set b c q ≡ true → Meet p q) → Lawful reads writes
unfolding holds
lawful read_set write_set reads writes reads_found writes_found meet b c s s' h l =
    let m = answers-meet read_set write_set reads writes reads_found writes_found meet b c s s' h l in (m.0.0, m.1, m.2)

module _ {B C : Type 0} (size : B → ℕ) (members : B → GroupNumber → TerminalSet) (reads writes : Rule B) where
  -- the day after a call
  abbrev pub day_after : C → Call C → Day B C → Day B C
  day_after first call d = day_by first call (step size members reads writes call d.now) d

  module _ (meet : Lawful reads writes) {first : C} {founder : ℕ} (d : Day B C) (f : Fine reads writes first founder d) where
    pub fine-step : (call : Call C) → Fine reads writes first founder (day_after first call d)
    unfolding step
    fine-step (Enter i) = fine-enter d f i
    fine-step (CallKnock i j) = fine-knock d f i j
    fine-step (Send i j) = fine-send d f i j
    fine-step (Deliver p) = fine-deliver d f p
    fine-step (Lose p) = fine-lose d f p
    fine-step (Crash i) = fine-crash d f i
    fine-step (CallRead i) = fine-begin d f i Read
    fine-step (CallWrite i c) = fine-begin d f i (Write c)
    fine-step (Settle i) = fine-settle d f i (meet d.now.book)
    fine-step (Confirm i) = fine-confirm d f i
    fine-step (Collect i) = fine-collect d f i
    fine-step (Appoint c) = fine-appoint d f size members c
    fine-step (Tell i k) = fine-tell d f i k
    fine-step (Retire i k) = fine-retiring d f (RetiringBegin k) i
    fine-step (RetireSettle i) = fine-retiring d f RetiringSettle i
    fine-step (RetireConfirm i) = fine-retiring d f RetiringConfirm i
    fine-step (RetireClose i) = fine-retiring d f RetiringClose i

    -- what an accepted settle finds
    pub settle-found : (i : Terminal) (st : Stamp) → (step size members reads writes (Settle i) d.now).0 ≡ Ok (Settled st) → SettleFinds first d i
    unfolding step
    settle-found i st e = settle-finds d f i st e

    -- what an accepted collect finds
    pub collect-found : (i : Terminal) (c : C) (st : Stamp) → (step size members reads writes (Collect i) d.now).0 ≡ Ok (AnswerCollected (c, st)) →
        CollectFinds first d i c st
    unfolding step
    collect-found i c st e = collect-finds d f i c st e

-- the day of a house that was just opened, with no operation
abbrev pub first_day : {B C : Type 0} → State B C → Day B C
first_day s = record { now = s; ops = []; cur = λ _. 0; clock = 0 }

pub fine-open : {B C : Type 0} (reads writes : Rule B) (members : B → GroupNumber → TerminalSet) (book : B) (n : ℕ) (founder : Terminal)
    (first : C) (rs : List (Replica C)) (ms : List (Message C)) (s : State B C) →
    (open_step members book n founder first rs ms).0 ≡ Ok s → Fine reads writes first founder.0 (first_day s)
fine-open {B = B} {C} reads writes members book n founder first rs ms s = go (why_not_open (members book (record { 0 = 0 })) n founder (length rs) (length ms))
  where
    go : (o : Option Refusal) → (opening o book n founder first rs ms).0 ≡ Ok s → Fine reads writes first founder.0 (first_day s)
    go (Some e) q = absurd (not-ok q)
    go None q = subst (λ (z : State B C). Fine reads writes first founder.0 (first_day z))
        (same_ok (new_state book n founder first ms) s q) (fine-new reads writes book n founder first ms)

-- what the line needs to know of the operations begun, O x
pub record OpsOk {C : Type 0} (first : C) (founder : ℕ) (O : ℕ → Op C) : Type 0 where
  -- two writes that were settled with one stamp are one operation
  pub unique : (x y : ℕ) → (O x).settled ≡ true → is_writing (O x).kind ≡ true → (O y).settled ≡ true → is_writing (O y).kind ≡ true →
      (O x).stamp ≡ (O y).stamp → x ≡ y
  -- what a collect answered is the first card with its stamp, or a named write's
  pub value : (x : ℕ) → (O x).collected ≡ true → ValueOf first founder O (O x).got_card (O x).got_stamp
  -- a named write's count is not that of the first stamp
  pub counted : (x : ℕ) → (O x).settled ≡ true → is_writing (O x).kind ≡ true → 1 ≤ (O x).stamp.count
  -- what was collected before y was begun is not above y, and below it if y is a write
  pub order : (x y : ℕ) → (O x).collected ≡ true → (O x).end < (O y).begun → (O y).settled ≡ true → below (O y).stamp (O x).stamp ≡ false
  pub strict : (x y : ℕ) → (O x).collected ≡ true → (O x).end < (O y).begun → (O y).settled ≡ true → is_writing (O y).kind ≡ true →
      below (O x).stamp (O y).stamp ≡ true

pub ops-ok : {B C : Type 0} {reads writes : Rule B} {first : C} {founder : ℕ} (d : Day B C) → Fine reads writes first founder d →
    OpsOk first founder (op_at first d.ops)
ops-ok d f = let v = f.sound in record {
  unique = v.names.unique;
  value = λ x h. (v.collected x h).value;
  counted = v.names.count;
  order = λ x y h l s. not-below (v.orders.order x y h l s);
  strict = λ x y h l s w. is_below (v.orders.strict x y h l s w);
}
