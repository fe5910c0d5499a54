-- A history beside the operations that the invariants of the house keep: what a call makes of both.
use Rattle.std.proofs.Common.{◌≡◌, ℕ, suc, List, [], ◌∷◌, ◌++◌, map, length, Some, Ok, Err, sym, refl, ap, ◌∙◌, arith}
use Rattle.std.specs.List.{slice_get}
use Rattle.std.proofs.lemmas.List.{map-append, map-set, length_push}
use Rattle.parts.specs.declared.calls.Call.{Call}
use Rattle.parts.specs.declared.calls.Call.TheVariants.{Enter, Knock, Send, Deliver, Lose, Crash, Read, Write, Settle, Confirm, Collect, Appoint, Tell, Retire, RetireSettle, RetireConfirm, RetireClose}
use Rattle.parts.specs.declared.counts.Group.{Group}
use Rattle.parts.specs.declared.counts.Terminal.{Terminal}
use Rattle.parts.specs.declared.sets.TerminalSet.{TerminalSet}
use Rattle.parts.specs.declared.stamps.Stamp.{Stamp}
use Rattle.replica.specs.declared.operations.Kind.{Kind}
use Rattle.replica.specs.declared.operations.Kind.TheVariants.{Read as Reading, Write as Writing}
use Rattle.replica.specs.declared.refusals.Refusal.{Refusal}
use Rattle.house.specs.declared.calling.Answer.{Answer}
use Rattle.house.specs.declared.calling.Answer.TheVariants.{Plain, Settled, Collected}
use Rattle.house.specs.Calls.{Outcome, step}
use Rattle.house.specs.Steps.{Rule}
use Rattle.invariants.proofs.Days.{Day, day_on, ops_after, day_by, begun_ops, changed_ops}
use Rattle.invariants.proofs.Fine.{Fine, fine-ticks}
use Rattle.invariants.proofs.Joint.{Lawful as Meeting, fine-step, settle-found, collect-found}
use Rattle.invariants.proofs.OperationCalls.{Finds, SettleFinds, CollectFinds}
use Rattle.invariants.proofs.Ops.{Op, op_at, new_op, settled_op, collected_op}
use Rattle.history.specs.Events.{Event, begun, settled, collected, other, event_of}
use Rattle.history.specs.Operations.{Operation, operations_of, Last}
use Rattle.history.proofs.Converts.{convert, nth_in, op-nth, op-is}
use Rattle.history.proofs.Facts.{Fits, Orderly}
use Rattle.history.proofs.Keeps.{orderly-more}
use Rattle.history.proofs.More.{more-begins, more-settles, more-collects, more-other}
use Rattle.history.proofs.Offers.{size_step}

-- the history so far, and the day that it was made in: it is orderly, its operations are those of the day, and the invariants hold
pub record Good {B C : Type 0} (reads writes : Rule B) (first : C) (founder : Terminal) (n : ℕ) (h : List (Event C)) (d : Day B C) : Type 0 where
  pub orderly : Orderly h
  pub same : operations_of h ≡ map convert d.ops
  pub long : length h ≡ d.clock
  pub size : d.now.size ≡ n
  pub fine : Fine reads writes first founder.0 d

-- an event fits the history, and makes these operations of those before
abbrev Follows : {C : Type 0} → List (Event C) → Event C → List (Op C) → Type 0
Follows h e ops = Fits (operations_of h) e × (operations_of (h ++ e ∷ []) ≡ map convert ops)

module _ {B C : Type 0} (count : B → ℕ) (members : B → Group → TerminalSet) (reads writes : Rule B) (meet : Meeting reads writes) {first : C} {founder : Terminal} {n : ℕ}
    (h : List (Event C)) (d : Day B C) (g : Good reads writes first founder n h d) where
  -- the operation that an answer at i goes with
  last-at : (i : Terminal) → Finds first d i → Last (operations_of h) i (d.cur i.0) (convert (op_at first d.ops (d.cur i.0)))
  unfolding convert
  last-at i f = record {
    here = rw g.same (op-nth first d.ops (d.cur i.0) f.inside);
    own = ap (λ m. record { 0 = m }) f.mine;
    last = λ j q l e t. let e' : slice_get (map convert d.ops) j ≡ Some q = sym (ap (λ z. slice_get z j) g.same) ∙ e in
        f.last j l (nth_in convert d.ops j q e') (ap (λ (t : Terminal). t.0) (sym (ap (λ (o : Operation C). o.terminal) (op-is first d.ops j q e')) ∙ t));
  }

  -- nothing is begun, settled or collected
  quiet : Follows h other d.ops
  quiet = (tt, more-other h ∙ g.same)

  begins : (i : Terminal) (k : Kind C) → Follows h (begun i k) (begun_ops first i k d)
  unfolding convert new_op
  begins i k = (tt, more-begins h i k ∙ rw (g.same, g.long, map-append) refl)

  settles : (i : Terminal) (st : Stamp) → SettleFinds first d i → Follows h (settled i st) (changed_ops first i (λ o. settled_op o st) d)
  unfolding convert settled_op
  settles i st f = let l = last-at i f.finds in (
    record { place = d.cur i.0; operation = convert (op_at first d.ops (d.cur i.0)); last = l; unsettled = rw f.unsettled refl; uncollected = rw f.finds.uncollected refl },
    more-settles h i st (d.cur i.0) _ l ∙ rw (g.same, map-set) refl,
  )

  collects : (i : Terminal) (c : C) (st : Stamp) → CollectFinds first d i c st →
      Follows h (collected i c st) (changed_ops first i (λ o. collected_op o d.clock c st) d)
  unfolding convert collected_op
  collects i c st f = let l = last-at i f.finds in (
    record {
      place = d.cur i.0;
      operation = convert (op_at first d.ops (d.cur i.0));
      last = l;
      stamp = rw (f.settled, f.stamp) refl;
      uncollected = rw f.finds.uncollected refl;
      card = λ c₀ e. sym (f.card c₀ e);
    },
    more-collects h i c st (d.cur i.0) _ l ∙ rw (g.same, g.long, map-set) refl,
  )

  -- each call with each answer
  settled-so : (i : Terminal) (a : Answer C) → (step count members reads writes (Settle i) d.now).0 ≡ Ok a →
      Follows h (event_of (Settle i) (Ok a)) (ops_after first (Settle i) (Ok a) d)
  settled-so i Plain e = quiet
  settled-so i (Settled st) e = settles i st (settle-found count members reads writes meet d g.fine i st e)
  settled-so i (Collected pair) e = quiet

  collected-so : (i : Terminal) (a : Answer C) → (step count members reads writes (Collect i) d.now).0 ≡ Ok a →
      Follows h (event_of (Collect i) (Ok a)) (ops_after first (Collect i) (Ok a) d)
  collected-so i Plain e = quiet
  collected-so i (Settled st) e = quiet
  collected-so i (Collected pair) e = collects i pair.0 pair.1 (collect-found count members reads writes meet d g.fine i pair.0 pair.1 e)

  accepted-so : (call : Call C) (a : Answer C) → (step count members reads writes call d.now).0 ≡ Ok a →
      Follows h (event_of call (Ok a)) (ops_after first call (Ok a) d)
  accepted-so (Enter i) a e = quiet
  accepted-so (Knock i j) a e = quiet
  accepted-so (Send i j) a e = quiet
  accepted-so (Deliver p) a e = quiet
  accepted-so (Lose p) a e = quiet
  accepted-so (Crash i) a e = quiet
  accepted-so (Read i) a e = begins i Reading
  accepted-so (Write i c) a e = begins i (Writing c)
  accepted-so (Settle i) a e = settled-so i a e
  accepted-so (Confirm i) a e = quiet
  accepted-so (Collect i) a e = collected-so i a e
  accepted-so (Appoint c) a e = quiet
  accepted-so (Tell i k) a e = quiet
  accepted-so (Retire i k) a e = quiet
  accepted-so (RetireSettle i) a e = quiet
  accepted-so (RetireConfirm i) a e = quiet
  accepted-so (RetireClose i) a e = quiet

  declined-so : (call : Call C) (e : Refusal) → Follows h other (ops_after first call (Err e) d)
  declined-so (Enter i) e = quiet
  declined-so (Knock i j) e = quiet
  declined-so (Send i j) e = quiet
  declined-so (Deliver p) e = quiet
  declined-so (Lose p) e = quiet
  declined-so (Crash i) e = quiet
  declined-so (Read i) e = quiet
  declined-so (Write i c) e = quiet
  declined-so (Settle i) e = quiet
  declined-so (Confirm i) e = quiet
  declined-so (Collect i) e = quiet
  declined-so (Appoint c) e = quiet
  declined-so (Tell i k) e = quiet
  declined-so (Retire i k) e = quiet
  declined-so (RetireSettle i) e = quiet
  declined-so (RetireConfirm i) e = quiet
  declined-so (RetireClose i) e = quiet

  follows : (call : Call C) (o : Outcome C) → (step count members reads writes call d.now).0 ≡ o → Follows h (event_of call o) (ops_after first call o d)
  follows call (Ok a) e = accepted-so call a e
  follows call (Err r) e = declined-so call r

  longer-by-one : (e : Event C) → length (h ++ e ∷ []) ≡ suc d.clock
  longer-by-one e = let a = length_push h e in let b = g.long in omega arith

  pub good-call : (call : Call C) →
      Good reads writes first founder n (h ++ event_of call (step count members reads writes call d.now).0 ∷ [])
      (day_by first call (step count members reads writes call d.now) d)
  good-call call = let f = follows call (step count members reads writes call d.now).0 refl in record {
    orderly = orderly-more h _ g.orderly f.0;
    same = f.1;
    long = longer-by-one _;
    size = size_step count members reads writes call d.now ∙ g.size;
    fine = fine-step count members reads writes meet d g.fine call;
  }

  pub good-ticks : Good reads writes first founder n (h ++ other ∷ []) (day_on d.now d)
  good-ticks = record {
    orderly = orderly-more h other g.orderly tt;
    same = quiet.1;
    long = longer-by-one other;
    size = g.size;
    fine = fine-ticks d g.fine;
  }
