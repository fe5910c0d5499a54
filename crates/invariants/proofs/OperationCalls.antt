-- Read, write, settle, confirm and collect keep the invariant, and settle and collect find the operation that they are about.
use Rattle.std.proofs.Common.{◌≡◌, ℕ, ◌<◌, true, false, List, length, Ok, Result, sym, refl, ap, ◌∙◌, subst, arith}
use Rattle.std.proofs.lemmas.List.{length_push, length-set}
use Rattle.parts.specs.declared.calls.Call.TheVariants.{Collect, Settle}
use Rattle.parts.specs.declared.counts.Terminal.{Terminal}
use Rattle.parts.specs.declared.stamps.Stamp.{Stamp}
use Rattle.replica.specs.declared.operations.Kind.{Kind}
use Rattle.replica.specs.declared.operations.Kind.TheVariants.{Write}
use Rattle.replica.specs.declared.operations.Move.TheVariants.{Begin}
use Rattle.replica.specs.declared.operations.Operation.TheVariants.{Done, Free, Prop, Query}
use Rattle.replica.specs.declared.operations.Phase.{Phase}
use Rattle.replica.specs.declared.refusals.Refusal.{Refusal}
use Rattle.replica.specs.declared.replicas.Replica.{Replica}
use Rattle.replica.specs.Covering.{covered_list}
use Rattle.replica.specs.Operating.{operated, proposed, queried}
use Rattle.house.specs.declared.calling.Answer.TheVariants.{Collected as AnswerCollected, Settled}
use Rattle.house.specs.Calls.{Outcome, pair_answer, plain_answer, stamp_answer}
use Rattle.house.specs.Guards.{answering, mapped}
use Rattle.house.specs.States.{State, seated}
use Rattle.house.specs.Steps.{Rule, collect_step, confirm_step, operate_step, settle_step}
use Rattle.invariants.proofs.Acting.{not-ok}
use Rattle.invariants.proofs.Books.{Meets}
use Rattle.invariants.proofs.CallMoves.{move-ended, move-proposed, move-queried}
use Rattle.invariants.proofs.Days.{Day, begun_by, begun_ops, changed_ops, day_by, day_on}
use Rattle.invariants.proofs.Entries.{entered_at}
use Rattle.invariants.proofs.Fine.{Fine, answers_of, fine-ticks, world}
use Rattle.invariants.proofs.OpLists.{op-past, op-push, op-push-other, op_set, op-set-other}
use Rattle.invariants.proofs.Operating.{begin-cases, collect-cases, confirm-cases, settle-cases}
use Rattle.invariants.proofs.Operations.{card-of, done-kept, heard-of, is_done, is_free, is_prop, is_query, kept-busy, kind-of, places_of, prop-runs, query-busy, stamp-of}
use Rattle.invariants.proofs.Ops.{Op, collected_op, new_op, op_at, settled_op}
use Rattle.invariants.proofs.OpsBegin.{begins, sound-begins, taken-base}
use Rattle.invariants.proofs.OpsCollect.{sound-collects}
use Rattle.invariants.proofs.OpsConfirm.{confirms, rec-of, sound-confirms}
use Rattle.invariants.proofs.OpsSettle.{not-under, settled-card, settled-stamp, sound-settles, turns}
use Rattle.invariants.proofs.Puts.{Puts}
use Rattle.invariants.proofs.Seen.{puts-seated, seen}
use Rattle.invariants.proofs.Updates.{update}
use Rattle.invariants.proofs.Views.{row}
use Rattle.invariants.proofs.World.{Sound, World}

-- the operation at i that an answer goes to is the last one begun there, and was not collected
pub record Finds {B C : Type 0} (first : C) (d : Day B C) (i : Terminal) : Type 0 where
  pub inside : d.cur i.0 < length d.ops
  pub mine : (op_at first d.ops (d.cur i.0)).terminal ≡ i.0
  pub last : (x : ℕ) → d.cur i.0 < x → x < length d.ops → (op_at first d.ops x).terminal ≡ i.0 → ⊥
  pub uncollected : (op_at first d.ops (d.cur i.0)).collected ≡ false

-- a settle finds one that was not settled
pub record SettleFinds {B C : Type 0} (first : C) (d : Day B C) (i : Terminal) : Type 0 where
  pub finds : Finds first d i
  pub unsettled : (op_at first d.ops (d.cur i.0)).settled ≡ false

-- a collect finds one whose settle answered the stamp; a write's card is the one collected
pub record CollectFinds {B C : Type 0} (first : C) (d : Day B C) (i : Terminal) (c : C) (st : Stamp) : Type 0 where
  pub finds : Finds first d i
  pub settled : (op_at first d.ops (d.cur i.0)).settled ≡ true
  pub stamp : (op_at first d.ops (d.cur i.0)).stamp ≡ st
  pub card : (c₀ : C) → (op_at first d.ops (d.cur i.0)).kind ≡ Write c₀ → c ≡ c₀

module _ {B C : Type 0} {reads writes : Rule B} {first : C} {founder : ℕ} (d : Day B C) (f : Fine reads writes first founder d) (i : Terminal) where
  -- the world before the call, and the row of the terminal that acts
  abbrev w : World C
  w = world first d f.ghost

  abbrev mine : Replica C
  mine = row (seen first d.now) i.0

  v : Sound (answers_of reads writes d.now.book) first founder (world first d f.ghost)
  v = f.sound

  puts : i.0 < length d.now.replicas → (t : Replica C) → Puts (seen first d.now) (seen first (seated i t d.now)) i.0 t
  puts l t = puts-seated first d.now i t l

  -- the invariant holds after a read or write that came to this
  abbrev Begun : Kind C → Result (C × Stamp) Refusal × State B C → Type 0
  Begun k r = Fine reads writes first founder (begun_by first i k (answering plain_answer (answering (λ p. tt) r)) d)

  begins-op : (k : Kind C) → i.0 < length d.now.replicas → Begun k (Ok (mine.card, mine.stamp), seated i (queried k mine) d.now)
  unfolding begins new_op
  begins-op k l = let p = puts l (queried k mine) in record {
    ghost = record {
      entry = entered_at (seen first (seated i (queried k mine) d.now)) f.ghost.entry;
      base = update f.ghost.base i.0 (taken-base (seen first (seated i (queried k mine) d.now)) d.clock);
      recs = f.ghost.recs;
    };
    sound = sound-begins w (seen first (seated i (queried k mine) d.now)) i.0 k (op_at first (begun_ops first i k d)) (length (begun_ops first i k d)) v
        (move-queried v.inv k p) p.here
        (op-push first d.ops _) (λ x n. op-push-other first d.ops _ x n) (length_push d.ops _ ∙ omega arith)
        (ap (λ (o : Op C). o.settled) (op-past first d.ops (length d.ops) (omega arith)))
        (ap (λ (o : Op C). o.collected) (op-past first d.ops (length d.ops) (omega arith)));
  }

  pub fine-begin : (k : Kind C) →
      Fine reads writes first founder (begun_by first i k (answering plain_answer (answering (λ p. tt) (operate_step reads writes (Begin k) i d.now))) d)
  fine-begin k = begin-cases reads writes first i d.now (Begun k) (λ e. fine-ticks d f) k (begins-op k)

  -- who is busy is so with the last operation begun
  finds : is_free mine.operation ≡ false → Finds first d i
  finds b = let c = v.now i.0 in record { inside = (c.inside b).here; mine = c.mine b; last = (c.inside b).last; uncollected = c.open-still b }

  -- settle
  module _ (meet : Meets (answers_of reads writes d.now.book)) (k : Kind C) (p : Phase) (l : i.0 < length d.now.replicas)
      (e : mine.operation ≡ Query k p) (c : covered_list (reads d.now.book) p.chart.places p.heard ≡ true) where
    query : is_query mine.operation ≡ true
    query = ap is_query e

    -- what it keeps, the state that it leaves, and the operations
    abbrev pair : C × Stamp
    pair = (settled-card mine k, settled-stamp mine i.0 k)

    abbrev next : State B C
    next = seated i (proposed pair.0 pair.1 mine) d.now

    abbrev ops : List (Op C)
    ops = changed_ops first i (λ o. settled_op o pair.1) d

    settles-op : Fine reads writes first founder (day_by first (Settle i) (Ok (Settled pair.1), next) d)
    unfolding turns
    settles-op = let q = puts l (proposed pair.0 pair.1 mine) in record {
      ghost = record { entry = entered_at (seen first next) f.ghost.entry; base = f.ghost.base; recs = f.ghost.recs };
      sound = sound-settles meet w (seen first next) i.0 k (op_at first ops) (length ops) v
          (move-proposed v.inv _ _ (not-under mine i.0 k) q) query
          (subst (λ o. covered_list (reads d.now.book) (places_of o) (heard-of o) ≡ true) (sym e) c) (ap kind-of e) q.here
          (op_set first d.ops (d.cur i.0) _ ((v.now i.0).inside (query-busy _ query)).here)
          (λ x n. op-set-other first d.ops (d.cur i.0) _ x n)
          (length-set d.ops (d.cur i.0) _);
    }

  pub fine-settle : Meets (answers_of reads writes d.now.book) →
      Fine reads writes first founder (day_by first (Settle i) (answering stamp_answer (settle_step reads writes i d.now)) d)
  fine-settle meet = settle-cases reads writes first i d.now
      (λ r. Fine reads writes first founder (day_by first (Settle i) (answering stamp_answer (answering (λ p. p.1) r)) d)) (λ e. fine-ticks d f) (settles-op meet)

  pub settle-finds : (st : Stamp) → mapped (stamp_answer {C = C}) (settle_step reads writes i d.now).0 ≡ Ok (Settled st) → SettleFinds first d i
  settle-finds st = settle-cases reads writes first i d.now
      (λ r. mapped (stamp_answer {C = C}) (answering (λ p. p.1) r).0 ≡ Ok (Settled st) → SettleFinds first d i)
      (λ e q. absurd (not-ok q))
      (λ k p l e c _. record { finds = finds (query-busy _ (ap is_query e)); unsettled = (v.now i.0).unsettled (ap is_query e) })

  -- confirm
  module _ (pair : C × Stamp) (p : Phase) (l : i.0 < length d.now.replicas) (e : mine.operation ≡ Prop pair p)
      (c : covered_list (writes d.now.book) p.chart.places p.heard ≡ true) where
    prop : is_prop mine.operation ≡ true
    prop = ap is_prop e

    -- the row that it leaves, and the state
    abbrev done-row : Replica C
    done-row = operated mine.card mine.stamp mine.number (Done pair) mine

    abbrev done-state : State B C
    done-state = seated i done-row d.now

    confirms-op : Fine reads writes first founder (day_on done-state d)
    unfolding confirms
    confirms-op =
        let q = puts l done-row in
        let u = (v.inv.charts.ops i.0 (prop-runs _ prop)).ok.usable in
        let same : (card-of mine.card mine.operation, stamp-of mine.operation) ≡ pair = ap (λ o. (card-of mine.card o, stamp-of o)) e in
        record {
          ghost = record {
            entry = entered_at (seen first done-state) f.ghost.entry;
            base = f.ghost.base;
            recs = update f.ghost.recs (d.cur i.0) (rec-of mine u.0);
          };
          sound = sound-confirms w (seen first done-state) i.0 v (move-ended v.inv (Done pair) refl refl q) prop
              (subst (λ o. covered_list (writes d.now.book) (places_of o) (heard-of o) ≡ true) (sym e) c) mine.card
              (q.here ∙ ap (λ kept. operated mine.card mine.stamp mine.number (Done kept) mine) (sym same)) u.0 u.1 u.2;
        }

  pub fine-confirm : Fine reads writes first founder (day_on (confirm_step reads writes i d.now).1 d)
  fine-confirm = confirm-cases reads writes first i d.now (λ r. Fine reads writes first founder (day_on r.1 d)) (λ e. fine-ticks d f) confirms-op

  -- collect
  module _ (pair : C × Stamp) (l : i.0 < length d.now.replicas) (e : mine.operation ≡ Done pair) where
    done : is_done mine.operation ≡ true
    done = ap is_done e

    busy : is_free mine.operation ≡ false
    busy = kept-busy _ (done-kept _ done)

    -- the row that it leaves, the state, and the operations
    abbrev free-row : Replica C
    free-row = operated mine.card mine.stamp mine.number Free mine

    abbrev free-state : State B C
    free-state = seated i free-row d.now

    abbrev collected-ops : List (Op C)
    collected-ops = changed_ops first i (λ o. collected_op o d.clock pair.0 pair.1) d

    collects-op : Fine reads writes first founder (day_by first (Collect i) (Ok (AnswerCollected pair), free-state) d)
    unfolding turns
    collects-op =
        let q = puts l free-row in
        let same : (card-of mine.card mine.operation, stamp-of mine.operation) ≡ pair = ap (λ o. (card-of mine.card o, stamp-of o)) e in
        let last = op_at first d.ops (d.cur i.0) in
        record {
          ghost = record { entry = entered_at (seen first free-state) f.ghost.entry; base = f.ghost.base; recs = f.ghost.recs };
          sound = sound-collects w (seen first free-state) i.0 (op_at first collected-ops) (length collected-ops) v
              (move-ended v.inv Free refl refl q) done mine.card q.here
              (op_set first d.ops (d.cur i.0) _ ((v.now i.0).inside busy).here ∙ ap (λ kept. collected_op last d.clock kept.0 kept.1) (sym same))
              (λ x n. op-set-other first d.ops (d.cur i.0) _ x n)
              (length-set d.ops (d.cur i.0) _);
        }

    found-op : (c : C) (st : Stamp) → pair ≡ (c, st) → CollectFinds first d i c st
    found-op c st q = let kept = done-kept _ done in let z = v.now i.0 in record {
      finds = finds busy;
      settled = z.settled kept;
      stamp = z.stamp kept ∙ ap stamp-of e ∙ ap (λ (x : C × Stamp). x.1) q;
      card = λ c₀ h. sym (ap (card-of first) e ∙ ap (λ (x : C × Stamp). x.0) q) ∙ z.card kept c₀ h;
    }

  pub fine-collect : Fine reads writes first founder (day_by first (Collect i) (answering pair_answer (collect_step reads writes i d.now)) d)
  fine-collect = collect-cases reads writes first i d.now
      (λ r. Fine reads writes first founder (day_by first (Collect i) (answering pair_answer r) d)) (λ e. fine-ticks d f) collects-op

  pub collect-finds : (c : C) (st : Stamp) → mapped pair_answer (collect_step reads writes i d.now).0 ≡ Ok (AnswerCollected (c, st)) →
      CollectFinds first d i c st
  collect-finds c st = collect-cases reads writes first i d.now (λ r. mapped pair_answer r.0 ≡ Ok (AnswerCollected (c, st)) → CollectFinds first d i c st)
      (λ e q. absurd (not-ok q))
      (λ pair l e q. found-op pair l e c st (same pair (c, st) q))
    where
      same : (x y : C × Stamp) → ◌≡◌ {A = Outcome C} (Ok (AnswerCollected x)) (Ok (AnswerCollected y)) → x ≡ y
      same x y q = cc
