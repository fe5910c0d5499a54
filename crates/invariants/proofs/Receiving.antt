-- News that arrives, as a move of its receiver.
use Rattle.std.proofs.Common.{◌≡◌, ℕ, ◌≤◌, max, true, false, leb, length, refl, ap, ◌∙◌, inl, inr, arith}
use Rattle.std.proofs.lemmas.Bool.{cases_Bool, cases_lt, leb-true, true≢false}
use Rattle.std.proofs.lemmas.Bool.Decides.{nat_tests}
use Rattle.parts.specs.declared.charts.Chart.{Chart}
use Rattle.parts.specs.declared.counts.PhaseNumber.{PhaseNumber}
use Rattle.parts.specs.declared.counts.Terminal.{Terminal}
use Rattle.parts.specs.Charts.{gap_list}
use Rattle.parts.specs.Sets.{with_one}
use Rattle.parts.proofs.Joins.{longer-right}
use Rattle.replica.specs.declared.messages.News.{News}
use Rattle.replica.specs.declared.operations.Operation.{Operation}
use Rattle.replica.specs.declared.operations.Operation.TheVariants.{Done, Free, Prop, Query}
use Rattle.replica.specs.declared.operations.Phase.{Phase}
use Rattle.replica.specs.declared.replicas.Replica.{Replica}
use Rattle.replica.specs.declared.retirements.Retirement.{Retirement}
use Rattle.replica.specs.declared.retirements.Retirement.TheVariants.{Free as NoRetirement, Prop as Telling, Query as Asking}
use Rattle.replica.specs.Numbers.{phase_number}
use Rattle.replica.specs.Receiving.{Hearing, chart_after, counted, heard_after, heard_operation, heard_retirement, hearing, longer, not_recent, received, restarted}
use Rattle.invariants.proofs.Books.{Book}
use Rattle.invariants.proofs.Entries.{EntryStamps}
use Rattle.invariants.proofs.Invariant.{Inv}
use Rattle.invariants.proofs.Lists.{set_cases}
use Rattle.invariants.proofs.Moves.{Hears, Move, OpMove, RetMove, h-more, h-same, o-again, o-more, o-same, r-more, r-same}
use Rattle.invariants.proofs.Operations.{phase-of, places_of, put-op, put_same, runs}
use Rattle.invariants.proofs.Puts.{Puts, handed-later, move-put}
use Rattle.invariants.proofs.Retirements.{r-heard, r-number, r-put}
use Rattle.invariants.proofs.Rows.{below-joined, extend-gone, extend-length, extend-ok, extend-whole, join-gone, join-ok, same_width}
use Rattle.invariants.proofs.Sets.{terminal}
use Rattle.invariants.proofs.Stamps.{larger-left, larger-right}
use Rattle.invariants.proofs.Views.{Sent, View, chart, heard-from, op, ret, row}

module _ {C : Type 0} (j : Terminal) (pnr : PhaseNumber) (theirs own : Chart) where
  -- an operation that hears news keeps all but the entries and the terminals heard
  pub heard-put : (o : Operation C) →
      heard_operation j pnr theirs own o ≡
      put-op o (chart_after (hearing pnr theirs (phase-of o)) theirs own (phase-of o)).places (heard_after (hearing pnr theirs (phase-of o)) j (phase-of o))
  heard-put Free = refl
  heard-put (Query k p) = refl
  heard-put (Prop kept p) = refl
  heard-put (Done kept) = refl

  -- without a phase under way nothing changes
  heard-idle : (o : Operation C) → runs o ≡ false → heard_operation j pnr theirs own o ≡ o
  heard-idle Free e = refl
  heard-idle (Query k p) e = absurd (true≢false e)
  heard-idle (Prop kept p) e = absurd (true≢false e)
  heard-idle (Done kept) e = refl

-- a sender that is counted answers the phase, and its chart opens no gap
counted-gap : (pnr : PhaseNumber) (theirs : Chart) (p : Phase) → hearing pnr theirs p ≡ counted → gap_list (longer theirs p).places ≡ false
counted-gap pnr theirs p e = grind arith

counted-recent : (pnr : PhaseNumber) (theirs : Chart) (p : Phase) → hearing pnr theirs p ≡ counted → p.number.0 ≤ pnr.0
counted-recent pnr theirs p e = grind (arith, nat_tests)

module _ (j : Terminal) (pnr : PhaseNumber) where
  heard-yes : (r : Retirement) → leb (r-number r) pnr.0 ≡ true → heard_retirement j pnr r ≡ r-put r (with_one (r-heard r) j)
  heard-yes NoRetirement e = refl
  heard-yes (Asking k n h) e = rw e refl
  heard-yes (Telling k n h) e = rw e refl

  heard-no : (r : Retirement) → leb (r-number r) pnr.0 ≡ false → heard_retirement j pnr r ≡ r
  heard-no NoRetirement e = refl
  heard-no (Asking k n h) e = rw e refl
  heard-no (Telling k n h) e = rw e refl

module _ {C : Type 0} {B : Book} {E : EntryStamps} (s : View C) (i j : ℕ) (b : News C) (v : Inv B s E) (snt : Sent s j i b) where
  now : Replica C
  now = received (terminal j) b (row s i)

  same : length (chart s i) ≡ length b.chart.places
  same = same_width s.listed _ _ (v.charts.terms i) (v.charts.msgs j i b snt)

  hears-now : (x : ℕ) → Hears s i x (row s i) now
  unfolding now
  hears-now x = elim (set_cases (row s i).latest j x (phase_number (max (heard-from (row s i).latest j) b.pns.0)) (phase_number 0)) [
    | inr e ↦ h-same (ap (λ (n : PhaseNumber). n.0) e)
    | inl c ↦ (let e : heard-from now.latest x ≡ max (heard-from (row s i).latest j) b.pns.0 = ap (λ (n : PhaseNumber). n.0) c.2 in
        elim (cases_lt (heard-from (row s i).latest j) b.pns.0) [
          | inl l ↦ h-more b (rw c.0 snt) (omega arith) (larger-right _ _) (longer-right _ _ same)
          | inr l ↦ h-same (let f = ap (heard-from (row s i).latest) c.0 in omega arith)
        ])
  ]

  running : runs (op s i) ≡ true → (h : Hearing) → hearing b.pnr b.chart (phase-of (op s i)) ≡ h → OpMove s i (row s i) now
  unfolding now
  running r not_recent e = o-same (heard-put _ _ _ _ _ ∙ rw e (put_same _))
  running r restarted e = o-again (heard-put _ _ _ _ _ ∙ rw e refl)
  running r counted e =
      let oc = v.charts.ops i r in
      let mo = v.charts.msgs j i b snt in
      let g = counted-gap b.pnr b.chart (phase-of (op s i)) e in
      o-more j b (longer b.chart (phase-of (op s i))).places (heard-put _ _ _ _ _ ∙ rw e refl) snt
      (counted-recent b.pnr b.chart (phase-of (op s i)) e) r (larger-right _ _)
      (extend-length s.listed (places_of (op s i)) b.chart.places oc.ok mo oc.whole g)
      (extend-ok s.listed (places_of (op s i)) b.chart.places oc.ok mo)
      (extend-whole s.listed (places_of (op s i)) b.chart.places oc.ok mo g)
      (λ k h. oc.gone k (extend-gone s.listed (places_of (op s i)) b.chart.places oc.ok mo k h))

  op-now : OpMove s i (row s i) now
  op-now = elim (cases_Bool (runs (op s i))) [
    | inl r ↦ running r _ refl
    | inr r ↦ o-same (unfold now in heard-idle _ _ _ _ (op s i) r)
  ]

  ret-now : RetMove B s E i (row s i) now
  unfolding now
  ret-now = elim (cases_Bool (leb (r-number (ret s i)) b.pnr.0)) [
    | inl e ↦ r-more j b (heard-yes _ _ (ret s i) e) snt (leb-true _ _ e) (larger-right _ _)
    | inr e ↦ r-same (heard-no _ _ (ret s i) e)
  ]

  pub move-received : {s' : View C} → Puts s s' i (received (terminal j) b (row s i)) → Move B s E s' i
  unfolding now
  move-received p = move-put p
      (record { stamp = larger-left _ _; places = below-joined _ _; number = omega arith })
      (join-ok s.listed _ _ (v.charts.terms i) (v.charts.msgs j i b snt))
      (λ k e. elim (join-gone (chart s i) b.chart.places k e) [
        | inl h ↦ handed-later (v.gone.terms i k h) (larger-left _ _)
        | inr h ↦ handed-later (v.gone.msgs j i b snt k h) (larger-right _ _)
      ])
      hears-now op-now ret-now
