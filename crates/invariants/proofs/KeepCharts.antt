-- Every move keeps what holds of charts.
use Rattle.std.proofs.Common.{◌≡◌, ℕ, true, List, sym, ap, ◌∙◌, inl, inr}
use Rattle.std.proofs.lemmas.Bool.{false≢true}
use Rattle.parts.specs.declared.counts.Group.{Group as GroupNumber}
use Rattle.parts.specs.declared.entries.Entry.{Entry}
use Rattle.parts.specs.declared.entries.Entry.TheVariants.{Retired}
use Rattle.parts.specs.ChartLaws.{entry_in}
use Rattle.parts.specs.Charts.{cut_list}
use Rattle.parts.proofs.Cuts.{cut_twice}
use Rattle.replica.specs.declared.replicas.Replica.{Replica}
use Rattle.invariants.proofs.Books.{Book}
use Rattle.invariants.proofs.Entries.{EntryStamps}
use Rattle.invariants.proofs.Invariant.{Charts, OpChart}
use Rattle.invariants.proofs.Moves.{Move, OpMove, o-again, o-idle, o-more, o-prop, o-query, o-same}
use Rattle.invariants.proofs.Operations.{places_of, put-places, put-runs, runs}
use Rattle.invariants.proofs.Rows.{RowOk, cut-gone, cut_ok}
use Rattle.invariants.proofs.Steps.{Step, each}
use Rattle.invariants.proofs.Views.{View, chart, op, row}

pub chart-grows : {C : Type 0} {s s' : View C} {i : ℕ} → Step s s' i → (a : List Entry) → RowOk s.listed a → RowOk s'.listed a
chart-grows st a ok = record {
  agree = λ k c e. let g = ok.agree k c e in let l = st.listed k g.0 in (l.0, g.1 ∙ sym l.1);
  usable = ok.usable;
  wide = ok.wide;
}

op-from : {C : Type 0} (ls : List GroupNumber) (t : Replica C) (a : List Entry) → places_of t.operation ≡ a → RowOk ls a → cut_list a ≡ a →
    ((k : ℕ) → entry_in a k ≡ Retired → entry_in t.chart.places k ≡ Retired) → OpChart ls t
op-from ls t a e ok w g = record {
  ok = rw e ok;
  whole = rw e w;
  gone = λ k h. g k (rw e at h);
}

module _ {C : Type 0} {B : Book} {s s' : View C} {E : EntryStamps} {i : ℕ} (old : Charts s) (mv : Move B s E s' i) where
  new-cut : (places_of (op s' i) ≡ cut_list (chart s' i)) → OpChart s'.listed (row s' i)
  new-cut e = op-from s'.listed (row s' i) (cut_list (chart s' i)) e (cut_ok _ _ mv.places) (cut_twice _) (cut-gone _)

  new-op : OpMove s i (row s i) (row s' i) → runs (op s' i) ≡ true → OpChart s'.listed (row s' i)
  new-op (o-same e) r = let o = old.ops i (sym (ap runs e) ∙ r) in
      op-from s'.listed (row s' i) (places_of (op s i)) (ap places_of e) (chart-grows mv.step _ o.ok) o.whole
      (λ k h. mv.step.grows.places.gone k (o.gone k h))
  new-op (o-idle e z) r = absurd (false≢true (sym e ∙ r))
  new-op (o-query k e l) r = new-cut (ap places_of e)
  new-op (o-prop c τ e l g) r = new-cut (ap places_of e)
  new-op (o-again e) r = new-cut (ap places_of e ∙ put-places _ _ _ (sym (put-runs _ _ _) ∙ sym (ap runs e) ∙ r))
  new-op (o-more j b a e snt l ru g le ok w gn) r =
      op-from s'.listed (row s' i) a (ap places_of e ∙ put-places _ _ _ ru) (chart-grows mv.step _ ok) w (λ k h. mv.step.grows.places.gone k (gn k h))

  pub keep-charts : Charts s'
  keep-charts = record {
    terms = each mv.step (λ j t. RowOk s'.listed t.chart.places) mv.places (λ j. chart-grows mv.step _ (old.terms j));
    ops = each mv.step (λ j t. runs t.operation ≡ true → OpChart s'.listed t) (new-op mv.op)
        (λ j r. let o = old.ops j r in record { ok = chart-grows mv.step _ o.ok; whole = o.whole; gone = o.gone });
    msgs = λ f t b h. elim (mv.step.pool f t b h) [
      | inl o ↦ chart-grows mv.step _ (old.msgs f t b o)
      | inr n ↦ rw n.1 mv.places
    ];
  }
