-- A call that confirms an operation.
use Rattle.std.proofs.Common.{◌≡◌, ℕ, suc, true, false, sym, refl, ◌∙◌, subst, inl, inr, arith}
use Rattle.std.proofs.lemmas.Bool.{cases_eq, false≢true}
use Rattle.parts.specs.declared.counts.Group.{Group as GroupNumber}
use Rattle.parts.specs.ChartLaws.{UsableAt}
use Rattle.parts.specs.Charts.{length_list}
use Rattle.parts.proofs.Cuts.{usable-length}
use Rattle.replica.specs.declared.operations.Operation.TheVariants.{Done}
use Rattle.replica.specs.declared.replicas.Replica.{Replica}
use Rattle.replica.specs.Covering.{covered_list}
use Rattle.replica.specs.Operating.{operated}
use Rattle.invariants.proofs.Bases.{Rec, RecOk}
use Rattle.invariants.proofs.Books.{Book}
use Rattle.invariants.proofs.Covers.{covers, covers-known}
use Rattle.invariants.proofs.Currents.{not-mine, others-now}
use Rattle.invariants.proofs.Entries.{EntryStamps, entered_at}
use Rattle.invariants.proofs.Invariant.{Inv}
use Rattle.invariants.proofs.KeepQueries.{b-same}
use Rattle.invariants.proofs.KeepRecs.{keep-sound}
use Rattle.invariants.proofs.Moves.{Move}
use Rattle.invariants.proofs.Operations.{card-of, heard-of, is_free, is_kept, is_prop, kept-busy, kept-card, places_of, prop-kept, prop-runs, stamp-of}
use Rattle.invariants.proofs.Updates.{update, update_other, update_same}
use Rattle.invariants.proofs.Views.{View, op, row}
use Rattle.invariants.proofs.World.{RecMove, Sound, World, c-new, c-same, p-same, v-same}

-- the record of a confirm
unfoldable pub rec-of : {C : Type 0} → Replica C → ℕ → Rec
rec-of t m = record {
  confirmed = true;
  stamp = stamp-of t.operation;
  low = m;
  high = length_list (places_of t.operation);
  heard = heard-of t.operation;
  top = t.stamp;
}

-- the world after a confirm
unfoldable pub confirms : {C : Type 0} → World C → View C → ℕ → Rec → World C
confirms w s' i r = record {
  s = s';
  E = entered_at s' w.E;
  O = w.O;
  n = w.n;
  cur = w.cur;
  clock = suc w.clock;
  base = w.base;
  recs = update w.recs (w.cur i) r;
}

rec-ok : {C : Type 0} {B : Book} {E : EntryStamps} (s : View C) (i : ℕ) (v : Inv B s E) → is_prop (op s i) ≡ true →
    covered_list B.writes (places_of (op s i)) (heard-of (op s i)) ≡ true →
    (m : ℕ) (c : GroupNumber) → UsableAt (places_of (op s i)) m c → RecOk B s E (rec-of (row s i) m)
unfolding rec-of
rec-ok {B = B} s i v p cov m c u = let oc = v.charts.ops i (prop-runs _ p) in record {
  order = usable-length _ m c u;
  known = λ k a b. covers-known s.listed B.writes _ (heard-of (op s i)) oc.ok cov m c u k a b;
  writes = λ k a b. covers s.listed B.writes _ _ oc.ok cov m c u k a b;
  late = λ j h. v.props.heard i p j h;
  under = λ k l. v.gone.terms i k (oc.gone k (u.below k l));
}

module _ {C : Type 0} {B : Book} {first : C} {founder : ℕ} (w : World C) (s' : View C) (i : ℕ) (v : Sound B first founder w)
    (mv : Move B w.s w.E s' i)
    (p : is_prop (op w.s i) ≡ true) (cov : covered_list B.writes (places_of (op w.s i)) (heard-of (op w.s i)) ≡ true) (d : C)
    (e : row s' i ≡ operated (row w.s i).card (row w.s i).stamp (row w.s i).number (Done (card-of d (op w.s i), stamp-of (op w.s i))) (row w.s i))
    (m : ℕ) (c : GroupNumber) (u : UsableAt (places_of (op w.s i)) m c) where
  kept : is_kept (op w.s i) ≡ true
  kept = prop-kept _ p

  busy : is_free (op w.s i) ≡ false
  busy = kept-busy _ kept

  same-card : card-of d (op w.s i) ≡ card-of first (op w.s i)
  same-card = kept-card d first _ kept

  rec-move : (x : ℕ) → RecMove B w (confirms w s' i (rec-of (row w.s i) m)) x
  unfolding confirms
  rec-move x = elim (cases_eq x (w.cur i)) [
    | inl q ↦ subst (λ x. RecMove B w (confirms w s' i (rec-of (row w.s i) m)) x) (sym q)
        (c-new ((v.now i).open-still busy) ((v.now i).open-still busy)
        (rw (update_same w.recs (w.cur i) (rec-of (row w.s i) m)) (rec-ok w.s i v.inv p cov m c u)))
    | inr q ↦ c-same (update_other w.recs (w.cur i) _ x q)
  ]

  pub sound-confirms : Sound B first founder (confirms w s' i (rec-of (row w.s i) m))
  unfolding confirms rec-of
  sound-confirms = keep-sound v (record {
    move = mv;
    entry = refl;
    base = b-same (λ x. refl);
    begun = λ x. inl refl;
    clock = refl;
    pull = λ x. p-same refl;
    rec = rec-move;
    value = v-same (rw e refl) (rw e refl);
    kept = λ _. rw (e, same-card) (v.vals.kept i kept);
    here = rw (e, update_same w.recs (w.cur i) (rec-of (row w.s i) m)) (record {
      inside = λ _. (v.now i).inside busy;
      mine = λ _. (v.now i).mine busy;
      open-still = λ _. (v.now i).open-still busy;
      begun = λ h. absurd (false≢true h);
      kind = λ h. absurd (false≢true h);
      unsettled = λ h. absurd (false≢true h);
      settled = λ _. (v.now i).settled kept;
      stamp = λ _. (v.now i).stamp kept;
      card = λ _ c₀ h. same-card ∙ (v.now i).card kept c₀ h;
      confirmed = λ _. refl;
      rec-stamp = λ _. refl;
    });
    there = others-now w (confirms w s' i (rec-of (row w.s i) m)) v mv.step (w.cur i) (λ x _. refl) (λ x q. update_other w.recs (w.cur i) _ x q)
        (omega arith) (λ x h. inl (h, refl)) (λ x _. refl) (λ x _. refl) (not-mine w i v busy);
  }) (λ x y a b c d. absurd (false≢true (sym a ∙ b)))
