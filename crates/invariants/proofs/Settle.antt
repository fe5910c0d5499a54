-- Who settles holds at least the stamp of every operation that was confirmed before its own was begun.
use Rattle.std.proofs.Common.{◌≡◌, ℕ, zero, suc, ◌<◌, ◌≤◌, max, true, refl, subst, inl, inr, arith}
use Rattle.std.proofs.lemmas.Bool.{cases_lt}
use Rattle.parts.specs.declared.counts.Group.{Group as GroupNumber}
use Rattle.parts.specs.ChartLaws.{UsableAt}
use Rattle.parts.specs.Charts.{length_list}
use Rattle.parts.proofs.Cuts.{usable-length}
use Rattle.replica.specs.Covering.{covered_list}
use Rattle.invariants.proofs.Bases.{Base, BaseRec, Rec, RecOk}
use Rattle.invariants.proofs.Books.{Book, Meets}
use Rattle.invariants.proofs.Covers.{covers}
use Rattle.invariants.proofs.Entries.{EntryStamps}
use Rattle.invariants.proofs.Invariant.{Inv, OpChart}
use Rattle.invariants.proofs.KeepQueries.{Queries}
use Rattle.invariants.proofs.Operations.{heard-of, is_query, places_of, query-runs}
use Rattle.invariants.proofs.Stamps.{Le, le_then}
use Rattle.invariants.proofs.Views.{View, op, row}

module _ {C : Type 0} {B : Book} {E : EntryStamps} (meet : Meets B) (s : View C) (bs : ℕ → Base) (i : ℕ) (v : Inv B s E) (qs : Queries s bs)
    (q : is_query (op s i) ≡ true) (cov : covered_list B.reads (places_of (op s i)) (heard-of (op s i)) ≡ true)
    (r : Rec) (ok : RecOk B s E r) (br : BaseRec B s (bs i) r) where
  oc : OpChart s.listed (row s i)
  oc = v.charts.ops i (query-runs _ q)

  -- a place that both went through
  both-places : (m : ℕ) (c : GroupNumber) (k : ℕ) → UsableAt (places_of (op s i)) m c → m ≤ k → k < length_list (places_of (op s i)) → r.low ≤ k →
      k < r.high → Le r.stamp (row s i).stamp
  both-places m c k u l₁ l₂ l₃ l₄ =
      let rd = covers s.listed B.reads (places_of (op s i)) (heard-of (op s i)) oc.ok cov m c u k l₁ l₂ in
      let (j, hj, rj) = meet _ _ _ rd (ok.writes k l₃ l₄) in
      le_then (br.late j rj) (qs.heard i q j hj).stamp

  -- the query stopped before the record's places: its readers would have gone past it
  before : (m : ℕ) (c : GroupNumber) (k : ℕ) → UsableAt (places_of (op s i)) m c → m ≤ k → suc k ≡ length_list (places_of (op s i)) → k < r.low → ⊥
  before m c k u l₁ e l₂ =
      let rd = covers s.listed B.reads (places_of (op s i)) (heard-of (op s i)) oc.ok cov m c u k l₁ (omega arith) in
      let b = br.under k l₂ in
      let (j, hj, rj) = meet _ _ _ rd b.writes in
      let f = b.far j rj in let g = (qs.heard i q j hj).long in omega arith

  -- the query began after the record's places: they were handed over to i
  after : (m : ℕ) (c : GroupNumber) (k : ℕ) → UsableAt (places_of (op s i)) m c → k < m → suc k ≡ r.high → r.low ≤ k →
      Le r.stamp (row s i).stamp
  after m c k u l₁ e l₂ =
      let h = v.gone.terms i k (oc.gone k (u.below k l₁)) in
      let (j, hj, rj) = meet _ _ _ h.reads (ok.writes k l₂ (omega arith)) in
      le_then (ok.late j rj) (subst (λ x. Le (E j x) (row s i).stamp) e (h.early j hj))

  by_cases : (m : ℕ) (c : GroupNumber) → UsableAt (places_of (op s i)) m c → Le r.stamp (row s i).stamp
  by_cases m c u = let z = usable-length _ m c u in let y = ok.order in elim (cases_lt r.low (length_list (places_of (op s i)))) [
    | inr l ↦ absurd (last-place (length_list (places_of (op s i))) z refl l)
    | inl l ↦ elim (cases_lt m r.high) [
      | inl l' ↦ both-places m c (max r.low m) u (omega arith) (omega arith) (omega arith) (omega arith)
      | inr l' ↦ past-place r.high refl l' y
    ]
  ]
    where
      last-place : (n : ℕ) → m < n → n ≡ length_list (places_of (op s i)) → n ≤ r.low → ⊥
      last-place zero a b d = omega arith
      last-place (suc n) a b d = before m c n u (omega arith) b d

      past-place : (n : ℕ) → n ≡ r.high → n ≤ m → r.low < n → Le r.stamp (row s i).stamp
      past-place zero a b d = absurd (omega arith)
      past-place (suc n) a b d = after m c n u b a (omega arith)

  -- whichever of these it was
  pub settle-lemma : Le r.stamp (row s i).stamp
  settle-lemma = let w = oc.ok.usable in by_cases w.0 w.1 w.2
