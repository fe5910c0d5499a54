-- A call that settles an operation.
use Rattle.std.proofs.Common.{◌≡◌, ℕ, suc, ◌+◌, ◌<◌, true, false, sym, refl, ap, ◌∙◌, subst, inl, inr, arith}
use Rattle.std.proofs.lemmas.Bool.{cases_eq, false≢true}
use Rattle.parts.specs.declared.stamps.Stamp.{Stamp}
use Rattle.replica.specs.declared.operations.Kind.{Kind}
use Rattle.replica.specs.declared.operations.Kind.TheVariants.{Read, Write}
use Rattle.replica.specs.declared.replicas.Replica.{Replica}
use Rattle.replica.specs.Covering.{covered_list}
use Rattle.replica.specs.Operating.{proposed}
use Rattle.replica.specs.Replicas.{stamp_of}
use Rattle.invariants.proofs.Books.{Book, Meets}
use Rattle.invariants.proofs.Currents.{not-mine, others-now}
use Rattle.invariants.proofs.Entries.{entered_at}
use Rattle.invariants.proofs.KeepOps.{value-rises}
use Rattle.invariants.proofs.KeepQueries.{b-same}
use Rattle.invariants.proofs.KeepRecs.{keep-sound}
use Rattle.invariants.proofs.Moves.{Move}
use Rattle.invariants.proofs.Operations.{heard-of, is_free, is_query, kind-of, places_of, query-busy}
use Rattle.invariants.proofs.Ops.{Op, ValueOf, from-write, is_writing, settled_op}
use Rattle.invariants.proofs.Sets.{terminal}
use Rattle.invariants.proofs.Settle.{settle-lemma}
use Rattle.invariants.proofs.Stamps.{Le, le_next, le_same, lt-le}
use Rattle.invariants.proofs.Views.{View, op, row}
use Rattle.invariants.proofs.World.{Pull, Sound, World, c-same, p-same, p-settle, v-new}

-- the card that a settle keeps
abbrev pub settled-card : {C : Type 0} → Replica C → Kind C → C
settled-card t Read = t.card
settled-card t (Write c) = c

-- and the stamp
abbrev pub settled-stamp : {C : Type 0} → Replica C → ℕ → Kind C → Stamp
settled-stamp t i Read = t.stamp
settled-stamp t i (Write c) = stamp_of (t.stamp.count + 1) (terminal i)

-- the world after a call in which operation y becomes another
unfoldable pub turns : {C : Type 0} → World C → View C → (ℕ → Op C) → ℕ → World C
turns w s' O' n' = record { s = s'; E = entered_at s' w.E; O = O'; n = n'; cur = w.cur; clock = suc w.clock; base = w.base; recs = w.recs }

names-it : {C : Type 0} (t : Replica C) (i : ℕ) (k : Kind C) → is_writing k ≡ true → settled-stamp t i k ≡ stamp_of (t.stamp.count + 1) (terminal i)
names-it t i Read h = absurd (false≢true h)
names-it t i (Write c) h = refl

pub not-under : {C : Type 0} (t : Replica C) (i : ℕ) (k : Kind C) → Le t.stamp (settled-stamp t i k)
not-under t i Read = le_same _
not-under t i (Write c) = lt-le (le_next _ _ i (le_same _))

module _ {C : Type 0} {B : Book} {first : C} {founder : ℕ} (meet : Meets B) (w : World C) (s' : View C) (i : ℕ) (k : Kind C) (O' : ℕ → Op C) (n' : ℕ)
    (v : Sound B first founder w) (mv : Move B w.s w.E s' i)
    (q : is_query (op w.s i) ≡ true) (cov : covered_list B.reads (places_of (op w.s i)) (heard-of (op w.s i)) ≡ true)
    (ek : kind-of (op w.s i) ≡ k)
    (e : row s' i ≡ proposed (settled-card (row w.s i) k) (settled-stamp (row w.s i) i k) (row w.s i))
    (eo : O' (w.cur i) ≡ settled_op (w.O (w.cur i)) (settled-stamp (row w.s i) i k)) (es : (x : ℕ) → (x ≡ w.cur i → ⊥) → O' x ≡ w.O x) (en : n' ≡ w.n) where
  busy : is_free (op w.s i) ≡ false
  busy = query-busy _ q

  mine : (w.O (w.cur i)).terminal ≡ i
  mine = (v.now i).mine busy

  kind : (w.O (w.cur i)).kind ≡ k
  kind = (v.now i).kind q ∙ ek

  bound : (z : ℕ) → (w.O z).collected ≡ true → (w.O z).end < (w.O (w.cur i)).begun → Le (w.O z).stamp (row w.s i).stamp
  bound z c l = let d = v.collected z c in
      let l' : (w.O z).end < (w.base i).begun = rw (← (v.now i).begun q) l in
      subst (λ t. Le t (row w.s i).stamp) d.rec-stamp
      (settle-lemma meet w.s w.base i v.inv v.queries q cov (w.recs z) (v.recs.ok z d.confirmed) (v.recs.bases i z c l'))

  pull-here : Pull first founder w (turns w s' O' n') (w.cur i)
  unfolding turns
  pull-here = p-settle (settled-stamp (row w.s i) i k) eo ((v.now i).unsettled q) ((v.now i).open-still busy)
      (λ h. rw mine (names-it (row w.s i) i k (rw kind at h)))
      (rw (mine, e) (le_same _)) (rw mine (not-under (row w.s i) i k))
      (λ z c l. rw mine (bound z c l))

  pull : (x : ℕ) → Pull first founder w (turns w s' O' n') x
  unfolding turns
  pull x = elim (cases_eq x (w.cur i)) [
    | inl p ↦ subst (λ x. Pull first founder w (turns w s' O' n') x) (sym p) pull-here
    | inr p ↦ p-same (es x p)
  ]

  -- what is named is a value
  value_of : (j : Kind C) → k ≡ j → ValueOf first founder O' (settled-card (row w.s i) j) (settled-stamp (row w.s i) i j)
  unfolding settled_op turns
  value_of Read p = value-rises {w = w} {w' = turns w s' O' n'} pull _ _ (v.vals.terms i)
  value_of (Write c) p = from-write (w.cur i) (rw eo refl) (rw eo (kind ∙ p)) (rw (eo, p) refl)

  whose : (x : ℕ) → (O' x).terminal ≡ (w.O x).terminal
  unfolding settled_op
  whose x = elim (cases_eq x (w.cur i)) [
    | inl p ↦ subst (λ x. (O' x).terminal ≡ (w.O x).terminal) (sym p) (rw eo refl)
    | inr p ↦ rw (es x p) refl
  ]

  card-is : (c : C) → k ≡ Write c → settled-card (row w.s i) k ≡ c
  card-is c p = rw p refl

  pub sound-settles : Sound B first founder (turns w s' O' n')
  unfolding turns settled_op
  sound-settles = keep-sound v (record {
    move = mv;
    entry = refl;
    base = b-same (λ x. refl);
    begun = λ x. inl refl;
    clock = refl;
    pull = pull;
    rec = λ x. c-same refl;
    value = v-new (rw e (value_of k refl));
    kept = λ _. rw e (value_of k refl);
    here = rw (e, eo) (record {
      inside = λ _. record { here = rw en ((v.now i).inside busy).here; last = λ x a b q₀. ((v.now i).inside busy).last x a (rw en at b) (sym (whose x) ∙ q₀) };
      mine = λ _. mine;
      open-still = λ _. (v.now i).open-still busy;
      begun = λ h. absurd (false≢true h);
      kind = λ h. absurd (false≢true h);
      unsettled = λ h. absurd (false≢true h);
      settled = λ _. refl;
      stamp = λ _. refl;
      card = λ _ c h. card-is c (sym kind ∙ h);
      confirmed = λ h. absurd (false≢true h);
      rec-stamp = λ h. absurd (false≢true h);
    });
    there = others-now w (turns w s' O' n') v mv.step (w.cur i) es (λ x _. refl) (rw en (omega arith))
        (λ x h. inl (rw en at h, whose x)) (λ x _. refl) (λ x _. refl) (not-mine w i v busy);
  }) (λ x y a b c d. new-one x a b ∙ sym (new-one y c d))
    where
      new-one : (x : ℕ) → (w.O x).settled ≡ false → (O' x).settled ≡ true → x ≡ w.cur i
      new-one x a b = elim (cases_eq x (w.cur i)) [ inl p ↦ p | inr p ↦ absurd (false≢true (sym a ∙ sym (ap (λ (o : Op C). o.settled) (es x p)) ∙ b)) ]
