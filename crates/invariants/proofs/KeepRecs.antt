-- Every call keeps what holds of positions, values, records and bases, and so the whole.
use Rattle.std.proofs.Common.{◌≡◌, ℕ, ◌<◌, ◌≤◌, true, false, sym, refl, subst, inl, inr, le_trans, arith}
use Rattle.std.proofs.lemmas.Bool.{cases_eq}
use Rattle.replica.specs.declared.messages.News.{News}
use Rattle.replica.specs.Replicas.{news_for}
use Rattle.invariants.proofs.Bases.{Base, BaseRec, Rec, RecOk}
use Rattle.invariants.proofs.Books.{Book}
use Rattle.invariants.proofs.Entries.{Entries, EntryStamps, entered_at, entry-grows}
use Rattle.invariants.proofs.Keep.{keep}
use Rattle.invariants.proofs.KeepGone.{handed-grows}
use Rattle.invariants.proofs.KeepOps.{begun-by, false-true, keep-collected, keep-names, keep-orders, rec-same, value_grows}
use Rattle.invariants.proofs.KeepQueries.{BaseMove, b-new, b-same, keep-queries}
use Rattle.invariants.proofs.Operations.{card-of, is_kept, stamp-of}
use Rattle.invariants.proofs.Ops.{ValueOf, collected_op, settled_op}
use Rattle.invariants.proofs.Sets.{terminal}
use Rattle.invariants.proofs.Stamps.{le_same, le_then}
use Rattle.invariants.proofs.Steps.{Step, each, lens-grow, stamps-grow}
use Rattle.invariants.proofs.Views.{View, lens, row}
use Rattle.invariants.proofs.World.{Now, OpsMove, Pull, RecMove, Recs, Sound, Times, Vals, ValueMove, World, c-new, c-same, p-collect, p-open, p-same, p-settle, v-new, v-news, v-same}

rec-grows : {C : Type 0} {B : Book} {s s' : View C} {i : ℕ} (E : EntryStamps) → Step s s' i → Entries s E → (r : Rec) → RecOk B s E r →
    RecOk B s' (entered_at s' E) r
rec-grows E st en r ok = record {
  order = ok.order;
  known = λ k a b. (st.listed k (ok.known k a b)).0;
  writes = λ k a b. rw (st.listed k (ok.known k a b)).1 (ok.writes k a b);
  late = λ j h. le_then (ok.late j h) (entry-grows E st en j r.high);
  under = λ k h. handed-grows E st k _ _ (le_same _) (ok.under k h);
}

base-grows : {C : Type 0} {B : Book} {s s' : View C} {i : ℕ} → Step s s' i → (b : Base) (r : Rec) → BaseRec B s b r → BaseRec B s' b r
base-grows st b r h = record {
  late = h.late;
  under = λ k l. let u = h.under k l in record {
    who = u.who;
    known = (st.listed k u.known).0;
    writes = rw (st.listed k u.known).1 u.writes;
    far = u.far;
  };
}

-- a base taken now, against a record that is there
base-taken : {C : Type 0} {B : Book} {s s' : View C} {i : ℕ} (E : EntryStamps) → Step s s' i → Entries s E → (b : Base) (r : Rec) → RecOk B s E r →
    ((j : ℕ) → b.stamps j ≡ (row s' j).stamp) → ((j : ℕ) → b.lens j ≡ lens s' j) → BaseRec B s' b r
base-taken E st en b r ok es el = record {
  late = λ j h. rw (es j) (le_then (ok.late j h) (le_then (en.under j r.high) (stamps-grow st j)));
  under = λ k l. let u = ok.under k l in record {
    who = u.who;
    known = (st.listed k u.known).0;
    writes = rw (st.listed k u.known).1 u.writes;
    far = λ j m. rw (el j) (le_trans (u.far j m) (lens-grow st j));
  };
}

module _ {C : Type 0} {B : Book} {first : C} {founder : ℕ} {w w' : World C} {i : ℕ} (v : Sound B first founder w)
    (mv : OpsMove B first founder w w' i) where
  bases-by : (x : ℕ) → (w'.base x).begun ≤ w.clock
  bases-by x = elim (mv.begun x) [ inl e ↦ rw e (v.times.bases x) | inr e ↦ rw e (omega arith) ]

  keep-times : Times w'
  keep-times = record {
    past = λ x. let a = begun-by v mv x in rw mv.clock (omega arith);
    bases = λ x. let a = bases-by x in rw mv.clock (omega arith);
  }

  -- values
  term-new : ValueMove first founder w w' i → ValueOf first founder w'.O (row w'.s i).card (row w'.s i).stamp
  term-new (v-same a b) = rw (a, b) (value_grows v mv _ _ (v.vals.terms i))
  term-new (v-news f b snt c d) = rw (c, d) (value_grows v mv _ _ (v.vals.msgs f i b snt))
  term-new (v-new a) = a

  letter-value : (t : ℕ) (b : News C) → b ≡ news_for (row w'.s i) (terminal t) → ValueOf first founder w'.O b.card b.stamp
  letter-value t b e = rw e (term-new mv.value)

  keep-vals : Vals first founder w'
  keep-vals = record {
    terms = each mv.move.step (λ j t. ValueOf first founder w'.O t.card t.stamp) (term-new mv.value) (λ j. value_grows v mv _ _ (v.vals.terms j));
    msgs = λ f t b h. elim (mv.move.step.pool f t b h) [
      | inl o ↦ value_grows v mv _ _ (v.vals.msgs f t b o)
      | inr n ↦ letter-value t b n.1
    ];
    kept = each mv.move.step (λ j t. is_kept t.operation ≡ true → ValueOf first founder w'.O (card-of first t.operation) (stamp-of t.operation))
        mv.kept (λ j h. value_grows v mv _ _ (v.vals.kept j h));
  }

  -- records
  ok-new : (x : ℕ) → RecMove B w w' x → (w'.recs x).confirmed ≡ true → RecOk B w'.s (entered_at w'.s w.E) (w'.recs x)
  ok-new x (c-same e) h = rw e (rec-grows w.E mv.move.step v.inv.entries _ (v.recs.ok x (rw e at h)))
  ok-new x (c-new a b c) h = rec-grows w.E mv.move.step v.inv.entries _ c

  -- an operation collected before the call
  old-collected : (x : ℕ) → Pull first founder w w' x → (w'.O x).collected ≡ true → (y : ℕ) → (w'.O x).end < (w'.base y).begun →
      ((w.O x).collected ≡ true) × ((w'.O x).end ≡ (w.O x).end)
  unfolding collected_op settled_op
  old-collected x (p-same e) h y l = (rw e at h, rw e refl)
  old-collected x (p-open a b c d f) h y l = absurd (false-true c h)
  old-collected x (p-settle st e a b c d f g) h y l = absurd (false-true b (rw e at h))
  old-collected x (p-collect c st e b d g z m) h y l = let q = bases-by y in let p : (w'.O x).end ≡ w.clock = rw e refl in absurd (omega arith)

  base-was : (y x : ℕ) → w'.base y ≡ w.base y → (w.O x).collected ≡ true → (w'.O x).end ≡ (w.O x).end → (w'.O x).end < (w'.base y).begun →
      BaseRec B w'.s (w'.base y) (w.recs x)
  base-was y x e c f l = rw e (base-grows mv.move.step _ _ (v.recs.bases y x c (rw (e, f) at l)))

  bases-new : BaseMove w.s w'.s i w.base w'.base → (y x : ℕ) → (w.O x).collected ≡ true → (w'.O x).end ≡ (w.O x).end →
      (w'.O x).end < (w'.base y).begun → BaseRec B w'.s (w'.base y) (w.recs x)
  bases-new (b-same e) y x c f l = base-was y x (e y) c f l
  bases-new (b-new e es el nf nb) y x c f l = elim (cases_eq y i) [
    | inr p ↦ base-was y x (e y p) c f l
    | inl p ↦ subst (λ y. BaseRec B w'.s (w'.base y) (w.recs x)) (sym p)
        (base-taken w.E mv.move.step v.inv.entries _ _ (v.recs.ok x (v.collected x c).confirmed) es el)
  ]

  keep-recs : Recs B w'
  keep-recs = record {
    ok = λ x h. rw mv.entry (ok-new x (mv.rec x) h);
    bases = λ y x h l. let q = old-collected x (mv.pull x) h y l in rw (rec-same v mv x h (mv.rec x)) (bases-new mv.base y x q.0 q.1 l);
  }

  now-all : (x : ℕ) → Now first w' x
  now-all x = elim (cases_eq x i) [ inl e ↦ subst (λ x. Now first w' x) (sym e) mv.here | inr e ↦ mv.there x e ]

  pub keep-sound : ((x y : ℕ) → (w.O x).settled ≡ false → (w'.O x).settled ≡ true → (w.O y).settled ≡ false → (w'.O y).settled ≡ true → x ≡ y) →
      Sound B first founder w'
  keep-sound one = record {
    inv = rw mv.entry (keep v.inv mv.move);
    queries = keep-queries w.base v.inv.numbers v.queries mv.move w'.base mv.base;
    names = keep-names v mv one;
    orders = keep-orders v mv;
    collected = keep-collected v mv;
    times = keep-times;
    vals = keep-vals;
    recs = keep-recs;
    now = now-all;
  }
