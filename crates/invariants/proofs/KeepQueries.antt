-- Operations in query: who was heard has told at least what it held when the operation was begun.
use Rattle.std.proofs.Common.{◌≡◌, ℕ, ◌<◌, ◌≤◌, max, true, List, sym, ap, ◌∙◌, subst, inl, inr, le_trans, arith}
use Rattle.std.proofs.lemmas.Bool.{cases_eq, false≢true}
use Rattle.parts.specs.declared.entries.Entry.{Entry}
use Rattle.parts.specs.declared.stamps.Stamp.{Stamp}
use Rattle.parts.specs.Charts.{cut_list, length_list}
use Rattle.parts.specs.Sets.{nobody, with_one}
use Rattle.replica.specs.declared.messages.News.{News}
use Rattle.replica.specs.Replicas.{news_for}
use Rattle.invariants.proofs.Bases.{Base}
use Rattle.invariants.proofs.Books.{Book}
use Rattle.invariants.proofs.Entries.{EntryStamps}
use Rattle.invariants.proofs.Invariant.{Numbers}
use Rattle.invariants.proofs.Moves.{Move, OpMove, o-again, o-idle, o-more, o-prop, o-query, o-same}
use Rattle.invariants.proofs.Operations.{heard-of, is_query, number_of, places_of, put-heard, put-number, put-places, put-query, query-runs}
use Rattle.invariants.proofs.Sets.{holds, nobody-in, terminal, with_cases}
use Rattle.invariants.proofs.Stamps.{Le, le-eq, le_then}
use Rattle.invariants.proofs.Steps.{each, lens-grow, stamps-grow}
use Rattle.invariants.proofs.Views.{Each, Replies, Sent, View, chart, lens, op, row}

-- a stamp and a length that are at least those of terminal j when the base was taken
pub record Since (bs : Base) (j : ℕ) (τ : Stamp) (l : ℕ) : Type 0 where
  pub stamp : Le (bs.stamps j) τ
  pub long : bs.lens j ≤ l

-- operations in query: bases lie in the past; who was heard, and who answers, has told at least what it held then
pub record Queries {C : Type 0} (s : View C) (bs : ℕ → Base) : Type 0 where
  pub past : (i j : ℕ) → Since (bs i) j (row s j).stamp (lens s j)
  pub heard : (i : ℕ) → is_query (op s i) ≡ true → Each (heard-of (op s i)) (λ j. Since (bs i) j (row s i).stamp (length_list (places_of (op s i))))
  pub to : (i : ℕ) → is_query (op s i) ≡ true → Replies s i (number_of (op s i)) (λ f b. Since (bs i) f b.stamp (length_list b.chart.places))

-- what becomes of the bases in a call at i: the same, or i takes one anew with a query
pub data BaseMove {C : Type 0} (s s' : View C) (i : ℕ) (bs bs' : ℕ → Base) : Type 0 where
  b-same : ((x : ℕ) → bs' x ≡ bs x) → BaseMove s s' i bs bs'
  b-new : ((x : ℕ) → (x ≡ i → ⊥) → bs' x ≡ bs x) → ((j : ℕ) → (bs' i).stamps j ≡ (row s' j).stamp) → ((j : ℕ) → (bs' i).lens j ≡ lens s' j) →
      (row s i).number.0 < number_of (op s' i) → heard-of (op s' i) ≡ nobody → BaseMove s s' i bs bs'

-- an operation in query after a call at its terminal: new, or the one before
data QView {C : Type 0} (s s' : View C) (i : ℕ) (bs : ℕ → Base) : Type 0 where
  fresh-one : (row s i).number.0 < number_of (op s' i) → (Each (heard-of (op s' i)) (λ j. ⊥)) → QView s s' i bs
  old-one : is_query (op s i) ≡ true → number_of (op s' i) ≡ number_of (op s i) →
      (Each (heard-of (op s' i)) (λ j. Since (bs i) j (row s' i).stamp (length_list (places_of (op s' i))))) → QView s s' i bs

since-more : {bs : Base} {j l l' : ℕ} {τ τ' : Stamp} → Since bs j τ l → Le τ τ' → l ≤ l' → Since bs j τ' l'
since-more h g l = record { stamp = le_then h.stamp g; long = le_trans h.long l }

module _ {C : Type 0} {B : Book} {s s' : View C} {E : EntryStamps} {i : ℕ} (bs : ℕ → Base) (nu : Numbers s) (old : Queries s bs)
    (mv : Move B s E s' i) where
  more : (j : ℕ) (b : News C) (a : List Entry) → is_query (op s i) ≡ true → Sent s j i b → number_of (op s i) ≤ b.pnr.0 →
      Le b.stamp (row s' i).stamp → length_list a ≡ max (length_list (places_of (op s i))) (length_list b.chart.places) → (x : ℕ) →
      holds (with_one (heard-of (op s i)) (terminal j)) x ≡ true → Since (bs i) x (row s' i).stamp (length_list a)
  more j b a q snt l g le x h = elim (with_cases (heard-of (op s i)) j x h) [
    | inl p ↦ rw p (since-more (old.to i q j b snt l) g (omega arith))
    | inr p ↦ since-more (old.heard i q x p) mv.step.grows.stamp (omega arith)
  ]

  view : OpMove s i (row s i) (row s' i) → is_query (op s' i) ≡ true → QView s s' i bs
  view (o-same e) q = let q₀ = sym (ap is_query e) ∙ q in
      old-one q₀ (ap number_of e) (λ j h. rw e (since-more (old.heard i q₀ j (rw e at h)) mv.step.grows.stamp (omega arith)))
  view (o-idle e z) q = absurd (false≢true (sym e ∙ query-runs _ q))
  view (o-query k e l) q = fresh-one (rw e l) (λ j h. nobody-in j (rw e at h))
  view (o-prop c τ e l g) q = absurd (false≢true (sym (ap is_query e) ∙ q))
  view (o-again e) q = let q₀ = sym (put-query _ _ (op s i)) ∙ sym (ap is_query e) ∙ q in
      let hd : heard-of (op s' i) ≡ nobody = ap heard-of e ∙ put-heard (cut_list (chart s' i)) nobody (op s i) (query-runs _ q₀) in
      old-one q₀ (rw (e, put-number)) (λ j h. absurd (nobody-in j (rw hd at h)))
  view (o-more j b a e snt l ru g le ok w gn₀) q = let q₀ = sym (put-query _ _ (op s i)) ∙ sym (ap is_query e) ∙ q in
      let hd : heard-of (op s' i) ≡ with_one (heard-of (op s i)) (terminal j) = ap heard-of e ∙ put-heard a (with_one (heard-of (op s i)) (terminal j)) (op s i) ru in
      let ch : places_of (op s' i) ≡ a = ap places_of e ∙ put-places a (with_one (heard-of (op s i)) (terminal j)) (op s i) ru in
      old-one q₀ (rw (e, put-number)) (λ x h. rw ch (more j b a q₀ snt l g le x (rw hd at h)))

  -- with the old bases
  heard-new : QView s s' i bs → Each (heard-of (op s' i)) (λ j. Since (bs i) j (row s' i).stamp (length_list (places_of (op s' i))))
  heard-new (fresh-one l n) j h = absurd (n j h)
  heard-new (old-one q n hd) j h = hd j h

  to-new : QView s s' i bs → Replies s i (number_of (op s' i)) (λ f b. Since (bs i) f b.stamp (length_list b.chart.places))
  to-new (fresh-one l n) f b snt h = let a = nu.pnr f i b snt in absurd (omega arith)
  to-new (old-one q n hd) f b snt h = old.to i q f b snt (rw n at h)

  past-was : (x j : ℕ) → Since (bs x) j (row s' j).stamp (lens s' j)
  past-was x j = since-more (old.past x j) (stamps-grow mv.step j) (lens-grow mv.step j)

  heard-was : (x : ℕ) → is_query (op s' x) ≡ true →
      Each (heard-of (op s' x)) (λ j. Since (bs x) j (row s' x).stamp (length_list (places_of (op s' x))))
  heard-was = each mv.step
      (λ x t. is_query t.operation ≡ true → Each (heard-of t.operation) (λ j. Since (bs x) j t.stamp (length_list (places_of t.operation))))
      (λ q. heard-new (view mv.op q)) old.heard

  to-was : (x : ℕ) → is_query (op s' x) ≡ true → Replies s x (number_of (op s' x)) (λ f b. Since (bs x) f b.stamp (length_list b.chart.places))
  to-was = each mv.step
      (λ x t. is_query t.operation ≡ true → Replies s x (number_of t.operation) (λ f b. Since (bs x) f b.stamp (length_list b.chart.places)))
      (λ q. to-new (view mv.op q)) old.to

  letter-since : (x : ℕ) (f : ℕ) (b : News C) (z : Base) → Since z i (row s' i).stamp (lens s' i) → f ≡ i → b ≡ news_for (row s' i) (terminal x) →
      Since z f b.stamp (length_list b.chart.places)
  letter-since x f b z h e l = rw (e, l) h

  same-queries : Queries s' bs
  same-queries = record {
    past = past-was;
    heard = heard-was;
    to = λ x q f b h. elim (mv.step.pool f x b h) [
      | inl o ↦ to-was x q f b o
      | inr n ↦ (λ _. letter-since x f b (bs x) (past-was x i) n.0 n.1)
    ];
  }

  pub keep-queries : (bs' : ℕ → Base) → BaseMove s s' i bs bs' → Queries s' bs'
  keep-queries bs' (b-same e) = let k = same-queries in record {
    past = λ x j. rw (e x) (k.past x j);
    heard = λ x q j h. rw (e x) (k.heard x q j h);
    to = λ x q f b snt h. rw (e x) (k.to x q f b snt h);
  }
  keep-queries bs' (b-new e st ln nf nb) = let k = same-queries in
      let new : (j : ℕ) → Since (bs' i) j (row s' j).stamp (lens s' j) = λ j. record { stamp = le-eq (st j); long = rw (ln j) (omega arith) } in
      record {
        past = λ x j. elim (cases_eq x i) [ inl p ↦ rw p (new j) | inr p ↦ rw (e x p) (k.past x j) ];
        heard = λ x q j h. elim (cases_eq x i) [
          | inl p ↦ absurd (nobody-in j (sym (ap (λ f. holds f j) nb) ∙ subst (λ x. holds (heard-of (op s' x)) j ≡ true) p h))
          | inr p ↦ rw (e x p) (k.heard x q j h)
        ];
        to = λ x q f b snt h. elim (cases_eq x i) [
          | inl p ↦ elim (mv.step.pool f x b snt) [
            | inl o ↦ (let a = nu.pnr f x b o in let h' : number_of (op s' i) ≤ b.pnr.0 = subst (λ x. number_of (op s' x) ≤ b.pnr.0) p h in
                let a' : b.pnr.0 ≤ (row s i).number.0 = subst (λ x. b.pnr.0 ≤ (row s x).number.0) p a in absurd (omega arith))
            | inr n ↦ rw p (letter-since x f b (bs' i) (new i) n.0 n.1)
          ]
          | inr p ↦ rw (e x p) (k.to x q f b snt h)
        ];
      }
