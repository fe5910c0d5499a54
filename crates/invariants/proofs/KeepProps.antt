-- Every move keeps what holds of operations in prop.
use Rattle.std.proofs.Common.{◌≡◌, ℕ, ◌<◌, ◌≤◌, max, true, List, sym, ap, ◌∙◌, subst, inl, inr, arith}
use Rattle.std.proofs.lemmas.Bool.{cases_eq, false≢true}
use Rattle.parts.specs.declared.entries.Entry.{Entry}
use Rattle.parts.specs.Charts.{cut_list, length_list}
use Rattle.parts.specs.Sets.{nobody, with_one}
use Rattle.replica.specs.declared.messages.News.{News}
use Rattle.replica.specs.Replicas.{news_for}
use Rattle.invariants.proofs.Books.{Book}
use Rattle.invariants.proofs.Entries.{Entries, EntryStamps, entered_at, entry-grows}
use Rattle.invariants.proofs.Invariant.{Gone, Numbers, Props}
use Rattle.invariants.proofs.Moves.{Hears, Move, OpMove, h-more, h-same, o-again, o-idle, o-more, o-prop, o-query, o-same}
use Rattle.invariants.proofs.Operations.{heard-of, is_prop, number_of, places_of, prop-runs, put-heard, put-number, put-places, put-prop, put-stamp, stamp-of}
use Rattle.invariants.proofs.Sets.{holds, nobody-in, terminal, with_cases}
use Rattle.invariants.proofs.Stamps.{Le, le_then}
use Rattle.invariants.proofs.Steps.{each, stamps-grow}
use Rattle.invariants.proofs.Views.{Each, Heard, Replies, Sent, Tells, View, chart, heard-from, hears, op, row}

-- an operation in prop after a call at its terminal: new, or the one before
data PView {C : Type 0} (s s' : View C) (E : EntryStamps) (i : ℕ) : Type 0 where
  fresh-one : (row s i).number.0 < number_of (op s' i) → (Each (heard-of (op s' i)) (λ j. ⊥)) → Le (stamp-of (op s' i)) (row s' i).stamp →
      PView s s' E i
  old-one : is_prop (op s i) ≡ true → number_of (op s' i) ≡ number_of (op s i) → stamp-of (op s' i) ≡ stamp-of (op s i) →
      (Each (heard-of (op s' i)) (λ j. Le (stamp-of (op s i)) (E j (length_list (places_of (op s' i)))))) → PView s s' E i

module _ {C : Type 0} {B : Book} {s s' : View C} {E : EntryStamps} {i : ℕ} (nu : Numbers s) (en : Entries s E) (gn : Gone B s E) (old : Props s E)
    (mv : Move B s E s' i) where
  more : (j : ℕ) (b : News C) (a : List Entry) → is_prop (op s i) ≡ true → Sent s j i b → number_of (op s i) ≤ b.pnr.0 →
      length_list a ≡ max (length_list (places_of (op s i))) (length_list b.chart.places) → (x : ℕ) →
      holds (with_one (heard-of (op s i)) (terminal j)) x ≡ true → Le (stamp-of (op s i)) (E x (length_list a))
  more j b a q snt l le x h = elim (with_cases (heard-of (op s i)) j x h) [
    | inl p ↦ rw p (le_then (old.to i q j b snt l) (le_then (gn.sent j i b snt) (en.rising j (length_list b.chart.places) (length_list a) (omega arith))))
    | inr p ↦ le_then (old.heard i q x p) (en.rising x (length_list (places_of (op s i))) (length_list a) (omega arith))
  ]

  view : OpMove s i (row s i) (row s' i) → is_prop (op s' i) ≡ true → PView s s' E i
  view (o-same e) q = let q₀ = sym (ap is_prop e) ∙ q in
      old-one q₀ (ap number_of e) (ap stamp-of e) (λ j h. rw e (old.heard i q₀ j (rw e at h)))
  view (o-idle e z) q = absurd (false≢true (sym e ∙ prop-runs _ q))
  view (o-query k e l) q = absurd (false≢true (sym (ap is_prop e) ∙ q))
  view (o-prop c τ e l g) q = fresh-one (rw e l) (λ j h. nobody-in j (rw e at h)) (rw e g)
  view (o-again e) q = let q₀ = sym (put-prop _ _ (op s i)) ∙ sym (ap is_prop e) ∙ q in
      let hd : heard-of (op s' i) ≡ nobody = ap heard-of e ∙ put-heard (cut_list (chart s' i)) nobody (op s i) (prop-runs _ q₀) in
      old-one q₀ (rw (e, put-number)) (rw (e, put-stamp)) (λ j h. absurd (nobody-in j (rw hd at h)))
  view (o-more j b a e snt l ru g le ok w gn₀) q = let q₀ = sym (put-prop _ _ (op s i)) ∙ sym (ap is_prop e) ∙ q in
      let hd : heard-of (op s' i) ≡ with_one (heard-of (op s i)) (terminal j) = ap heard-of e ∙ put-heard a (with_one (heard-of (op s i)) (terminal j)) (op s i) ru in
      let ch : places_of (op s' i) ≡ a = ap places_of e ∙ put-places a (with_one (heard-of (op s i)) (terminal j)) (op s i) ru in
      old-one q₀ (rw (e, put-number)) (rw (e, put-stamp)) (λ x h. rw ch (more j b a q₀ snt l le x (rw hd at h)))

  viewed : is_prop (op s' i) ≡ true → PView s s' E i
  viewed = view mv.op

  own_new : PView s s' E i → Le (stamp-of (op s' i)) (row s' i).stamp
  own_new (fresh-one l n g) = g
  own_new (old-one q n t hd) = rw t (le_then (old.own i q) mv.step.grows.stamp)

  own : (x : ℕ) → is_prop (op s' x) ≡ true → Le (stamp-of (op s' x)) (row s' x).stamp
  own = each mv.step (λ x t. is_prop t.operation ≡ true → Le (stamp-of t.operation) t.stamp) (λ q. own_new (viewed q)) old.own

  heard-new : PView s s' E i → Each (heard-of (op s' i)) (λ j. Le (stamp-of (op s' i)) (entered_at s' E j (length_list (places_of (op s' i)))))
  heard-new (fresh-one l n g) j h = absurd (n j h)
  heard-new (old-one q n t hd) j h = rw t (le_then (hd j h) (entry-grows E mv.step en j _))

  number-new : PView s s' E i → Heard s i (number_of (op s' i)) (λ j. Le (stamp-of (op s' i)) (row s' j).stamp)
  number-new (fresh-one l n g) j h = let a = nu.heard j i in absurd (omega arith)
  number-new (old-one q n t hd) j h = rw t (le_then (old.number i q j (rw n at h)) (stamps-grow mv.step j))

  number-was : (x : ℕ) → is_prop (op s' x) ≡ true → Heard s x (number_of (op s' x)) (λ j. Le (stamp-of (op s' x)) (row s' j).stamp)
  number-was = each mv.step
      (λ x t. is_prop t.operation ≡ true → Heard s x (number_of t.operation) (λ j. Le (stamp-of t.operation) (row s' j).stamp))
      (λ q. number-new (viewed q)) (λ x q j h. le_then (old.number x q j h) (stamps-grow mv.step j))

  from-new : PView s s' E i → Tells s i (number_of (op s' i)) (λ b. Le (stamp-of (op s' i)) b.stamp)
  from-new (fresh-one l n g) t b snt h = let a = nu.pns i t b snt in absurd (omega arith)
  from-new (old-one q n t₀ hd) t b snt h = rw t₀ (old.from i q t b snt (rw n at h))

  from-was : (x : ℕ) → is_prop (op s' x) ≡ true → Tells s x (number_of (op s' x)) (λ b. Le (stamp-of (op s' x)) b.stamp)
  from-was = each mv.step
      (λ x r. is_prop r.operation ≡ true → Tells s x (number_of r.operation) (λ b. Le (stamp-of r.operation) b.stamp))
      (λ q. from-new (viewed q)) old.from

  to-new : PView s s' E i → Replies s i (number_of (op s' i)) (λ f b. Le (stamp-of (op s' i)) b.stamp)
  to-new (fresh-one l n g) f b snt h = let a = nu.pnr f i b snt in absurd (omega arith)
  to-new (old-one q n t hd) f b snt h = rw t (old.to i q f b snt (rw n at h))

  to-was : (x : ℕ) → is_prop (op s' x) ≡ true → Replies s x (number_of (op s' x)) (λ f b. Le (stamp-of (op s' x)) b.stamp)
  to-was = each mv.step
      (λ x r. is_prop r.operation ≡ true → Replies s x (number_of r.operation) (λ f b. Le (stamp-of r.operation) b.stamp))
      (λ q. to-new (viewed q)) old.to

  number-here : (x : ℕ) → is_prop (op s' x) ≡ true → Hears s i x (row s i) (row s' i) → number_of (op s' x) ≤ hears s' i x →
      Le (stamp-of (op s' x)) (row s' i).stamp
  number-here x q (h-same e) h = number-was x q i (rw e at h)
  number-here x q (h-more b snt e g l) h = le_then (from-was x q i b snt (rw e at h)) g

  number : (x : ℕ) → is_prop (op s' x) ≡ true → Heard s' x (number_of (op s' x)) (λ j. Le (stamp-of (op s' x)) (row s' j).stamp)
  number x q j h = elim (cases_eq j i) [
    | inl e ↦ subst (λ j. Le (stamp-of (op s' x)) (row s' j).stamp) (sym e) (number-here x q (mv.hears x) (subst (λ j. number_of (op s' x) ≤ hears s' j x) e h))
    | inr n ↦ number-was x q j (subst (λ t. number_of (op s' x) ≤ heard-from t.latest x) (mv.step.others j n) h)
  ]

  letter-to : (x f : ℕ) (b : News C) → is_prop (op s' x) ≡ true → f ≡ i → b ≡ news_for (row s' i) (terminal x) → number_of (op s' x) ≤ b.pnr.0 →
      Le (stamp-of (op s' x)) b.stamp
  letter-to x f b q e l h = rw l (number x q i (rw l at h))

  letter-from : (x t : ℕ) (b : News C) → is_prop (op s' x) ≡ true → x ≡ i → b ≡ news_for (row s' i) (terminal t) → Le (stamp-of (op s' x)) b.stamp
  letter-from x t b q e l = rw (l, ← e) (own x q)

  pub keep-props : Props s' (entered_at s' E)
  keep-props = record {
    own = own;
    heard = each mv.step
        (λ x t. is_prop t.operation ≡ true → Each (heard-of t.operation) (λ j. Le (stamp-of t.operation) (entered_at s' E j (length_list (places_of t.operation)))))
        (λ q. heard-new (viewed q)) (λ x q j h. le_then (old.heard x q j h) (entry-grows E mv.step en j _));
    number = number;
    from = λ x q t b h. elim (mv.step.pool x t b h) [
      | inl o ↦ from-was x q t b o
      | inr n ↦ (λ _. letter-from x t b q n.0 n.1)
    ];
    to = λ x q f b h. elim (mv.step.pool f x b h) [
      | inl o ↦ to-was x q f b o
      | inr n ↦ letter-to x f b q n.0 n.1
    ];
  }
