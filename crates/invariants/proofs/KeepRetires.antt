-- Every move keeps what holds of retirements.
use Rattle.std.proofs.Common.{◌≡◌, ℕ, suc, ◌<◌, ◌≤◌, true, false, sym, ap, ◌∙◌, subst, inl, inr, le_trans, arith}
use Rattle.std.proofs.lemmas.Bool.{cases_eq, false≢true}
use Rattle.parts.specs.declared.entries.Entry.TheVariants.{Retired}
use Rattle.parts.specs.declared.stamps.Stamp.{Stamp}
use Rattle.parts.specs.ChartLaws.{entry_in}
use Rattle.parts.specs.Charts.{length_list}
use Rattle.replica.specs.declared.messages.News.{News}
use Rattle.replica.specs.Replicas.{news_for}
use Rattle.invariants.proofs.Books.{Book}
use Rattle.invariants.proofs.Entries.{Entries, EntryStamps, entered_at, entries-keep}
use Rattle.invariants.proofs.Invariant.{HandedOver, Numbers, Past, Retires}
use Rattle.invariants.proofs.KeepGone.{handed-grows, past-grows}
use Rattle.invariants.proofs.Moves.{Hears, Move, RetMove, h-more, h-same, r-gone, r-more, r-new, r-same, r-turn}
use Rattle.invariants.proofs.Retirements.{asking-runs, is_asking, is_none, is_telling, r-heard, r-number, r-place, r-put-asking, r-put-heard, r-put-none, r-put-number, r-put-place, r-put-telling}
use Rattle.invariants.proofs.Sets.{holds, nobody-in, terminal, with_cases}
use Rattle.invariants.proofs.Stamps.{Le, le_same, le_then}
use Rattle.invariants.proofs.Steps.{each, lens-grow}
use Rattle.invariants.proofs.Views.{Each, Heard, Replies, Tells, View, chart, heard-from, hears, lens, ret, row}

-- a retirement in query after a call at its terminal: new, or the one before
data RView {C : Type 0} (s s' : View C) (E : EntryStamps) (i : ℕ) : Type 0 where
  fresh-one : (row s i).number.0 < r-number (ret s' i) → (Each (r-heard (ret s' i)) (λ j. ⊥)) → RView s s' E i
  old-one : is_asking (ret s i) ≡ true → r-place (ret s' i) ≡ r-place (ret s i) → r-number (ret s' i) ≡ r-number (ret s i) →
      (Each (r-heard (ret s' i)) (λ j. Past s E j (r-place (ret s i)) (row s' i).stamp)) → RView s s' E i

module _ {C : Type 0} {B : Book} {s s' : View C} {E : EntryStamps} {i : ℕ} (nu : Numbers s) (en : Entries s E) (old : Retires B s E)
    (mv : Move B s E s' i) where
  later : (j k : ℕ) (τ : Stamp) → Le τ (row s' i).stamp → Past s E j k τ → Past s E j k (row s' i).stamp
  later j k τ l p = record { far = p.far; early = le_then p.early l }

  view : RetMove B s E i (row s i) (row s' i) → is_asking (ret s' i) ≡ true → RView s s' E i
  view (r-same e) q = let q₀ = sym (ap is_asking e) ∙ q in old-one q₀ (ap r-place e) (ap r-number e)
      (λ j h. later j _ _ mv.step.grows.stamp (old.heard i q₀ j (sym (ap (λ r. holds (r-heard r) j) e) ∙ h)))
  view (r-gone e) q = absurd (false≢true (sym (ap is_asking e) ∙ q))
  view (r-new k e l f g) q = fresh-one (rw (ap r-number e) l) (λ j h. nobody-in j (sym (ap (λ r. holds (r-heard r) j) e) ∙ h))
  view (r-turn e l f) q = absurd (false≢true (sym (ap is_asking e) ∙ q))
  view (r-more j b e snt l g) q = let q₀ = sym (r-put-asking _ (ret s i)) ∙ sym (ap is_asking e) ∙ q in
      old-one q₀ (rw (e, r-put-place)) (rw (e, r-put-number))
      (λ x h. elim (with_cases (r-heard (ret s i)) j x (sym (ap (λ f. holds f x) (r-put-heard _ (ret s i) q₀)) ∙ sym (ap (λ r. holds (r-heard r) x) e) ∙ h)) [
        | inl p ↦ rw p (later j _ _ g (old.to i q₀ j b snt l))
        | inr p ↦ later x _ _ mv.step.grows.stamp (old.heard i q₀ x p)
      ])

  viewed : is_asking (ret s' i) ≡ true → RView s s' E i
  viewed = view mv.ret

  -- of a running retirement, after the call
  own_new : RetMove B s E i (row s i) (row s' i) → is_none (ret s' i) ≡ false → suc (suc (r-place (ret s' i))) ≤ lens s' i
  own_new (r-same e) q = rw e (le_trans (old.own i (sym (ap is_none e) ∙ q)) (lens-grow mv.step i))
  own_new (r-gone e) q = absurd (false≢true (sym q ∙ ap is_none e))
  own_new (r-new k e l f g) q = rw e f
  own_new (r-turn e l f) q = rw e (le_trans (old.own i l) (lens-grow mv.step i))
  own_new (r-more j b e snt l g) q = rw (e, r-put-place _ (ret s i))
      (le_trans (old.own i (sym (r-put-none _ (ret s i)) ∙ sym (ap is_none e) ∙ q)) (lens-grow mv.step i))

  front-new : RetMove B s E i (row s i) (row s' i) → is_none (ret s' i) ≡ false → (k : ℕ) → suc k ≡ r-place (ret s' i) →
      entry_in (chart s' i) k ≡ Retired
  front-new (r-same e) q k h = mv.step.grows.places.gone k (old.front i (sym (ap is_none e) ∙ q) k (h ∙ ap r-place e))
  front-new (r-gone e) q k h = absurd (false≢true (sym q ∙ ap is_none e))
  front-new (r-new k₀ e l f g) q k h = g k (h ∙ ap r-place e)
  front-new (r-turn e l f) q k h = mv.step.grows.places.gone k (old.front i l k (h ∙ ap r-place e))
  front-new (r-more j b e snt l g) q k h = mv.step.grows.places.gone k
      (old.front i (sym (r-put-none _ (ret s i)) ∙ sym (ap is_none e) ∙ q) k (h ∙ rw (e, r-put-place)))

  turned-new : RetMove B s E i (row s i) (row s' i) → is_telling (ret s' i) ≡ true →
      HandedOver B s' (entered_at s' E) (r-place (ret s' i)) (row s' i).stamp
  turned-new (r-same e) q = rw e (handed-grows E mv.step _ _ _ mv.step.grows.stamp (old.turned i (sym (ap is_telling e) ∙ q)))
  turned-new (r-gone e) q = absurd (false≢true (sym (ap is_telling e) ∙ q))
  turned-new (r-new k e l f g) q = absurd (false≢true (sym (ap is_telling e) ∙ q))
  turned-new (r-turn e l f) q = rw e (handed-grows E mv.step _ _ _ (le_same _) f)
  turned-new (r-more j b e snt l g) q = rw (e, r-put-place _ (ret s i))
      (handed-grows E mv.step _ _ _ mv.step.grows.stamp (old.turned i (sym (r-put-telling _ (ret s i)) ∙ sym (ap is_telling e) ∙ q)))

  own : (x : ℕ) → is_none (ret s' x) ≡ false → suc (suc (r-place (ret s' x))) ≤ lens s' x
  own = each mv.step
      (λ x t. is_none t.retirement ≡ false → suc (suc (r-place t.retirement)) ≤ length_list t.chart.places) (own_new mv.ret) old.own

  heard-new : RView s s' E i → Each (r-heard (ret s' i)) (λ j. Past s' (entered_at s' E) j (r-place (ret s' i)) (row s' i).stamp)
  heard-new (fresh-one l n) j h = absurd (n j h)
  heard-new (old-one q p n past) j h = rw p (past-grows E mv.step j _ _ _ (le_same _) (past j h))

  -- with the numbers and the pool as they were
  number-new : RView s s' E i → Heard s i (r-number (ret s' i)) (λ j. suc (suc (r-place (ret s' i))) ≤ lens s' j)
  number-new (fresh-one l n) j h = let a = nu.heard j i in absurd (omega arith)
  number-new (old-one q p n past) j h = rw p (le_trans (old.number i q j (rw n at h)) (lens-grow mv.step j))

  number-was : (x : ℕ) → is_asking (ret s' x) ≡ true → Heard s x (r-number (ret s' x)) (λ j. suc (suc (r-place (ret s' x))) ≤ lens s' j)
  number-was = each mv.step
      (λ x t. is_asking t.retirement ≡ true → Heard s x (r-number t.retirement) (λ j. suc (suc (r-place t.retirement)) ≤ lens s' j))
      (λ q. number-new (viewed q)) (λ x q j h. le_trans (old.number x q j h) (lens-grow mv.step j))

  from-new : RView s s' E i → Tells s i (r-number (ret s' i)) (λ b. suc (suc (r-place (ret s' i))) ≤ length_list b.chart.places)
  from-new (fresh-one l n) t b snt h = let a = nu.pns i t b snt in absurd (omega arith)
  from-new (old-one q p n past) t b snt h = rw p (old.from i q t b snt (rw n at h))

  from-was : (x : ℕ) → is_asking (ret s' x) ≡ true →
      Tells s x (r-number (ret s' x)) (λ b. suc (suc (r-place (ret s' x))) ≤ length_list b.chart.places)
  from-was = each mv.step
      (λ x r. is_asking r.retirement ≡ true → Tells s x (r-number r.retirement) (λ b. suc (suc (r-place r.retirement)) ≤ length_list b.chart.places))
      (λ q. from-new (viewed q)) old.from

  to-new : RView s s' E i → Replies s i (r-number (ret s' i)) (λ f b. Past s' (entered_at s' E) f (r-place (ret s' i)) b.stamp)
  to-new (fresh-one l n) f b snt h = let a = nu.pnr f i b snt in absurd (omega arith)
  to-new (old-one q p n past) f b snt h = rw p (past-grows E mv.step f _ _ _ (le_same _) (old.to i q f b snt (rw n at h)))

  to-was : (x : ℕ) → is_asking (ret s' x) ≡ true →
      Replies s x (r-number (ret s' x)) (λ f b. Past s' (entered_at s' E) f (r-place (ret s' x)) b.stamp)
  to-was = each mv.step
      (λ x r. is_asking r.retirement ≡ true → Replies s x (r-number r.retirement) (λ f b. Past s' (entered_at s' E) f (r-place r.retirement) b.stamp))
      (λ q. to-new (viewed q)) (λ x q f b snt h. past-grows E mv.step f _ _ _ (le_same _) (old.to x q f b snt h))

  -- what i has heard after the call
  number-here : (x : ℕ) → is_asking (ret s' x) ≡ true → Hears s i x (row s i) (row s' i) → r-number (ret s' x) ≤ hears s' i x →
      suc (suc (r-place (ret s' x))) ≤ lens s' i
  number-here x q (h-same e) h = number-was x q i (rw e at h)
  number-here x q (h-more b snt e g l) h = le_trans (from-was x q i b snt (rw e at h)) l

  number : (x : ℕ) → is_asking (ret s' x) ≡ true → Heard s' x (r-number (ret s' x)) (λ j. suc (suc (r-place (ret s' x))) ≤ lens s' j)
  number x q j h = elim (cases_eq j i) [
    | inl e ↦ subst (λ j. suc (suc (r-place (ret s' x))) ≤ lens s' j) (sym e) (number-here x q (mv.hears x) (subst (λ j. r-number (ret s' x) ≤ hears s' j x) e h))
    | inr n ↦ number-was x q j (subst (λ t. r-number (ret s' x) ≤ heard-from t.latest x) (mv.step.others j n) h)
  ]

  letter-to : (x f : ℕ) (b : News C) → is_asking (ret s' x) ≡ true → f ≡ i → b ≡ news_for (row s' i) (terminal x) → r-number (ret s' x) ≤ b.pnr.0 →
      Past s' (entered_at s' E) f (r-place (ret s' x)) b.stamp
  letter-to x f b q e l h = rw (e, l) (record { far = number x q i (rw l at h); early = (entries-keep E mv.step en).under i (suc (r-place (ret s' x))) })

  letter-from : (x t : ℕ) (b : News C) → is_asking (ret s' x) ≡ true → x ≡ i → b ≡ news_for (row s' i) (terminal t) →
      suc (suc (r-place (ret s' x))) ≤ length_list b.chart.places
  letter-from x t b q e l = rw (l, ← e) (own x (asking-runs _ q))

  pub keep-retires : Retires B s' (entered_at s' E)
  keep-retires = record {
    own = own;
    front = each mv.step
        (λ x t. is_none t.retirement ≡ false → (k : ℕ) → suc k ≡ r-place t.retirement → entry_in t.chart.places k ≡ Retired)
        (front-new mv.ret) old.front;
    heard = each mv.step
        (λ x t. is_asking t.retirement ≡ true → Each (r-heard t.retirement) (λ j. Past s' (entered_at s' E) j (r-place t.retirement) t.stamp))
        (λ q. heard-new (viewed q)) (λ x q j h. past-grows E mv.step j _ _ _ (le_same _) (old.heard x q j h));
    number = number;
    from = λ x q t b h. elim (mv.step.pool x t b h) [
      | inl o ↦ from-was x q t b o
      | inr n ↦ (λ _. letter-from x t b q n.0 n.1)
    ];
    to = λ x q f b h. elim (mv.step.pool f x b h) [
      | inl o ↦ to-was x q f b o
      | inr n ↦ letter-to x f b q n.0 n.1
    ];
    turned = each mv.step
        (λ x t. is_telling t.retirement ≡ true → HandedOver B s' (entered_at s' E) (r-place t.retirement) t.stamp) (turned-new mv.ret)
        (λ x q. handed-grows E mv.step _ _ _ (le_same _) (old.turned x q));
  }
