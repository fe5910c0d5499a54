-- Every call keeps what holds of named writes and of collected operations.
use Rattle.std.proofs.Common.{◌≡◌, ℕ, ◌+◌, ◌<◌, ◌≤◌, Bool, true, false, ◌⊎◌, sym, refl, ap, ◌∙◌, subst, inl, inr, arith}
use Rattle.std.proofs.lemmas.Bool.{false≢true}
use Rattle.parts.specs.declared.stamps.Stamp.{Stamp}
use Rattle.replica.specs.Replicas.{stamp_of}
use Rattle.invariants.proofs.Books.{Book}
use Rattle.invariants.proofs.Ops.{ValueOf, collected_op, from_first, from-write, is_writing, settled_op}
use Rattle.invariants.proofs.Sets.{terminal}
use Rattle.invariants.proofs.Stamps.{Le, Lt, le_next, le_then, lt-not-eq}
use Rattle.invariants.proofs.Steps.{stamps-grow}
use Rattle.invariants.proofs.Views.{row}
use Rattle.invariants.proofs.World.{Collected, Names, OpsMove, Orders, Pull, RecMove, Sound, World, c-new, c-same, p-collect, p-open, p-same, p-settle}

-- what is false is not true
pub false-true : {b : Bool} → b ≡ false → b ≡ true → ⊥
false-true e f = false≢true (sym e ∙ f)

module _ {C : Type 0} {first : C} {founder : ℕ} {w w' : World C} (pl : (x : ℕ) → Pull first founder w w' x) where
  -- a settled operation stays as it is
  stays-settled : (x : ℕ) → Pull first founder w w' x → (w.O x).settled ≡ true → (w'.O x).settled ≡ true
  unfolding collected_op settled_op
  stays-settled x (p-same e) h = rw e h
  stays-settled x (p-open a b c d f) h = absurd (false-true a h)
  stays-settled x (p-settle st e a b c d f g) h = absurd (false-true a h)
  stays-settled x (p-collect c st e b d g l m) h = rw e h

  stays-kind : (x : ℕ) → Pull first founder w w' x → (w.O x).settled ≡ true → (w'.O x).kind ≡ (w.O x).kind
  unfolding collected_op settled_op
  stays-kind x (p-same e) h = rw e refl
  stays-kind x (p-open a b c d f) h = absurd (false-true a h)
  stays-kind x (p-settle st e a b c d f g) h = absurd (false-true a h)
  stays-kind x (p-collect c st e b d g l m) h = rw e refl

  stays-stamp : (x : ℕ) → Pull first founder w w' x → (w.O x).settled ≡ true → (w'.O x).stamp ≡ (w.O x).stamp
  unfolding collected_op settled_op
  stays-stamp x (p-same e) h = rw e refl
  stays-stamp x (p-open a b c d f) h = absurd (false-true a h)
  stays-stamp x (p-settle st e a b c d f g) h = absurd (false-true a h)
  stays-stamp x (p-collect c st e b d g l m) h = rw e refl

  pub value-rises : (c : C) (st : Stamp) → ValueOf first founder w.O c st → ValueOf first founder w'.O c st
  value-rises c st (from_first a b) = from_first a b
  value-rises c st (from-write x a b d) = from-write x (stays-settled x (pl x) a) (stays-kind x (pl x) a ∙ b) (stays-stamp x (pl x) a ∙ d)

module _ {C : Type 0} {B : Book} {first : C} {founder : ℕ} {w w' : World C} {i : ℕ} (v : Sound B first founder w)
    (mv : OpsMove B first founder w w' i) where
  pub value_grows : (c : C) (st : Stamp) → ValueOf first founder w.O c st → ValueOf first founder w'.O c st
  value_grows = value-rises mv.pull

  -- a named write after the call: as before, or just named
  data Was (x : ℕ) : Type 0 where
    was : (w.O x).settled ≡ true → (w'.O x).kind ≡ (w.O x).kind → (w'.O x).stamp ≡ (w.O x).stamp → (w'.O x).terminal ≡ (w.O x).terminal →
        (w'.O x).begun ≡ (w.O x).begun → Was x
    is-new : (w.O x).settled ≡ false → (w'.O x).kind ≡ (w.O x).kind → (w'.O x).terminal ≡ (w.O x).terminal → (w'.O x).begun ≡ (w.O x).begun →
        (is_writing (w.O x).kind ≡ true → (w'.O x).stamp ≡ stamp_of ((row w.s (w.O x).terminal).stamp.count + 1) (terminal (w.O x).terminal)) →
        Le (w'.O x).stamp (row w'.s (w.O x).terminal).stamp → Le (row w.s (w.O x).terminal).stamp (w'.O x).stamp →
        ((z : ℕ) → (w.O z).collected ≡ true → (w.O z).end < (w.O x).begun → Le (w.O z).stamp (row w.s (w.O x).terminal).stamp) → Was x

  settled-was : (x : ℕ) → Pull first founder w w' x → (w'.O x).settled ≡ true → Was x
  unfolding collected_op settled_op
  settled-was x (p-same e) h = was (rw e at h) (rw e refl) (rw e refl) (rw e refl) (rw e refl)
  settled-was x (p-open a b c d f) h = absurd (false-true b h)
  settled-was x (p-settle st e a b c d f g) h = is-new a (rw e refl) (rw e refl) (rw e refl) (λ k. rw e (c k)) (rw e d) (rw e f) g
  settled-was x (p-collect c st e b d g l m) h = was (rw e at h) (rw e refl) (rw e refl) (rw e refl) (rw e refl)

  mark-new : (x : ℕ) → Was x → is_writing (w'.O x).kind ≡ true → (w'.O x).stamp.terminal.0 ≡ (w'.O x).terminal
  mark-new x (was a k t u b) h = rw (t, u) (v.names.mark x a (rw k at h))
  mark-new x (is-new a k u b m l f g) h = rw (m (rw k at h), u) refl

  under-new : (x : ℕ) → Was x → is_writing (w'.O x).kind ≡ true → Le (w'.O x).stamp (row w'.s (w'.O x).terminal).stamp
  under-new x (was a k t u b) h = rw (t, u) (le_then (v.names.under x a (rw k at h)) (stamps-grow mv.move.step _))
  under-new x (is-new a k u b m l f g) h = rw u l

  count-new : (x : ℕ) → Was x → is_writing (w'.O x).kind ≡ true → 0 < (w'.O x).stamp.count
  count-new x (was a k t u b) h = rw t (v.names.count x a (rw k at h))
  count-new x (is-new a k u b m l f g) h = rw (m (rw k at h)) (omega arith)

  -- a new name is above all of its terminal
  above : (x y : ℕ) → (w.O x).settled ≡ true → is_writing (w.O x).kind ≡ true → (t : ℕ) →
      stamp_of ((row w.s t).stamp.count + 1) (terminal t) ≡ (w.O x).stamp → ⊥
  above x y a k t e = let m = v.names.mark x a k in let u = v.names.under x a k in
      let q : (w.O x).terminal ≡ t = sym m ∙ sym (ap (λ (z : Stamp). z.terminal.0) e) in
      lt-not-eq (le_next _ _ t (subst (λ z. Le (w.O x).stamp (row w.s z).stamp) q u)) (sym e)

  -- at most one operation is named in a call: two new ones would be one
  unique-new : (x y : ℕ) → Was x → Was y → is_writing (w'.O x).kind ≡ true → is_writing (w'.O y).kind ≡ true → (w'.O x).stamp ≡ (w'.O y).stamp →
      (x ≡ y) ⊎ (((w.O x).settled ≡ false) × ((w.O y).settled ≡ false))
  unique-new x y (was a k t u b) (was a₂ k₂ t₂ u₂ b₂) h h₂ e = inl (v.names.unique x y a (rw k at h) a₂ (rw k₂ at h₂) (sym t ∙ e ∙ t₂))
  unique-new x y (was a k t u b) (is-new a₂ k₂ u₂ b₂ m l f g) h h₂ e = absurd (above x y a (rw k at h) (w.O y).terminal (sym (m (rw k₂ at h₂)) ∙ sym e ∙ t))
  unique-new x y (is-new a k u b m l f g) (was a₂ k₂ t₂ u₂ b₂) h h₂ e = absurd (above y x a₂ (rw k₂ at h₂) (w.O x).terminal (sym (m (rw k at h)) ∙ e ∙ t₂))
  unique-new x y (is-new a k u b m l f g) (is-new a₂ k₂ u₂ b₂ m₂ l₂ f₂ g₂) h h₂ e = inr (a, a₂)

  pub keep-names : ((x y : ℕ) → (w.O x).settled ≡ false → (w'.O x).settled ≡ true → (w.O y).settled ≡ false → (w'.O y).settled ≡ true → x ≡ y) →
      Names w'
  keep-names one = record {
    mark = λ x a h. mark-new x (settled-was x (mv.pull x) a) h;
    under = λ x a h. under-new x (settled-was x (mv.pull x) a) h;
    count = λ x a h. count-new x (settled-was x (mv.pull x) a) h;
    unique = λ x y a h b g e. elim (unique-new x y (settled-was x (mv.pull x) a) (settled-was y (mv.pull y) b) h g e) [
      | inl p ↦ p
      | inr p ↦ one x y p.0 a p.1 b
    ];
  }

  -- a collected operation after the call: as before, or just collected
  data Had (x : ℕ) : Type 0 where
    had : (w.O x).collected ≡ true → w'.O x ≡ w.O x → Had x
    just-now : (c : C) (st : Stamp) → w'.O x ≡ collected_op (w.O x) w.clock c st → (w.O x).stamp ≡ st →
        ValueOf first founder w.O c st → (w.recs x).confirmed ≡ true → (w.recs x).stamp ≡ st → Had x

  collected-was : (x : ℕ) → Pull first founder w w' x → (w'.O x).collected ≡ true → Had x
  unfolding settled_op
  collected-was x (p-same e) h = had (rw e at h) e
  collected-was x (p-open a b c d f) h = absurd (false-true c h)
  collected-was x (p-settle st e a b c d f g) h = absurd (false-true b (rw e at h))
  collected-was x (p-collect c st e b d g l m) h = just-now c st e d g l m

  -- nothing was begun after the call
  pub begun-by : (x : ℕ) → (w'.O x).begun ≤ w.clock
  unfolding collected_op settled_op
  begun-by x = by (mv.pull x)
    where
      by : Pull first founder w w' x → (w'.O x).begun ≤ w.clock
      by (p-same e) = rw e (v.times.past x)
      by (p-open a b c d f) = rw f (omega arith)
      by (p-settle st e a b c d f g) = rw e (v.times.past x)
      by (p-collect c st e b d g l m) = rw e (v.times.past x)

  order-new : (x y : ℕ) → Had x → Was y → (w'.O x).end < (w'.O y).begun → Le (w'.O x).stamp (w'.O y).stamp
  unfolding collected_op
  order-new x y (had a e) (was a₂ k t u b) h = rw (e, t) (v.orders.order x y a (rw (e, b) at h) a₂)
  order-new x y (had a e) (is-new a₂ k u b m l f g) h = rw e (le_then (g x a (rw (e, b) at h)) f)
  order-new x y (just-now c st e d g l m) z h = let q = begun-by y in let p : (w'.O x).end ≡ w.clock = rw e refl in absurd (omega arith)

  strict-new : (x y : ℕ) → Had x → Was y → (w'.O x).end < (w'.O y).begun → is_writing (w'.O y).kind ≡ true → Lt (w'.O x).stamp (w'.O y).stamp
  unfolding collected_op
  strict-new x y (had a e) (was a₂ k t u b) h i = rw (e, t) (v.orders.strict x y a (rw (e, b) at h) a₂ (rw k at i))
  strict-new x y (had a e) (is-new a₂ k u b m l f g) h i = rw (e, m (rw k at i)) (le_next _ _ _ (g x a (rw (e, b) at h)))
  strict-new x y (just-now c st e d g l m) z h i = let q = begun-by y in let p : (w'.O x).end ≡ w.clock = rw e refl in absurd (omega arith)

  pub keep-orders : Orders w'
  keep-orders = record {
    order = λ x y a h b. order-new x y (collected-was x (mv.pull x) a) (settled-was y (mv.pull y) b) h;
    strict = λ x y a h b k. strict-new x y (collected-was x (mv.pull x) a) (settled-was y (mv.pull y) b) h k;
  }

  -- the record of a collected operation stays
  pub rec-same : (x : ℕ) → (w'.O x).collected ≡ true → RecMove B w w' x → w'.recs x ≡ w.recs x
  rec-same x h (c-same e) = e
  rec-same x h (c-new a b c) = absurd (false-true b h)

  collected-new : (x : ℕ) → Had x → w'.recs x ≡ w.recs x → Collected first founder w' x
  unfolding collected_op
  collected-new x (had a e) r = let c = v.collected x a in record {
    value = rw e (value_grows _ _ c.value);
    confirmed = rw r c.confirmed;
    rec-stamp = rw (r, e) c.rec-stamp;
  }
  collected-new x (just-now c st e d g l m) r = record {
    value = rw e (value_grows c st g);
    confirmed = rw r l;
    rec-stamp = rw (r, e) (m ∙ sym d);
  }

  pub keep-collected : (x : ℕ) → (w'.O x).collected ≡ true → Collected first founder w' x
  keep-collected x h = collected-new x (collected-was x (mv.pull x) h) (rec-same x h (mv.rec x))
