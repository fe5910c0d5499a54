-- A call that begins an operation.
use Rattle.std.proofs.Common.{◌≡◌, ℕ, suc, ◌<◌, true, false, ◌⊎◌, sym, refl, ap, ◌∙◌, subst, inl, inr, arith}
use Rattle.std.proofs.lemmas.Bool.{cases_eq, false≢true}
use Rattle.replica.specs.declared.operations.Kind.{Kind}
use Rattle.replica.specs.Operating.{queried}
use Rattle.invariants.proofs.Bases.{Base}
use Rattle.invariants.proofs.Books.{Book}
use Rattle.invariants.proofs.Currents.{others-now}
use Rattle.invariants.proofs.Entries.{entered_at}
use Rattle.invariants.proofs.KeepQueries.{b-new}
use Rattle.invariants.proofs.KeepRecs.{keep-sound}
use Rattle.invariants.proofs.Moves.{Move}
use Rattle.invariants.proofs.Ops.{Op, new_op}
use Rattle.invariants.proofs.Updates.{update, update_other, update_same}
use Rattle.invariants.proofs.Views.{View, lens, row}
use Rattle.invariants.proofs.World.{Now, Pull, Sound, World, c-same, p-open, p-same, v-same}

-- what is seen when an operation is begun
unfoldable pub taken-base : {C : Type 0} → View C → ℕ → Base
taken-base s' now = record { stamps = λ j. (row s' j).stamp; lens = λ j. lens s' j; begun = now }

-- the world after it
unfoldable pub begins : {C : Type 0} → World C → View C → ℕ → (ℕ → Op C) → ℕ → World C
begins w s' i O' n' = record {
  s = s';
  E = entered_at s' w.E;
  O = O';
  n = n';
  cur = update w.cur i w.n;
  clock = suc w.clock;
  base = update w.base i (taken-base s' w.clock);
  recs = w.recs;
}

module _ {C : Type 0} {B : Book} {first : C} {founder : ℕ} (w : World C) (s' : View C) (i : ℕ) (k : Kind C) (O' : ℕ → Op C) (n' : ℕ)
    (v : Sound B first founder w) (mv : Move B w.s w.E s' i)
    (e : row s' i ≡ queried k (row w.s i)) (eo : O' w.n ≡ new_op first i k w.clock) (es : (x : ℕ) → (x ≡ w.n → ⊥) → O' x ≡ w.O x) (en : n' ≡ suc w.n)
    (ns : (w.O w.n).settled ≡ false) (nc : (w.O w.n).collected ≡ false) where
  pull : (x : ℕ) → Pull first founder w (begins w s' i O' n') x
  unfolding begins new_op
  pull x = elim (cases_eq x w.n) [
    | inl p ↦ subst (λ x. Pull first founder w (begins w s' i O' n') x) (sym p) (p-open ns (rw eo refl) (rw eo refl) nc (rw eo refl))
    | inr p ↦ p-same (es x p)
  ]

  le-absurd : (x : ℕ) → w.n < x → x < suc w.n → ⊥
  le-absurd x a b = omega arith

  whose : (x : ℕ) → x < n' → ((x < w.n) × ((O' x).terminal ≡ (w.O x).terminal)) ⊎ ((O' x).terminal ≡ i)
  unfolding new_op
  whose x h = elim (cases_eq x w.n) [
    | inl p ↦ inr (subst (λ x. (O' x).terminal ≡ i) (sym p) (rw eo refl))
    | inr p ↦ inl (omega arith, rw (es x p) refl)
  ]

  here : Now first (begins w s' i O' n') i
  unfolding begins new_op taken-base
  here = rw (update_same w.cur i w.n, update_same w.base i (taken-base s' w.clock), e, eo) (record {
    inside = λ _. record { here = rw en (omega arith); last = λ x a b _. absurd (le-absurd x a (rw en at b)) };
    mine = λ _. refl;
    open-still = λ _. refl;
    begun = λ _. refl;
    kind = λ _. refl;
    unsettled = λ _. refl;
    settled = λ h. absurd (false≢true h);
    stamp = λ h. absurd (false≢true h);
    card = λ h. absurd (false≢true h);
    confirmed = λ h. absurd (false≢true h);
    rec-stamp = λ h. absurd (false≢true h);
  })

  begun-now : (x : ℕ) →
      ((update w.base i (taken-base s' w.clock) x).begun ≡ (w.base x).begun) ⊎ ((update w.base i (taken-base s' w.clock) x).begun ≡ w.clock)
  unfolding taken-base
  begun-now x = elim (cases_eq x i) [
    | inl p ↦ inr (subst (λ x. (update w.base i (taken-base s' w.clock) x).begun ≡ w.clock) (sym p)
        (ap (λ (b : Base). b.begun) (update_same w.base i (taken-base s' w.clock))))
    | inr p ↦ inl (ap (λ (b : Base). b.begun) (update_other w.base i (taken-base s' w.clock) x p))
  ]

  pub sound-begins : Sound B first founder (begins w s' i O' n')
  unfolding begins new_op taken-base
  sound-begins = keep-sound v (record {
    move = mv;
    entry = refl;
    base = b-new (update_other w.base i (taken-base s' w.clock)) (λ j. ap (λ (b : Base). b.stamps j) (update_same w.base i (taken-base s' w.clock)))
        (λ j. ap (λ (b : Base). b.lens j) (update_same w.base i (taken-base s' w.clock))) (rw e (omega arith)) (rw e refl);
    begun = begun-now;
    clock = refl;
    pull = pull;
    rec = λ x. c-same refl;
    value = v-same (rw e refl) (rw e refl);
    kept = λ h. absurd (false≢true (rw e at h));
    here = here;
    there = others-now w (begins w s' i O' n') v mv.step w.n es (λ x _. refl) (rw en (omega arith)) whose
        (update_other w.cur i w.n) (update_other w.base i (taken-base s' w.clock))
        (λ x ne b q. let z = ((v.now x).inside b).here in omega arith);
  }) (λ x y a b c d. elim (cases_eq x w.n) [
    | inl p ↦ absurd (false≢true (sym (ap (λ (o : Op C). o.settled) eo) ∙ subst (λ x. (O' x).settled ≡ true) p b))
    | inr p ↦ absurd (false≢true (sym a ∙ sym (ap (λ (o : Op C). o.settled) (es x p)) ∙ b))
  ])
