-- A call that collects an operation.
use Rattle.std.proofs.Common.{◌≡◌, ℕ, true, false, sym, refl, ◌∙◌, subst, inl, inr, arith}
use Rattle.std.proofs.lemmas.Bool.{cases_eq, false≢true}
use Rattle.replica.specs.declared.operations.Operation.TheVariants.{Free}
use Rattle.replica.specs.Operating.{operated}
use Rattle.invariants.proofs.Books.{Book}
use Rattle.invariants.proofs.Currents.{current-free, not-mine, others-now}
use Rattle.invariants.proofs.KeepQueries.{b-same}
use Rattle.invariants.proofs.KeepRecs.{keep-sound}
use Rattle.invariants.proofs.Moves.{Move}
use Rattle.invariants.proofs.Operations.{card-of, done-kept, is_done, is_free, is_kept, kept-busy, kept-card, stamp-of}
use Rattle.invariants.proofs.Ops.{Op, collected_op}
use Rattle.invariants.proofs.OpsSettle.{turns}
use Rattle.invariants.proofs.Views.{View, op, row}
use Rattle.invariants.proofs.World.{Pull, Sound, World, c-same, p-collect, p-same, v-same}

module _ {C : Type 0} {B : Book} {first : C} {founder : ℕ} (w : World C) (s' : View C) (i : ℕ) (O' : ℕ → Op C) (n' : ℕ) (v : Sound B first founder w)
    (mv : Move B w.s w.E s' i)
    (p : is_done (op w.s i) ≡ true) (d : C)
    (e : row s' i ≡ operated (row w.s i).card (row w.s i).stamp (row w.s i).number Free (row w.s i))
    (eo : O' (w.cur i) ≡ collected_op (w.O (w.cur i)) w.clock (card-of d (op w.s i)) (stamp-of (op w.s i)))
    (es : (x : ℕ) → (x ≡ w.cur i → ⊥) → O' x ≡ w.O x) (en : n' ≡ w.n) where
  kept : is_kept (op w.s i) ≡ true
  kept = done-kept _ p

  busy : is_free (op w.s i) ≡ false
  busy = kept-busy _ kept

  same-card : card-of d (op w.s i) ≡ card-of first (op w.s i)
  same-card = kept-card d first _ kept

  pull : (x : ℕ) → Pull first founder w (turns w s' O' n') x
  unfolding turns
  pull x = elim (cases_eq x (w.cur i)) [
    | inl q ↦ subst (λ x. Pull first founder w (turns w s' O' n') x) (sym q)
        (p-collect _ _ eo ((v.now i).open-still busy) ((v.now i).stamp kept) (rw same-card (v.vals.kept i kept)) ((v.now i).confirmed p) ((v.now i).rec-stamp p))
    | inr q ↦ p-same (es x q)
  ]

  whose : (x : ℕ) → (O' x).terminal ≡ (w.O x).terminal
  unfolding collected_op
  whose x = elim (cases_eq x (w.cur i)) [
    | inl p ↦ subst (λ x. (O' x).terminal ≡ (w.O x).terminal) (sym p) (rw eo refl)
    | inr p ↦ rw (es x p) refl
  ]

  still : (x : ℕ) → (O' x).settled ≡ (w.O x).settled
  unfolding collected_op
  still x = elim (cases_eq x (w.cur i)) [
    | inl q ↦ subst (λ x. (O' x).settled ≡ (w.O x).settled) (sym q) (rw eo refl)
    | inr q ↦ rw (es x q) refl
  ]

  pub sound-collects : Sound B first founder (turns w s' O' n')
  unfolding turns
  sound-collects = keep-sound v (record {
    move = mv;
    entry = refl;
    base = b-same (λ x. refl);
    begun = λ x. inl refl;
    clock = refl;
    pull = pull;
    rec = λ x. c-same refl;
    value = v-same (rw e refl) (rw e refl);
    kept = λ h. absurd (false≢true (rw e at h));
    here = current-free (rw e refl);
    there = others-now w (turns w s' O' n') v mv.step (w.cur i) es (λ x _. refl) (rw en (omega arith))
        (λ x h. inl (rw en at h, whose x)) (λ x _. refl) (λ x _. refl) (not-mine w i v busy);
  }) (λ x y a b c d. absurd (false≢true (sym a ∙ sym (still x) ∙ b)))
