-- Every move keeps what holds of phase numbers.
use Rattle.std.proofs.Common.{ℕ, ◌≤◌, inl, inr, le_trans, arith}
use Rattle.invariants.proofs.Books.{Book}
use Rattle.invariants.proofs.Entries.{EntryStamps}
use Rattle.invariants.proofs.Invariant.{Numbers}
use Rattle.invariants.proofs.Moves.{Hears, Move, OpMove, RetMove, h-more, h-same, o-again, o-idle, o-more, o-prop, o-query, o-same, r-gone, r-more, r-new, r-same, r-turn}
use Rattle.invariants.proofs.Operations.{number_of, put-number}
use Rattle.invariants.proofs.Retirements.{r-number, r-put-number}
use Rattle.invariants.proofs.Steps.{each, grows_all}
use Rattle.invariants.proofs.Views.{View, heard-from, hears, op, ret, row}

module _ {C : Type 0} {B : Book} {s s' : View C} {E : EntryStamps} {i : ℕ} (old : Numbers s) (mv : Move B s E s' i) where
  rise : (j : ℕ) → (row s j).number.0 ≤ (row s' j).number.0
  rise j = (grows_all mv.step j).number

  new-heard : (x : ℕ) → Hears s i x (row s i) (row s' i) → hears s' i x ≤ (row s' x).number.0
  new-heard x (h-same e) = let a = old.heard i x in let r = rise x in omega arith
  new-heard x (h-more b snt e g l) = let a = old.pns x i b snt in let r = rise x in omega arith

  keep-heard : (j x : ℕ) → hears s' j x ≤ (row s' x).number.0
  keep-heard j x = each mv.step
      (λ j t. heard-from t.latest x ≤ (row s' x).number.0) (new-heard x (mv.hears x)) (λ j. le_trans (old.heard j x) (rise x)) j

  new-op : OpMove s i (row s i) (row s' i) → number_of (op s' i) ≤ (row s' i).number.0
  new-op (o-same e) = rw e (le_trans (old.ops i) (rise i))
  new-op (o-idle e z) = rw z (omega arith)
  new-op (o-query k e l) = rw e (omega arith)
  new-op (o-prop c τ e l g) = rw e (omega arith)
  new-op (o-again e) = rw (e, put-number _ _ (op s i)) (le_trans (old.ops i) (rise i))
  new-op (o-more j b a e snt l ru g le ok w gn) = rw (e, put-number _ _ (op s i)) (le_trans (old.ops i) (rise i))

  new-ret : RetMove B s E i (row s i) (row s' i) → r-number (ret s' i) ≤ (row s' i).number.0
  new-ret (r-same e) = rw e (le_trans (old.rets i) (rise i))
  new-ret (r-gone e) = rw e (omega arith)
  new-ret (r-new k e l f g) = rw e (omega arith)
  new-ret (r-turn e l f) = rw e (omega arith)
  new-ret (r-more j b e snt l g) = rw (e, r-put-number _ (ret s i)) (le_trans (old.rets i) (rise i))

  pub keep-numbers : Numbers s'
  keep-numbers = record {
    heard = keep-heard;
    pns = λ f t b h. elim (mv.step.pool f t b h) [
      | inl o ↦ le_trans (old.pns f t b o) (rise f)
      | inr n ↦ rw (n.0, n.1) (omega arith)
    ];
    pnr = λ f t b h. elim (mv.step.pool f t b h) [
      | inl o ↦ le_trans (old.pnr f t b o) (rise t)
      | inr n ↦ rw n.1 (keep-heard i t)
    ];
    ops = each mv.step (λ j t. number_of t.operation ≤ t.number.0) (new-op mv.op) old.ops;
    rets = each mv.step (λ j t. r-number t.retirement ≤ t.number.0) (new-ret mv.ret) old.rets;
  }
