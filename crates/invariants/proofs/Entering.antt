-- Enter, crash, knock and send keep the invariant.
use Rattle.std.proofs.Common.{ℕ, ◌<◌, Bool, eqb, ltb, length, refl, arith}
use Rattle.std.proofs.lemmas.Bool.{cond_both, ltb-true}
use Rattle.parts.specs.declared.counts.Terminal.{Terminal}
use Rattle.parts.specs.declared.sets.TerminalSet.{TerminalSet}
use Rattle.parts.specs.Limits.{messages as pool_size}
use Rattle.parts.specs.Sets.{has}
use Rattle.replica.specs.declared.replicas.Status.{Status}
use Rattle.replica.specs.Replicas.{standing}
use Rattle.house.specs.declared.guarding.Need.TheVariants.{Nothing, ToBeActive, ToBeIdle, ToBeJoining}
use Rattle.house.specs.States.{State, seated}
use Rattle.house.specs.Steps.{Plain as PlainAnswer, Rule, crash_step, crashing, enter_step, entering, knock_step, knocking, send_step, sending}
use Rattle.invariants.proofs.Acting.{acting-cases}
use Rattle.invariants.proofs.CallMoves.{move-standing}
use Rattle.invariants.proofs.Days.{Day, day_on}
use Rattle.invariants.proofs.Fine.{Fine, answers_of, fine-calm, fine-same, fine-ticks}
use Rattle.invariants.proofs.Invariant.{Inv}
use Rattle.invariants.proofs.Seen.{calm-knock, calm-news, puts-seated, seen}
use Rattle.invariants.proofs.Views.{row}

module _ {B C : Type 0} {reads writes : Rule B} {first : C} {founder : ℕ} (d : Day B C) (f : Fine reads writes first founder d) where
  -- the invariant holds after a call that came to this, and in which no operation is moved
  abbrev After : PlainAnswer × State B C → Type 0
  After r = Fine reads writes first founder (day_on r.1 d)

  v : Inv (answers_of reads writes d.now.book) (seen first d.now) f.ghost.entry
  v = f.sound.inv

  -- the terminal has another status, mark or known set
  stood : (i : Terminal) (a : Status) (x : Bool) (k : TerminalSet) → i.0 < length d.now.replicas →
      Fine reads writes first founder (day_on (seated i (standing a x k (row (seen first d.now) i.0)) d.now) d)
  stood i a x k l = let p = puts-seated first d.now i (standing a x k (row (seen first d.now) i.0)) l in
      fine-same d f _ i.0 _ refl p (move-standing v a x k p) refl refl refl

  pub fine-enter : (i : Terminal) → Fine reads writes first founder (day_on (enter_step i d.now).1 d)
  fine-enter i = acting-cases first ToBeIdle i i d.now (λ r. entering i r d.now) After (λ e. fine-ticks d f) (λ l _. stood i _ _ _ l)

  pub fine-crash : (i : Terminal) → Fine reads writes first founder (day_on (crash_step i d.now).1 d)
  fine-crash i = acting-cases first Nothing i i d.now (λ r. crashing i r d.now) After (λ e. fine-ticks d f) (λ l _. stood i _ _ _ l)

  pub fine-knock : (i j : Terminal) → Fine reads writes first founder (day_on (knock_step i j d.now).1 d)
  fine-knock i j = acting-cases first ToBeJoining i j d.now (λ r. knocking i j r d.now) After (λ e. fine-ticks d f)
      (λ _ full. cond_both (eqb i.0 j.0) _ _ After
      (λ _. fine-ticks d f)
      (λ _. cond_both (ltb d.now.waiting pool_size) _ _ After
      (λ l. let room = ltb-true _ _ l in fine-calm d f _ i.0 refl (calm-knock first d.now (omega arith) i j))
      (λ _. fine-ticks d f)))

  pub fine-send : (i j : Terminal) → Fine reads writes first founder (day_on (send_step i j d.now).1 d)
  fine-send i j = acting-cases first ToBeActive i j d.now (λ r. sending i j r d.now) After (λ e. fine-ticks d f)
      (λ _ full. cond_both (has (row (seen first d.now) i.0).known j) _ _ After
      (λ _. cond_both (ltb d.now.waiting pool_size) _ _ After
      (λ l. let room = ltb-true _ _ l in fine-calm d f _ i.0 refl (calm-news first d.now (omega arith) i j))
      (λ _. fine-ticks d f))
      (λ _. fine-ticks d f))
