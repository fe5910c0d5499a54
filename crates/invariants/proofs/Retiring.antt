-- The four calls of a retirement keep the invariant.
use Rattle.std.proofs.Common.{◌≡◌, ℕ, ◌<◌, ltb, length, refl}
use Rattle.std.proofs.lemmas.Bool.{cond_both}
use Rattle.parts.specs.declared.counts.PhaseNumber.{PhaseNumber}
use Rattle.parts.specs.declared.counts.Place.{Place}
use Rattle.parts.specs.declared.counts.Terminal.{Terminal}
use Rattle.parts.specs.declared.sets.TerminalSet.{TerminalSet}
use Rattle.parts.specs.Charts.{retire_at}
use Rattle.parts.specs.Limits.{last_number}
use Rattle.replica.specs.declared.replicas.Replica.{Replica}
use Rattle.replica.specs.declared.retirements.Retirement.{Retirement}
use Rattle.replica.specs.declared.retirements.Retirement.TheVariants.{Free as NoRetirement, Prop as Telling, Query as Asking}
use Rattle.replica.specs.declared.retirements.Retiring.{Retiring}
use Rattle.replica.specs.declared.retirements.Retiring.TheVariants.{Begin as RetiringBegin, Close as RetiringClose, Confirm as RetiringConfirm, Settle as RetiringSettle}
use Rattle.replica.specs.Replicas.{charted}
use Rattle.replica.specs.Retiring.{RetireMoved, asking, has_asked, has_told, is_over, may_retire, retire_beginning, retire_closing, retire_confirming, retire_moving, retire_settling, retired, telling}
use Rattle.house.specs.declared.guarding.Need.TheVariants.{ToBeActive}
use Rattle.house.specs.Guards.{kept}
use Rattle.house.specs.Retiring.{retiring, retiring_step}
use Rattle.house.specs.Steps.{Rule}
use Rattle.invariants.proofs.Acting.{acting-cases}
use Rattle.invariants.proofs.CallMoves.{move-asking, move-closed, move-retired, move-telling}
use Rattle.invariants.proofs.Days.{Day, day_on}
use Rattle.invariants.proofs.Fine.{Fine, answers_of, fine-same, fine-ticks}
use Rattle.invariants.proofs.Invariant.{Inv}
use Rattle.invariants.proofs.Seen.{puts-seated, seen}
use Rattle.invariants.proofs.Views.{row}

module _ {B C : Type 0} {reads writes : Rule B} {first : C} {founder : ℕ} (d : Day B C) (f : Fine reads writes first founder d) (i : Terminal)
    (l : i.0 < length d.now.replicas) where
  v : Inv (answers_of reads writes d.now.book) (seen first d.now) f.ghost.entry
  v = f.sound.inv

  -- the row of the terminal that acts
  abbrev mine : Replica C
  mine = row (seen first d.now) i.0

  -- the invariant holds after a call that makes this of the terminal
  abbrev After : RetireMoved C → Type 0
  After r = Fine reads writes first founder (day_on (kept i r d.now).1 d)

  -- retire, retire-settle, retire-confirm and retire-close, in the phase in which they are made
  begun : (k : Place) → After (retire_beginning k mine)
  begun k = cond_both (may_retire mine.chart k) _ _ After
      (λ m. cond_both (ltb mine.number.0 last_number) _ _ After
      (λ _. let p = puts-seated first d.now i (asking k mine) l in fine-same d f _ i.0 _ refl p (move-asking v k m p) refl refl refl)
      (λ _. fine-ticks d f))
      (λ _. fine-ticks d f)

  turned : (k : Place) (n : PhaseNumber) (h : TerminalSet) → mine.retirement ≡ Asking k n h →
      After (retire_settling (reads d.now.book) (writes d.now.book) k h mine)
  turned k n h e = cond_both (is_over mine.chart k) _ _ After
      (λ _. fine-ticks d f)
      (λ _. cond_both (has_asked (reads d.now.book) (writes d.now.book) mine.chart k h) _ _ After
      (λ a. cond_both (ltb mine.number.0 last_number) _ _ After
      (λ _. let p = puts-seated first d.now i (telling k mine) l in fine-same d f _ i.0 _ refl p (move-telling v k n h e a p) refl refl refl)
      (λ _. fine-ticks d f))
      (λ _. fine-ticks d f))

  ended : (k : Place) (n : PhaseNumber) (h : TerminalSet) → mine.retirement ≡ Telling k n h →
      After (retire_confirming (writes d.now.book) k h mine)
  ended k n h e = cond_both (is_over mine.chart k) _ _ After
      (λ _. fine-ticks d f)
      (λ o. cond_both (has_told (writes d.now.book) mine.chart k h) _ _ After
      (λ a. let p = puts-seated first d.now i (charted (retire_at k mine.chart) mine) l in
      fine-same d f _ i.0 _ refl p (move-retired v k n h e o a p) refl refl refl)
      (λ _. fine-ticks d f))

  closed : (k : Place) → After (retire_closing k mine)
  closed k = cond_both (is_over mine.chart k) _ _ After
      (λ _. let p = puts-seated first d.now i (retired mine.number NoRetirement mine) l in fine-same d f _ i.0 _ refl p (move-closed v p) refl refl refl)
      (λ _. fine-ticks d f)

  retire-moves : (m : Retiring) (r : Retirement) → mine.retirement ≡ r → After (retire_moving (reads d.now.book) (writes d.now.book) r m mine)
  retire-moves (RetiringBegin k) NoRetirement e = begun k
  retire-moves RetiringSettle NoRetirement e = fine-ticks d f
  retire-moves RetiringConfirm NoRetirement e = fine-ticks d f
  retire-moves RetiringClose NoRetirement e = fine-ticks d f
  retire-moves (RetiringBegin k') (Asking k n h) e = fine-ticks d f
  retire-moves RetiringSettle (Asking k n h) e = turned k n h e
  retire-moves RetiringConfirm (Asking k n h) e = fine-ticks d f
  retire-moves RetiringClose (Asking k n h) e = closed k
  retire-moves (RetiringBegin k') (Telling k n h) e = fine-ticks d f
  retire-moves RetiringSettle (Telling k n h) e = fine-ticks d f
  retire-moves RetiringConfirm (Telling k n h) e = ended k n h e
  retire-moves RetiringClose (Telling k n h) e = closed k

pub fine-retiring : {B C : Type 0} {reads writes : Rule B} {first : C} {founder : ℕ}
    (d : Day B C) (f : Fine reads writes first founder d) (m : Retiring) (i : Terminal) →
    Fine reads writes first founder (day_on (retiring_step reads writes m i d.now).1 d)
fine-retiring {reads = reads} {writes} {first} {founder} d f m i =
    acting-cases first ToBeActive i i d.now (λ r. retiring reads writes m i r d.now) (λ r. Fine reads writes first founder (day_on r.1 d))
    (λ e. fine-ticks d f) (λ l _. retire-moves d f i l m _ refl)
