-- Appoint and tell keep the invariant.
use Rattle.std.proofs.Common.{◌≡◌, ℕ, ◌<◌, Bool, true, false, cond, eqb, List, length, Some, None, Option, sym, refl, arith}
use Rattle.std.specs.List.{slice_get}
use Rattle.parts.specs.declared.counts.Group.{Group as GroupNumber}
use Rattle.parts.specs.declared.counts.Place.{Place}
use Rattle.parts.specs.declared.counts.Terminal.{Terminal}
use Rattle.parts.specs.declared.entries.Entry.TheVariants.{Group}
use Rattle.parts.specs.declared.sets.TerminalSet.{TerminalSet}
use Rattle.parts.specs.Charts.{join_at}
use Rattle.replica.specs.declared.refusals.Refusal.{Refusal}
use Rattle.replica.specs.Replicas.{charted}
use Rattle.house.specs.declared.guarding.Need.TheVariants.{NotToBeIdle}
use Rattle.house.specs.Appointing.{appoint_step, appointing, learning, listed_at, tell_step, telling as telling_house, why_not_appoint}
use Rattle.house.specs.States.{State}
use Rattle.house.specs.Steps.{Plain as PlainAnswer, Rule}
use Rattle.invariants.proofs.Acting.{acting-cases}
use Rattle.invariants.proofs.CallMoves.{move-told}
use Rattle.invariants.proofs.Days.{Day, day_on}
use Rattle.invariants.proofs.Fine.{Fine, fine-calm, fine-same, fine-ticks}
use Rattle.invariants.proofs.Seen.{calm-relisted, puts-seated, seen}
use Rattle.invariants.proofs.Tables.{nth_here}
use Rattle.invariants.proofs.Views.{group_at, row}

module _ {B C : Type 0} {reads writes : Rule B} {first : C} {founder : ℕ} (d : Day B C) (f : Fine reads writes first founder d) where
  -- the invariant holds after a call that came to this, and in which no operation is moved
  abbrev After : PlainAnswer × State B C → Type 0
  After r = Fine reads writes first founder (day_on r.1 d)

  appointed : (c : GroupNumber) (o : Option Refusal) → After (appointing c o d.now)
  appointed c (Some e) = fine-ticks d f
  appointed c None = fine-calm d f _ 0 refl (calm-relisted first d.now c 0)

  pub fine-appoint : (size : B → ℕ) (members : B → GroupNumber → TerminalSet) (c : GroupNumber) →
      Fine reads writes first founder (day_on (appoint_step size members c d.now).1 d)
  fine-appoint size members c = appointed c (why_not_appoint size members c d.now)

  listed-there : (k : Place) (ls : List GroupNumber) (c : GroupNumber) → listed_at k ls ≡ Some c → (k.0 < length ls) × (c ≡ group_at ls k.0)
  listed-there k ls c e = let h = nth_here ls k.0 c (record { 0 = 0 }) (not_first (eqb k.0 0) (slice_get ls k.0) c e) in (h.0, sym h.1)
    where
      not_first : (b : Bool) (o : Option GroupNumber) (c : GroupNumber) → cond b None o ≡ Some c → o ≡ Some c
      not_first true o c q = absurd (let z : ◌≡◌ {A = ℕ} 0 1 = cc in omega arith)
      not_first false o c q = q

  learned : (i : Terminal) (k : Place) → i.0 < length d.now.replicas → (o : Option GroupNumber) → listed_at k d.now.listed ≡ o →
      After (learning i k o (row (seen first d.now) i.0) d.now)
  learned i k l None e = fine-ticks d f
  learned i k l (Some c) e =
      let h = listed-there k d.now.listed c e in
      let p = puts-seated first d.now i (charted (join_at k (Group c) (row (seen first d.now) i.0).chart) (row (seen first d.now) i.0)) l in
      fine-same d f _ i.0 _ refl p (move-told f.sound.inv k c (unfold seen in h.0) (unfold seen in h.1) p) refl refl refl

  pub fine-tell : (i : Terminal) (k : Place) → Fine reads writes first founder (day_on (tell_step i k d.now).1 d)
  fine-tell i k = acting-cases first NotToBeIdle i i d.now (λ r. telling_house i k r d.now) After (λ e. fine-ticks d f) (λ l _. learned i k l _ refl)
