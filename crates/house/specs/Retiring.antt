-- The four calls of a retirement.
use Rattle.std.specs.Prelude.{Ok, Err, Result}
use Rattle.parts.specs.declared.counts.Place.{Place}
use Rattle.parts.specs.declared.counts.Terminal.{Terminal}
use Rattle.replica.specs.declared.refusals.Refusal.{Refusal}
use Rattle.replica.specs.declared.replicas.Replica.{Replica}
use Rattle.replica.specs.declared.retirements.Retiring.{Retiring}
use Rattle.replica.specs.declared.retirements.Retiring.TheVariants.{Begin, Settle, Confirm, Close}
use Rattle.replica.specs.Retiring.{retire_moved}
use Rattle.house.specs.declared.guarding.Need.TheVariants.{ToBeActive}
use Rattle.house.specs.Guards.{acting, kept}
use Rattle.house.specs.States.{State}
use Rattle.house.specs.Steps.{Plain, Rule}

module _ {B C : Type 0} (reads writes : Rule B) where
  -- a call that moves the retirement of terminal i on
  abbrev pub retiring : Retiring → Terminal → Result (Replica C) Refusal → State B C → Plain × State B C
  retiring m i (Err e) s = (Err e, s)
  retiring m i (Ok t) s = kept i (retire_moved (reads s.book) (writes s.book) m t) s

  abbrev pub retiring_step : Retiring → Terminal → State B C → Plain × State B C
  retiring_step m i s = retiring m i (acting ToBeActive i i s) s

  abbrev pub retire_step : Terminal → Place → State B C → Plain × State B C
  retire_step i k s = retiring_step (Begin k) i s

  abbrev pub retire_settle_step : Terminal → State B C → Plain × State B C
  retire_settle_step i s = retiring_step Settle i s

  abbrev pub retire_confirm_step : Terminal → State B C → Plain × State B C
  retire_confirm_step i s = retiring_step Confirm i s

  abbrev pub retire_close_step : Terminal → State B C → Plain × State B C
  retire_close_step i s = retiring_step Close i s
