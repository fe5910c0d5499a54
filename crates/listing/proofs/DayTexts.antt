-- The text of a day, from what playing it over fresh tables came to.
use Rattle.std.proofs.Common.{◌≡◌, ℕ, List, length, replicate, Result, ap}
use Rattle.parts.specs.declared.calls.Call.{Call}
use Rattle.parts.specs.declared.counts.Group.{Group}
use Rattle.parts.specs.declared.counts.Terminal.{Terminal}
use Rattle.parts.specs.declared.sets.TerminalSet.{TerminalSet}
use Rattle.replica.specs.declared.messages.Message.{Message}
use Rattle.replica.specs.declared.replicas.Replica.{Replica}
use Rattle.replica.specs.Replicas.{fresh}
use Rattle.house.specs.Calls.{Outcome}
use Rattle.house.specs.States.{State}
use Rattle.house.specs.Steps.{Rule}
use Rattle.line.specs.declared.days.NotPlayed.{NotPlayed}
use Rattle.line.specs.Runs.{DayOutcome, play_day}
use Rattle.listing.specs.Listings.{played_text, idle_messages, no_outcomes, day_text}

module _ {B C : Type 0} (shape : C → List ℕ) (size : B → ℕ) (members : B → Group → TerminalSet) (reads writes : Rule B) (b : B) (n : ℕ) (f : Terminal) (first : C) (cs : List (Call C))
    (rs rs' : List (Replica C)) (ms ms' : List (Message C)) (os os' : List (Outcome C))
    (filled : rs ≡ replicate n (fresh first f)) (idle : ms ≡ idle_messages) (blank : os ≡ no_outcomes (length cs)) where
  -- the text of what playing came to is the text of the day
  pub played_as : (r : Result (State B C) (NotPlayed B)) → (r, os', rs', ms') ≡ play_day size members reads writes b n f first rs ms cs os →
      played_text shape n cs r os' ≡ day_text shape size members reads writes b n f first cs
  played_as r e = ap (λ (d : DayOutcome B C). played_text shape n cs d.0 d.1) (rw (filled, idle, blank) at e)
