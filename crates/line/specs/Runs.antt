-- Whole days: a house is opened and a list of calls is played on it.
use Rattle.std.specs.Prelude.{ℕ, cond, List, [], ◌∷◌, ◌++◌, length, drop, Ok, Err, Result, nat_lt}
use Rattle.parts.specs.declared.calls.Call.{Call}
use Rattle.parts.specs.declared.counts.Group.{Group}
use Rattle.parts.specs.declared.counts.Terminal.{Terminal}
use Rattle.parts.specs.declared.sets.TerminalSet.{TerminalSet}
use Rattle.replica.specs.declared.messages.Message.{Message}
use Rattle.replica.specs.declared.refusals.Refusal.{Refusal}
use Rattle.replica.specs.declared.replicas.Replica.{Replica}
use Rattle.house.specs.declared.house.House.{House}
use Rattle.house.specs.Calls.{Outcome, step}
use Rattle.house.specs.Opening.{open_step}
use Rattle.house.specs.States.{State, state}
use Rattle.house.specs.Steps.{Rule}
use Rattle.line.specs.declared.days.NotPlayed.{NotPlayed}
use Rattle.line.specs.declared.days.NotPlayed.TheVariants.{NoRoom, Declined}

-- what a day comes to: the house with its tables as the last call leaves it, or why it was not played; the list of outcomes; the two tables
abbrev pub DayOutcome : Type 0 → Type 0 → Type 0
DayOutcome B C = Result (State B C) (NotPlayed B) × List (Outcome C) × List (Replica C) × List (Message C)

module _ {B C : Type 0} (size : B → ℕ) (members : B → Group → TerminalSet) (reads writes : Rule B) where
  -- what each call of a list comes to, one after the other
  abbrev pub outcomes_of : State B C → List (Call C) → List (Outcome C)
  outcomes_of s [] = []
  outcomes_of s (c ∷ cs) = (step size members reads writes c s).0 ∷ outcomes_of (step size members reads writes c s).1 cs

  -- the state that they leave
  abbrev pub state_after : State B C → List (Call C) → State B C
  state_after s [] = s
  state_after s (c ∷ cs) = state_after (step size members reads writes c s).1 cs

  -- the calls are played on a house that was opened, and what each comes to stands in the front of the list of outcomes;
  -- where the opening was declined, the list and the tables are as they were
  abbrev pub playing : List (Call C) → List (Outcome C) → Result (State B C) (Refusal × B) × List (Replica C) → List (Message C) → DayOutcome B C
  playing cs os (Err e, rs) ms = (Err (Declined e.0 e.1), os, rs, ms)
  playing cs os (Ok s, rs) ms =
      (Ok (state_after s cs), outcomes_of s cs ++ drop (length cs) os, (state_after s cs).replicas, (state_after s cs).messages)

  -- a whole day, unless the list of outcomes is too short for it: then nothing is done
  abbrev pub play_day : B → ℕ → Terminal → C → List (Replica C) → List (Message C) → List (Call C) → List (Outcome C) → DayOutcome B C
  play_day book n founder first rs ms cs os =
      cond (nat_lt (length os) (length cs)) (Err (NoRoom book), os, rs, ms) (playing cs os (open_step members book n founder first rs ms) ms)

-- what the code answers, with the house seen together with its tables
abbrev pub played_state : {B C : Type 0} → Result (House B) (NotPlayed B) → List (Replica C) → List (Message C) → Result (State B C) (NotPlayed B)
played_state (Ok h) rs ms = Ok (state h rs ms)
played_state (Err e) rs ms = Err e
