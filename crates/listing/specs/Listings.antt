-- The listing of a call file.
use Rattle.std.specs.Prelude.{◌≡◌, ℕ, ◌+◌, List, [], ◌∷◌, ◌++◌, length, replicate, Ok, Err, Result}
use Rattle.parts.specs.declared.calls.Call.{Call}
use Rattle.parts.specs.declared.counts.Group.{Group}
use Rattle.parts.specs.declared.counts.Terminal.{Terminal}
use Rattle.parts.specs.declared.sets.TerminalSet.{TerminalSet}
use Rattle.parts.specs.Limits.{messages as pool_size}
use Rattle.replica.specs.declared.messages.Body.TheVariants.{Knock}
use Rattle.replica.specs.declared.messages.Message.{Message}
use Rattle.replica.specs.Replicas.{fresh}
use Rattle.house.specs.declared.calling.Answer.TheVariants.{Plain}
use Rattle.house.specs.Calls.{Outcome}
use Rattle.house.specs.States.{State}
use Rattle.house.specs.Steps.{Rule, message}
use Rattle.line.specs.declared.days.NotPlayed.{NotPlayed}
use Rattle.line.specs.declared.days.NotPlayed.TheVariants.{NoRoom, Declined}
use Rattle.line.specs.Runs.{play_day}
use Rattle.callfile.specs.Kinds.{kinds_of}
use Rattle.listing.specs.Lines.{open_line, day_line, call_line}
use Rattle.listing.specs.Reports.{Saying, KindSaid}

module _ {C : Type 0} (shape : C → List ℕ) where
  -- the lines of the calls, numbered from i
  abbrev pub call_lines : ℕ → List (Call C) → List (Outcome C) → List ℕ
  call_lines i [] os = []
  call_lines i (c ∷ cs) [] = []
  call_lines i (c ∷ cs) (o ∷ os) = call_line shape i c o ++ call_lines (i + 1) cs os

  -- a day that was played, or the cause for which its house was not opened; a list of outcomes that is too short has no text
  abbrev pub played_text : {B : Type 0} → ℕ → List (Call C) → Result (State B C) (NotPlayed B) → List (Outcome C) → List ℕ
  played_text n cs (Ok s) os = day_line n (length cs) ++ call_lines 0 cs os
  played_text n cs (Err (Declined e b)) os = open_line e
  played_text n cs (Err (NoRoom b)) os = []

-- the table of messages that a day is played with: nobody reads a row before it is written
abbrev pub idle_messages : {C : Type 0} → List (Message C)
idle_messages = replicate pool_size (message (record { 0 = 0 }) (record { 0 = 0 }) Knock)

-- a list of outcomes with room for n calls: nobody reads an entry before it is written
abbrev pub no_outcomes : {C : Type 0} → ℕ → List (Outcome C)
no_outcomes n = replicate n (Ok Plain)

module _ {B C : Type 0} (shape : C → List ℕ) (size : B → ℕ) (members : B → Group → TerminalSet) (reads writes : Rule B) where
  -- the text of a day played over a book
  abbrev pub day_text : B → ℕ → Terminal → C → List (Call C) → List ℕ
  day_text b n founder first cs =
      let d = play_day size members reads writes b n founder first (replicate n (fresh first founder)) idle_messages cs (no_outcomes (length cs)) in
      played_text shape n cs d.0 d.1

-- what a listing says of a day: its text over a book that has just the day's groups
abbrev pub played : Saying
played B C G shape size members reads writes groups d file text =
    (b : B) × (groups b ≡ d.groups) × (text ≡ day_text shape size members reads writes b d.terminals d.founder d.first d.calls)

-- the listing of a file: the line of its fault, or the text of its day
abbrev pub Listing : List ℕ → List ℕ → Type 0
Listing file text = KindSaid played (kinds_of file) file text
