-- Worked examples of the definitions, as one table.
use Rattle.std.specs.Prelude.{◌≡◌, ℕ, true, [], ◌∷◌}
use Rattle.parts.specs.declared.counts.Terminal.{Terminal}
use Rattle.parts.specs.declared.entries.Entry.{Entry}
use Rattle.parts.specs.declared.entries.Entry.TheVariants.{Unknown, Group, Retired}
use Rattle.parts.specs.Charts.{chart_of, first_chart, join, cut, extend, gap}
use Rattle.parts.specs.Stamps.{below}
use Rattle.books.specs.Examples.{VotesExamples}
use Rattle.books.specs.SetsExamples.{SetsExamples}
use Rattle.replica.specs.declared.operations.Phase.{Phase}
use Rattle.replica.specs.Numbers.{phase_number}
use Rattle.replica.specs.Operating.{new_phase}
use Rattle.replica.specs.Receiving.{hearing, not_recent, counted}
use Rattle.replica.specs.Replicas.{stamp_of}

-- terminal t, and group c as the entry of a chart
abbrev terminal : ℕ → Terminal
terminal t = record { 0 = t }

abbrev group : ℕ → Entry
group c = Group (record { 0 = c })

-- a phase with number 3 over the first chart
abbrev third : Phase
third = new_phase 3 first_chart

pub record Examples : Type 0 where
  -- (1, 9) is below (2, 1), and (2, 1) below (2, 3)
  pub by_count : below (stamp_of 1 (terminal 9)) (stamp_of 2 (terminal 1)) ≡ true
  pub by-terminal : below (stamp_of 2 (terminal 1)) (stamp_of 2 (terminal 3)) ≡ true
  -- joining retired, 4, unknown with 0, 4, 7 gives retired, 4, 7
  pub joining :
      join (chart_of (Retired ∷ group 4 ∷ Unknown ∷ [])) (chart_of (group 0 ∷ group 4 ∷ group 7 ∷ [])) ≡ chart_of (Retired ∷ group 4 ∷ group 7 ∷ [])
  -- cutting retired, 4, unknown, 7 gives retired, 4, unknown, unknown
  pub cutting : cut (chart_of (Retired ∷ group 4 ∷ Unknown ∷ group 7 ∷ [])) ≡ chart_of (Retired ∷ group 4 ∷ Unknown ∷ Unknown ∷ [])
  -- extending 0, unknown, unknown by retired, retired, 5 makes a gap
  pub extending : gap (extend (chart_of (group 0 ∷ Unknown ∷ Unknown ∷ [])) (chart_of (Retired ∷ Retired ∷ group 5 ∷ []))) ≡ true
  -- votes 2, 1, 1 with r 2 and w 3: terminals 1 and 2 read but do not write, 0 and 1 write; votes 1, 1, 1 with r 1 and w 2 break the rule
  pub votes : VotesExamples
  -- read sets {0, 1} and {2} go with write set {0, 2}, and not with write set {1}
  pub sets : SetsExamples
  -- a pnr equal to the phase's number counts; one less does not
  pub recent : hearing (phase_number 3) first_chart third ≡ counted
  pub late : hearing (phase_number 2) first_chart third ≡ not_recent
