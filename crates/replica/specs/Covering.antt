-- What it takes to end a phase: a set of every group of the phase's chart among the terminals heard.
use Rattle.std.specs.Prelude.{Bool, true, ◌&&◌, List, [], ◌∷◌}
use Rattle.parts.specs.declared.charts.Chart.{Chart}
use Rattle.parts.specs.declared.counts.Group.{Group as GroupNumber}
use Rattle.parts.specs.declared.entries.Entry.{Entry}
use Rattle.parts.specs.declared.entries.Entry.TheVariants.{Unknown, Group, Retired}
use Rattle.parts.specs.declared.sets.TerminalSet.{TerminalSet}
use Rattle.replica.specs.declared.covering.Family.{Family}
use Rattle.replica.specs.declared.covering.Family.TheVariants.{ReadSets, WriteSets}

-- what a book answers of a group and a set
abbrev pub Answer : Type 0
Answer = GroupNumber → TerminalSet → Bool

-- the answer for a family: does the set contain a read set, or a write set?
abbrev pub sets_of : (reads writes : Answer) → Family → Answer
sets_of reads writes ReadSets = reads
sets_of reads writes WriteSets = writes

-- the terminals heard contain a set of every group among the entries
unfoldable pub covered_list : Answer → List Entry → TerminalSet → Bool
covered_list sets [] h = true
covered_list sets (Unknown ∷ es) h = covered_list sets es h
covered_list sets (Group c ∷ es) h = sets c h && covered_list sets es h
covered_list sets (Retired ∷ es) h = covered_list sets es h

-- the terminals heard contain a set of every group of the chart
abbrev pub covered : Answer → Chart → TerminalSet → Bool
covered sets a h = covered_list sets a.places h
