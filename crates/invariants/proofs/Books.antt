-- What the proof uses of a book of groups (quorum systems).
use Rattle.std.proofs.Common.{◌≡◌, ℕ, true}
use Rattle.parts.specs.declared.counts.Group.{Group as GroupNumber}
use Rattle.parts.specs.declared.sets.TerminalSet.{TerminalSet}
use Rattle.replica.specs.Covering.{Answer}
use Rattle.invariants.proofs.Sets.{holds}

-- what a book answers of a group and a set of terminals
pub record Book : Type 0 where
  -- does the set contain a read set of the group?
  pub reads : Answer
  -- does it contain a write set?
  pub writes : Answer

-- a set that contains a read set and one that contains a write set of the same group share a terminal
abbrev pub Meets : Book → Type 0
Meets B = (c : GroupNumber) (s s' : TerminalSet) → B.reads c s ≡ true → B.writes c s' ≡ true → (j : ℕ) × (holds s j ≡ true) × (holds s' j ≡ true)
