-- Worked examples of groups of listed sets.
use Rattle.std.specs.Prelude.{◌≡◌, true, false, [], ◌∷◌, Ok, Err}
use Rattle.parts.specs.declared.sets.TerminalSet.{TerminalSet}
use Rattle.parts.specs.Sets.{nobody, with_one, only}
use Rattle.books.specs.declared.causes.Cause.TheVariants.{BadEntry}
use Rattle.books.specs.declared.sets.SetsGroup.{SetsGroup}
use Rattle.books.specs.Causes.{cause_number}
use Rattle.books.specs.Examples.{pair}
use Rattle.books.specs.Sets.{sound}
use Rattle.books.specs.Tables.{add_step}

-- members 0, 1 and 2, read sets {0, 1} and {2}, and one write set
abbrev pub listing : TerminalSet → SetsGroup
listing w = record {
  members = with_one (pair 0 1) (record { 0 = 2 });
  reads = pair 0 1 ∷ only (record { 0 = 2 }) ∷ nobody ∷ nobody ∷ [];
  writes = w ∷ nobody ∷ nobody ∷ nobody ∷ [];
}

-- Read sets {0, 1} and {2} go with write set {0, 2}. They do not go with write set {1}, and such a group is declined by 25.
abbrev pub SetsExamples : Type 0
SetsExamples =
    (sound (listing (pair 0 2)) ≡ true)
    × (add_step sound (listing (pair 0 2)) [] ≡ (Ok tt, listing (pair 0 2) ∷ []))
    × (sound (listing (only (record { 0 = 1 }))) ≡ false)
    × (add_step sound (listing (only (record { 0 = 1 }))) [] ≡ (Err BadEntry, []))
    × (cause_number BadEntry ≡ 25)
