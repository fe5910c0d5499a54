-- A call file that is read and written again.
use Rattle.std.specs.Prelude.{◌≡◌, ℕ, List, ◌++◌, length, Some, None, Ok, Err, codes, decimal, Option, Result}
use Rattle.cards.specs.Sheets.{sheet_kind, sheet_width, sheet_of}
use Rattle.cards.specs.Sours.{sour_kind, sour_width, sour_of}
use Rattle.callfile.specs.Sets.{sets_kind, sets_of}
use Rattle.callfile.specs.Votes.{votes_kind, votes_of}
use Rattle.callfile.specs.declared.faults.Fault.{Fault}
use Rattle.callfile.specs.declared.kinds.BookSort.{BookSort}
use Rattle.callfile.specs.declared.kinds.BookSort.TheVariants.{Votes, Sets}
use Rattle.callfile.specs.declared.kinds.CardSort.{CardSort}
use Rattle.callfile.specs.declared.kinds.CardSort.TheVariants.{Sheet, Sour}
use Rattle.callfile.specs.Days.{Day}
use Rattle.callfile.specs.Kinds.{kinds_of}
use Rattle.callfile.specs.Reading.{day_of}
use Rattle.listing.specs.Lines.{fault_line}
use Rattle.listing.specs.Reports.{Saying}

-- the line of a file that was written again as the same bytes: same BYTES
abbrev pub same_line : ℕ → List ℕ
same_line n = codes "same " ++ (decimal n ++ codes "\n")

-- the line of a file that was written again: same BYTES where its bytes, so many, were the same, or not the same
abbrev pub copy_line : Option ℕ → List ℕ
copy_line (Some n) = same_line n
copy_line None = codes "not the same\n"

-- what a rewriting says of a day: that its file was written again as the same bytes
abbrev pub rewritten : Saying
rewritten B C G shape size members reads writes groups d file text = text ≡ same_line (length file)

-- what is said of a file of so many bytes: the line of its fault, or that it was written again as the same bytes
abbrev pub said : {C G : Type 0} → Result (Day C G) Fault → ℕ → List ℕ
said (Err f) n = fault_line f
said (Ok d) n = same_line n

-- the same of any file, by the kinds that it names
abbrev pub kind_said : Result (CardSort × BookSort) Fault → List ℕ → List ℕ
kind_said (Err f) file = fault_line f
kind_said (Ok (Sheet, Votes)) file = said (day_of sheet_width sheet_of votes_of sheet_kind votes_kind file) (length file)
kind_said (Ok (Sour, Votes)) file = said (day_of sour_width sour_of votes_of sour_kind votes_kind file) (length file)
kind_said (Ok (Sheet, Sets)) file = said (day_of sheet_width sheet_of sets_of sheet_kind sets_kind file) (length file)
kind_said (Ok (Sour, Sets)) file = said (day_of sour_width sour_of sets_of sour_kind sets_kind file) (length file)

abbrev pub rewriting : List ℕ → List ℕ
rewriting file = kind_said (kinds_of file) file
