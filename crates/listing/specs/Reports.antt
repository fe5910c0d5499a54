-- What is said of a call file, whatever is said of a day.
use Rattle.std.specs.Prelude.{◌≡◌, ℕ, List, length, Ok, Err, Option, Result}
use Rattle.parts.specs.declared.calls.Call.{Call}
use Rattle.parts.specs.declared.counts.Group.{Group}
use Rattle.parts.specs.declared.sets.TerminalSet.{TerminalSet}
use Rattle.cards.specs.Sheets.{sheet_kind, sheet_width, sheet_bytes, sheet_of}
use Rattle.cards.specs.Sours.{sour_kind, sour_width, sour_bytes, sour_of}
use Rattle.books.specs.declared.rules.GroupRule.{Ghosts}
use Rattle.books.specs.declared.table.Table.{Table}
use Rattle.books.specs.Rules.{votes_rule, sets_rule}
use Rattle.books.specs.Tables.{booked, group_at, members_in, in_group}
use Rattle.house.specs.Steps.{Rule}
use Rattle.callfile.specs.declared.faults.Fault.{Fault}
use Rattle.callfile.specs.declared.kinds.BookSort.{BookSort}
use Rattle.callfile.specs.declared.kinds.BookSort.TheVariants.{Votes, Sets}
use Rattle.callfile.specs.declared.kinds.CardSort.{CardSort}
use Rattle.callfile.specs.declared.kinds.CardSort.TheVariants.{Sheet, Sour}
use Rattle.callfile.specs.declared.summary.Summary.{Summary}
use Rattle.callfile.specs.Days.{Day}
use Rattle.callfile.specs.Reading.{day_of}
use Rattle.callfile.specs.Sets.{sets_kind, sets_of}
use Rattle.callfile.specs.Votes.{votes_kind, votes_of}
use Rattle.callfile.specs.Writing.{day_with}
use Rattle.listing.specs.Lines.{fault_line}

-- the day with this summary, these groups and these calls
abbrev pub day_from : {C G : Type 0} → Summary C → List G → List (Call C) → Day C G
day_from sum gs cs = day_with sum.founding.terminals sum.founding.founder gs sum.founding.first cs

-- whether a text is what is to be said of a day and its file, for a kind of card by its bytes and a kind of book by what it answers and its groups
abbrev pub Saying : Type 1
Saying =
    (B C G : Type 0) → (shape : C → List ℕ) (size : B → ℕ) (members : B → Group → TerminalSet) (reads writes : Rule B) (groups : B → List G) → Day C G → (file text : List ℕ) → Type 0

module _ (says : Saying) where
  -- of a file at fault the line of its fault is said, and of any other what is said of its day
  abbrev pub FileSaid :
      {B C G : Type 0} → (shape : C → List ℕ) (size : B → ℕ) (members : B → Group → TerminalSet) (reads writes : Rule B) (groups : B → List G) → Result (Day C G) Fault → (file text : List ℕ) → Type 0
  FileSaid shape size members reads writes groups (Err f) file text = text ≡ fault_line f
  FileSaid shape size members reads writes groups (Ok d) file text = says _ _ _ shape size members reads writes groups d file text

  -- the same with a book of one kind, by its rule, its entries and its number, for a kind of card by its width, bytes, reading and number
  abbrev pub BookSaid :
      {G C : Type 0} → (rule : Ghosts G) (entry_of : List ℕ → Option G) (book : ℕ) → (span : ℕ) (shape : C → List ℕ) (parse : List ℕ → Option C) (kind : ℕ) → (file text : List ℕ) → Type 0
  BookSaid {G = G} rule entry_of book span shape parse kind file text =
      FileSaid {B = Table G rule} shape (λ b. length (booked b)) (λ b c. members_in rule.members_of (group_at b c)) (λ b c s. in_group rule.reads (group_at b c) s)
      (λ b c s. in_group rule.writes (group_at b c) s) booked
      (day_of span parse entry_of kind book file) file text

  -- the same with a votes book, and with a sets book
  abbrev pub VotesSaid : {C : Type 0} → (span : ℕ) (shape : C → List ℕ) (parse : List ℕ → Option C) (kind : ℕ) → (file text : List ℕ) → Type 0
  VotesSaid = BookSaid votes_rule votes_of votes_kind

  abbrev pub SetsSaid : {C : Type 0} → (span : ℕ) (shape : C → List ℕ) (parse : List ℕ → Option C) (kind : ℕ) → (file text : List ℕ) → Type 0
  SetsSaid = BookSaid sets_rule sets_of sets_kind

  -- the same of any file, by the kinds that it names
  abbrev pub KindSaid : Result (CardSort × BookSort) Fault → (file text : List ℕ) → Type 0
  KindSaid (Err f) file text = text ≡ fault_line f
  KindSaid (Ok (Sheet, Votes)) file text = VotesSaid sheet_width sheet_bytes sheet_of sheet_kind file text
  KindSaid (Ok (Sour, Votes)) file text = VotesSaid sour_width sour_bytes sour_of sour_kind file text
  KindSaid (Ok (Sheet, Sets)) file text = SetsSaid sheet_width sheet_bytes sheet_of sheet_kind file text
  KindSaid (Ok (Sour, Sets)) file text = SetsSaid sour_width sour_bytes sour_of sour_kind file text
