-- A day that is written again.
use Rattle.std.proofs.Common.{◌≡◌, ℕ, Bool, List, length, replicate, Ok, Err, Option, Result, sym, ap, ◌∙◌}
use lib.ListN.{length-replicate}
use Rattle.parts.specs.declared.counts.Group.{Group}
use Rattle.parts.specs.declared.sets.TerminalSet.{TerminalSet}
use Rattle.cards.specs.Sheets.{sheet_kind, sheet_width, sheet_bytes, sheet_of}
use Rattle.cards.specs.Sours.{sour_kind, sour_width, sour_bytes, sour_of}
use Rattle.books.specs.declared.rules.GroupRule.{Ghosts}
use Rattle.books.specs.declared.table.Table.{Table}
use Rattle.books.specs.Rules.{votes_rule, sets_rule}
use Rattle.books.specs.Tables.{booked, group_at, members_in, in_group}
use Rattle.house.specs.Steps.{Rule}
use Rattle.callfile.specs.declared.faults.Fault.{Fault}
use Rattle.callfile.specs.declared.kinds.BookSort.{BookSort}
use Rattle.callfile.specs.declared.kinds.BookSort.TheVariants.{Votes, Sets}
use Rattle.callfile.specs.declared.kinds.CardSort.{CardSort}
use Rattle.callfile.specs.declared.kinds.CardSort.TheVariants.{Sheet, Sour}
use Rattle.callfile.specs.Days.{Day}
use Rattle.callfile.specs.Format.{render}
use Rattle.callfile.specs.Laws.{Valid}
use Rattle.callfile.specs.Reading.{day_of}
use Rattle.callfile.specs.Sets.{sets_kind, sets_of}
use Rattle.callfile.specs.Votes.{votes_kind, votes_of}
use Rattle.callfile.specs.Writing.{written}
use Rattle.callfile.proofs.Copies.{writes_again}
use Rattle.listing.specs.Reports.{FileSaid, BookSaid, KindSaid}
use Rattle.listing.specs.Rewriting.{rewritten, said, kind_said}

-- the file of a day, written into a place of its length, is there as it was
pub again : {C G : Type 0} (k b span : ℕ) (card_bytes : C → List ℕ) (entry_bytes : G → List ℕ) (keeps : G → Bool) (d : Day C G) (xs : List ℕ) →
    Valid k b span card_bytes entry_bytes keeps d × (render k b span card_bytes entry_bytes d ≡ xs) →
    written k b span card_bytes entry_bytes d (replicate (length xs) 0) ≡ (Ok (length xs), xs)
again k b span card_bytes entry_bytes keeps d xs v =
    writes_again k b span card_bytes entry_bytes keeps d v.0 (replicate (length xs) 0) (length-replicate (length xs) 0 ∙ sym (ap length v.1))
    ∙ ap (λ (ys : List ℕ). (Ok (length ys), ys)) v.1

-- what is said of a file is one line, whatever the kinds of card and of book
module _ (file text : List ℕ) where
  file_said :
      {B C G : Type 0} (shape : C → List ℕ) (size : B → ℕ) (members : B → Group → TerminalSet) (reads writes : Rule B) (groups : B → List G) (r : Result (Day C G) Fault) →
      FileSaid rewritten shape size members reads writes groups r file text → text ≡ said r (length file)
  file_said shape size members reads writes groups (Err f) e = e
  file_said shape size members reads writes groups (Ok d) e = e

  book_said : {C G : Type 0} (rule : Ghosts G) (entry_of : List ℕ → Option G) (book span : ℕ) (shape : C → List ℕ) (parse : List ℕ → Option C) (kind : ℕ) →
      BookSaid rewritten rule entry_of book span shape parse kind file text → text ≡ said (day_of span parse entry_of kind book file) (length file)
  book_said {G = G} rule entry_of book span shape parse kind e =
      file_said {B = Table G rule} shape (λ b. length (booked b)) (λ b c. members_in rule.members_of (group_at b c)) (λ b c s. in_group rule.reads (group_at b c) s)
      (λ b c s. in_group rule.writes (group_at b c) s) booked (day_of span parse entry_of kind book file) e

  pub kinds_said : (k : Result (CardSort × BookSort) Fault) → KindSaid rewritten k file text → text ≡ kind_said k file
  kinds_said (Err f) e = e
  kinds_said (Ok (Sheet, Votes)) e = book_said votes_rule votes_of votes_kind sheet_width sheet_bytes sheet_of sheet_kind e
  kinds_said (Ok (Sour, Votes)) e = book_said votes_rule votes_of votes_kind sour_width sour_bytes sour_of sour_kind e
  kinds_said (Ok (Sheet, Sets)) e = book_said sets_rule sets_of sets_kind sheet_width sheet_bytes sheet_of sheet_kind e
  kinds_said (Ok (Sour, Sets)) e = book_said sets_rule sets_of sets_kind sour_width sour_bytes sour_of sour_kind e
