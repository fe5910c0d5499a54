-- The kinds of card and of book that a file names.
use Rattle.std.specs.Prelude.{ℕ, cond, List, Some, None, Ok, Err, Option, Result, ◌==◌, slice_index}
use Rattle.cards.specs.Sheets.{sheet_kind}
use Rattle.cards.specs.Sours.{sour_kind}
use Rattle.books.specs.declared.causes.Cause.TheVariants.{Kind}
use Rattle.callfile.specs.declared.faults.Fault.{Fault}
use Rattle.callfile.specs.declared.faults.Part.TheVariants.{Field}
use Rattle.callfile.specs.declared.kinds.CardSort.{CardSort}
use Rattle.callfile.specs.declared.kinds.CardSort.TheVariants.{Sheet, Sour}
use Rattle.callfile.specs.declared.kinds.BookSort.{BookSort}
use Rattle.callfile.specs.declared.kinds.BookSort.TheVariants.{Votes, Sets}
use Rattle.callfile.specs.declared.kinds.UnknownKind.{UnknownKind}
use Rattle.callfile.specs.Limits.{card_kind_at, book_kind_at}
use Rattle.callfile.specs.Faults.{at, unless, and_then, or_fault}
use Rattle.callfile.specs.Reading.{size_fault}
use Rattle.callfile.specs.Sets.{sets_kind}
use Rattle.callfile.specs.Votes.{votes_kind}

-- the kind of card with this number
abbrev pub card_sort : ℕ → Option CardSort
card_sort k = cond (k == sheet_kind) (Some Sheet) (cond (k == sour_kind) (Some Sour) None)

-- the kind of book with this number
abbrev pub book_sort : ℕ → Option BookSort
book_sort b = cond (b == votes_kind) (Some Votes) (cond (b == sets_kind) (Some Sets) None)

-- a kind, or the number that no kind has
abbrev pub or_unknown : {A : Type 0} → Option A → ℕ → Result A UnknownKind
or_unknown (Some a) k = Ok a
or_unknown None k = Err (record { 0 = k })

-- the kinds that a file names: 21, then 22 for an unknown kind of card, then 22 for an unknown kind of book
abbrev pub kinds_of : List ℕ → Result (CardSort × BookSort) Fault
kinds_of xs =
    unless (size_fault xs)
    (and_then (or_fault (card_sort (slice_index xs card_kind_at)) (at Kind Field card_kind_at))
    (λ k. and_then (or_fault (book_sort (slice_index xs book_kind_at)) (at Kind Field book_kind_at))
    (λ b. Ok (k, b))))
