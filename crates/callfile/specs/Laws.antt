-- The two round trips: a file reads as a day exactly if it is the file of that day.
use Rattle.std.specs.Prelude.{◌≡◌, ℕ, ◌<◌, ◌≤◌, Bool, true, List, length, Ok, Option}
use Rattle.std.specs.List.{AllByRecursion}
use Rattle.parts.specs.Limits.{terminals}
use Rattle.books.specs.Books.{table_groups}
use Rattle.callfile.specs.Limits.{longest}
use Rattle.callfile.specs.Days.{Day}
use Rattle.callfile.specs.Letters.{narrow}
use Rattle.callfile.specs.Format.{render}
use Rattle.callfile.specs.Reading.{day_of}

module _ {C G : Type 0} (card_kind book_kind span : ℕ) (card_bytes : C → List ℕ) (entry_bytes : G → List ℕ) (keeps : G → Bool) where
  -- a day that has a file
  pub record Valid (d : Day C G) : Type 0 where
    pub some : 1 ≤ d.terminals
    pub few : d.terminals ≤ terminals
    pub founded : d.founder.0 < d.terminals
    pub some-groups : 1 ≤ length d.groups
    pub few-groups : length d.groups ≤ table_groups
    pub kept : AllByRecursion (λ g. keeps g ≡ true) d.groups
    pub small : AllByRecursion (λ c. narrow c ≡ true) d.calls
    pub short : length (render card_kind book_kind span card_bytes entry_bytes d) ≤ longest

  module _ (card_of : List ℕ → Option C) (entry_of : List ℕ → Option G) where
    -- every day that has a file reads back from it
    abbrev pub ReadsBack : Type 0
    ReadsBack = (d : Day C G) → Valid d → day_of span card_of entry_of card_kind book_kind (render card_kind book_kind span card_bytes entry_bytes d) ≡ Ok d

    -- bytes that read as a day are the file of that day
    abbrev pub WritesBack : List ℕ → Type 0
    WritesBack xs =
        (d : Day C G) → day_of span card_of entry_of card_kind book_kind xs ≡ Ok d → Valid d × (render card_kind book_kind span card_bytes entry_bytes d ≡ xs)
