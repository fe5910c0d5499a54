-- a sheet: seven numbers of two bytes, in parts per 10,000 of flour
use Rattle.std.specs.Prelude.{ℕ, cond, ◌&&◌, List, [], ◌∷◌, length, Some, None, Option, ◌==◌}
use Rattle.cards.specs.declared.sheet.Sheet.{Sheet}
use Rattle.cards.specs.Words.{words_bytes, word_at}

-- the number of the kind in a file
abbrev pub sheet_kind : ℕ
sheet_kind = 1

-- the width in bytes
abbrev pub sheet_width : ℕ
sheet_width = 14

-- the parts of flour in every sheet
abbrev pub flour : ℕ
flour = 10000

-- a sheet is written as flour, water, salt, leaven, fat, sugar and what else is in it
abbrev pub sheet_bytes : Sheet → List ℕ
sheet_bytes s = words_bytes (flour ∷ s.water ∷ s.salt ∷ s.leaven ∷ s.fat ∷ s.sugar ∷ s.other ∷ [])

-- bytes are a sheet if they are as many as a sheet is wide, and the first number is flour
abbrev pub sheet_of : List ℕ → Option Sheet
sheet_of xs =
    cond (length xs == sheet_width && word_at xs 0 == flour)
    (Some (record { water = word_at xs 2; salt = word_at xs 4; leaven = word_at xs 6; fat = word_at xs 8; sugar = word_at xs 10; other = word_at xs 12 }))
    None
