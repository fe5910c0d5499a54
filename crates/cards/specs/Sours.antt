-- a sour card: a letter, and a number of two bytes
use Rattle.std.specs.Prelude.{ℕ, cond, ◌&&◌, List, [], ◌∷◌, length, Some, None, Option, ◌==◌, slice_index}
use Rattle.cards.specs.declared.sour.SourCard.{SourCard}
use Rattle.cards.specs.declared.sour.SourCard.TheVariants.{Resting, Fed, Out}
use Rattle.cards.specs.Words.{words_bytes, word_at}

-- the number of the kind in a file
abbrev pub sour_kind : ℕ
sour_kind = 2

-- the width in bytes
abbrev pub sour_width : ℕ
sour_width = 3

-- the letters R, F and O
abbrev pub letter_r : ℕ
letter_r = 82

abbrev pub letter_f : ℕ
letter_f = 70

abbrev pub letter_o : ℕ
letter_o = 79

-- resting is R and the hours, fed is F and the grams, out is O and 0
abbrev pub sour_bytes : SourCard → List ℕ
sour_bytes (Resting hours) = letter_r ∷ words_bytes (hours ∷ [])
sour_bytes (Fed grams) = letter_f ∷ words_bytes (grams ∷ [])
sour_bytes Out = letter_o ∷ words_bytes (0 ∷ [])

-- the card of a letter and a number; no other letter has one, and out has none with a number above 0
abbrev pub sour_from : (letter number : ℕ) → Option SourCard
sour_from l n = cond (l == letter_r) (Some (Resting n)) (cond (l == letter_f) (Some (Fed n)) (cond (l == letter_o && n == 0) (Some Out) None))

-- bytes are a sour card if they are as many as it is wide, and letter and number are one
abbrev pub sour_of : List ℕ → Option SourCard
sour_of xs = cond (length xs == sour_width) (sour_from (slice_index xs 0) (word_at xs 1)) None
