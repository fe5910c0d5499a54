-- numbers of two bytes, low byte first
use Rattle.std.specs.Prelude.{ℕ, ◌+◌, ◌*◌, ◌/◌, ◌%◌, ◌<◌, List, [], ◌∷◌, slice_index}
use Rattle.std.specs.List.{AllByRecursion}

-- the low byte of a number
abbrev pub low : ℕ → ℕ
low n = n % 256

-- the high byte of a number of two bytes
abbrev pub high : ℕ → ℕ
high n = n / 256

-- numbers as bytes, one behind the other
abbrev pub words_bytes : List ℕ → List ℕ
words_bytes [] = []
words_bytes (n ∷ ns) = low n ∷ high n ∷ words_bytes ns

-- the number whose low byte stands at place k; past the end bytes count as 0
abbrev pub word_at : List ℕ → ℕ → ℕ
word_at xs k = slice_index xs k + 256 * slice_index xs (k + 1)

-- each number is a byte
abbrev pub Bytes : List ℕ → Type 0
Bytes xs = AllByRecursion (λ x. x < 256) xs
