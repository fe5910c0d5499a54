-- what writing answers, and what it leaves in the place written to
use Rattle.std.specs.Prelude.{ℕ, cond, List, length, Ok, Err, Result, ◌==◌}
use Rattle.cards.specs.declared.kind.WrongWidth.{WrongWidth}

-- the one refusal
abbrev pub wrong_width : WrongWidth
wrong_width = record {}

-- a place exactly as long as the bytes gets them; any other place stays as it is, and is refused
abbrev pub filled : List ℕ → List ℕ → Result (Unit {0}) WrongWidth × List ℕ
filled bytes out = cond (length out == length bytes) (Ok tt, bytes) (Err wrong_width, out)

-- a place exactly as long as the card is wide gets the card's bytes; any other place stays as it is, and is refused
abbrev pub card_written : {C : Type 0} → (width : ℕ) (shape : C → List ℕ) → C → List ℕ → Result (Unit {0}) WrongWidth × List ℕ
card_written width shape c out = cond (length out == width) (Ok tt, shape c) (Err wrong_width, out)
