-- The reading and the writing of a group.
use Rattle.std.specs.Prelude.{ℕ, Bool, cond, List, Some, None, Option, Result}
use Rattle.cards.specs.declared.kind.WrongWidth.{WrongWidth}
use Rattle.cards.specs.Written.{card_written}
use Rattle.callfile.specs.Limits.{entry_width}

-- a place exactly as long as an entry gets the group's bytes; any other place stays as it is, and is refused
abbrev pub entry_written : {G : Type 0} → (entry_bytes : G → List ℕ) → G → List ℕ → Result (Unit {0}) WrongWidth × List ℕ
entry_written entry_bytes g out = card_written entry_width entry_bytes g out

-- a group, if it keeps the rule
abbrev pub ruled : {G : Type 0} → (rule : G → Bool) → Option G → Option G
ruled rule None = None
ruled rule (Some g) = cond (rule g) (Some g) None
