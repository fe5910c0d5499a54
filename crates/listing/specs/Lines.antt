-- The lines of a listing, as bytes.
use Rattle.std.specs.Prelude.{ℕ, ◌+◌, ◌/◌, ◌%◌, cond, List, [], ◌∷◌, ◌++◌, Ok, Err, codes, decimal, nat_lt}
use Rattle.parts.specs.declared.calls.Call.{Call}
use Rattle.parts.specs.declared.stamps.Stamp.{Stamp}
use Rattle.books.specs.Causes.{cause_number}
use Rattle.replica.specs.declared.refusals.Refusal.{Refusal}
use Rattle.replica.specs.Refusals.{refusal_number}
use Rattle.house.specs.declared.calling.Answer.TheVariants.{Plain, Settled, Collected}
use Rattle.house.specs.Calls.{Outcome}
use Rattle.callfile.specs.declared.faults.Fault.{Fault}
use Rattle.callfile.specs.Letters.{spelling_of}

-- the line of a file that cannot be read: file no NUMBER at BYTE
abbrev pub fault_line : Fault → List ℕ
fault_line f = codes "file no " ++ (decimal (cause_number f.cause) ++ (codes " at " ++ (decimal f.byte ++ codes "\n")))

-- the line of a house that is not opened: open no NUMBER
abbrev pub open_line : Refusal → List ℕ
open_line e = codes "open no " ++ (decimal (refusal_number e) ++ codes "\n")

-- the first line of a day: day TERMINALS CALLS
abbrev pub day_line : (terminals calls : ℕ) → List ℕ
day_line n k = codes "day " ++ (decimal n ++ (codes " " ++ (decimal k ++ codes "\n")))

-- a hexadecimal digit, A to F for ten to fifteen
abbrev pub hex_digit : ℕ → ℕ
hex_digit n = cond (nat_lt n 10) (48 + n) (55 + n)

-- two hexadecimal digits for each byte
abbrev pub hex_text : List ℕ → List ℕ
hex_text [] = []
hex_text (b ∷ bs) = hex_digit (b / 16) ∷ hex_digit (b % 16) ∷ hex_text bs

-- an accepted call that answers a stamp: ok COUNT.TERMINAL
abbrev pub stamp_text : Stamp → List ℕ
stamp_text st = codes "ok " ++ (decimal st.count ++ (codes "." ++ decimal st.terminal.0))

module _ {C : Type 0} where
  -- the letter of a call
  abbrev pub letter_text : Call C → List ℕ
  letter_text c = (spelling_of c).0 ∷ []

  -- what a call came to: no NUMBER, ok, ok with a stamp, or ok with a stamp and the bytes of the card
  abbrev pub outcome_text : (C → List ℕ) → Outcome C → List ℕ
  outcome_text shape (Err e) = codes "no " ++ decimal (refusal_number e)
  outcome_text shape (Ok Plain) = codes "ok"
  outcome_text shape (Ok (Settled st)) = stamp_text st
  outcome_text shape (Ok (Collected pair)) = stamp_text pair.1 ++ (codes " " ++ hex_text (shape pair.0))

  -- the line of a call: its number, its letter, and what it came to
  abbrev pub call_line : (C → List ℕ) → ℕ → Call C → Outcome C → List ℕ
  call_line shape i c o = (decimal i ++ (codes " " ++ (letter_text c ++ codes " "))) ++ (outcome_text shape o ++ codes "\n")
