-- What a writing gives: the number of bytes, or the first fault, and the buffer.
use Rattle.std.specs.Prelude.{ℕ, ◌+◌, cond, List, [], ◌∷◌, length, Some, None, Ok, Err, Option, Result, nat_lt}
use Rattle.std.specs.List.{flat_map}
use Rattle.parts.specs.declared.counts.Terminal.{Terminal}
use Rattle.parts.specs.declared.calls.Call.{Call}
use Rattle.books.specs.declared.causes.Cause.TheVariants.{Size, BadCall, NoRoom}
use Rattle.callfile.specs.declared.faults.Fault.{Fault}
use Rattle.callfile.specs.declared.faults.Part.TheVariants.{File, Call as CallPart}
use Rattle.callfile.specs.Limits.{longest, card_from}
use Rattle.callfile.specs.Faults.{at, first_of, or_else}
use Rattle.callfile.specs.Days.{Day}
use Rattle.callfile.specs.Letters.{spelling_of, narrow, size_of}
use Rattle.callfile.specs.Format.{call_bytes, render}
use Rattle.callfile.specs.Reading.{limit_fault}
use Rattle.callfile.specs.Filling.{laid}

-- the letter and the two numbers of a call as bytes
abbrev pub front_of : {C : Type 0} → Call C → List ℕ
front_of c = (spelling_of c).0 ∷ (spelling_of c).1 ∷ (spelling_of c).2 ∷ []

-- 27: the first call with a number that is too large for a byte; the calls begin at byte b
abbrev pub wide_fault : {C : Type 0} → (span b : ℕ) → List (Call C) → Option Fault
wide_fault span b [] = None
wide_fault span b (c ∷ cs) = cond (narrow c) (wide_fault span (b + size_of span c) cs) (Some (at BadCall CallPart b))

-- a length that a file can have
abbrev pub fitting : ℕ → Option ℕ
fitting n = cond (nat_lt longest n) None (Some n)

-- the length of a file with so many groups and these calls
abbrev pub total_of : {C : Type 0} → (span : ℕ) (card_bytes : C → List ℕ) → (groups : ℕ) → List (Call C) → ℕ
total_of span card_bytes g cs = card_from g + span + length (flat_map (call_bytes card_bytes) cs)

-- the day with these parts
abbrev pub day_with : {C G : Type 0} → (n : ℕ) → Terminal → List G → C → List (Call C) → Day C G
day_with n f gs c cs = record { terminals = n; founder = f; groups = gs; first = c; calls = cs }

-- the first fault of writing a file of `total` bytes into `room`: 21 if it is too long, 23, 27, and 28 if the room is too small
abbrev pub write_faults : {C : Type 0} → (span total n founder groups : ℕ) → List (Call C) → (room : ℕ) → Option Fault
write_faults span total n f g cs room =
    or_else (first_of ((nat_lt longest total, at Size File 0) ∷ []))
    (or_else (limit_fault n f g)
    (or_else (wide_fault span (card_from g + span) cs)
    (first_of ((nat_lt room total, at NoRoom File 0) ∷ []))))

module _ {C G : Type 0} (card_kind book_kind span : ℕ) (card_bytes : C → List ℕ) (entry_bytes : G → List ℕ) where
  -- the first fault of writing a day into so much room
  abbrev pub write_fault : Day C G → (room : ℕ) → Option Fault
  write_fault d room =
      write_faults span (length (render card_kind book_kind span card_bytes entry_bytes d)) d.terminals d.founder.0 (length d.groups) d.calls room

  -- with a fault the buffer stays as it is; else the file stands in its front, and further bytes stay
  abbrev pub outcome : Option Fault → Day C G → List ℕ → Result ℕ Fault × List ℕ
  outcome (Some f) d out = (Err f, out)
  outcome None d out = (
    Ok (length (render card_kind book_kind span card_bytes entry_bytes d)),
    laid (render card_kind book_kind span card_bytes entry_bytes d) out,
  )

  -- what writing a day into a buffer answers, and what it leaves there
  abbrev pub written : Day C G → List ℕ → Result ℕ Fault × List ℕ
  written d out = outcome (write_fault d (length out)) d out
