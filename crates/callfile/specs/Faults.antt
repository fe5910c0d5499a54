-- Faults, and the ways to go on from one.
use Rattle.std.specs.Prelude.{ℕ, Bool, cond, List, [], ◌∷◌, Some, None, Ok, Err, Option, Result}
use Rattle.books.specs.declared.causes.Cause.{Cause}
use Rattle.callfile.specs.declared.faults.Part.{Part}
use Rattle.callfile.specs.declared.faults.Fault.{Fault}

-- the fault of a cause, in the part that begins at byte b
abbrev pub at : Cause → Part → ℕ → Fault
at c p b = record { cause = c; part = p; byte = b }

-- the first test that holds gives the fault
abbrev pub first_of : List (Bool × Fault) → Option Fault
first_of [] = None
first_of (row ∷ rows) = cond row.0 (Some row.1) (first_of rows)

-- a fault found earlier goes first
abbrev pub or_else : Option Fault → Option Fault → Option Fault
or_else None g = g
or_else (Some f) g = Some f

-- a fault, and else the answer
abbrev pub unless : {A : Type 0} → Option Fault → Result A Fault → Result A Fault
unless None r = r
unless (Some f) r = Err f

-- done, unless there is a fault
abbrev pub ok_unless : Option Fault → Result (Unit {0}) Fault
ok_unless o = unless o (Ok tt)

-- one reading and then another, up to the first fault
abbrev pub and_then : {A B : Type 0} → Result A Fault → (A → Result B Fault) → Result B Fault
and_then (Ok a) k = k a
and_then (Err f) k = Err f

-- the fault of a reading, if there is one
abbrev pub fault_in : {A : Type 0} → Result A Fault → Option Fault
fault_in (Ok a) = None
fault_in (Err f) = Some f

-- what there is, and else the fault
abbrev pub or_fault : {A : Type 0} → Option A → Fault → Result A Fault
or_fault None f = Err f
or_fault (Some a) f = Ok a
