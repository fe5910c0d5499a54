-- What a reading leaves in the caller's book and list.
use Rattle.std.specs.Prelude.{cond, List, [], ◌++◌, length, drop, Ok, Err, Result, nat_lt}
use Rattle.parts.specs.declared.calls.Call.{Call}
use Rattle.books.specs.declared.causes.Cause.TheVariants.{NoRoom}
use Rattle.callfile.specs.declared.faults.Fault.{Fault}
use Rattle.callfile.specs.declared.faults.Part.TheVariants.{File}
use Rattle.callfile.specs.declared.summary.Summary.{Summary}
use Rattle.callfile.specs.Faults.{at}
use Rattle.callfile.specs.Days.{Day, summary}

-- what was read, and nothing where a fault was
abbrev pub gained : {A : Type 0} → Result (List A) Fault → List A
gained (Ok xs) = xs
gained (Err f) = []

-- xs in the front places, and the others as they were
abbrev pub laid : {A : Type 0} → List A → List A → List A
laid xs old = xs ++ drop (length xs) old

-- A reading answers the day in few words, the book's groups become the day's, and its calls go into the front of the list.
-- With a fault in the file, and then with a list that is too short (28), book and list stay as they were.
abbrev pub placed : {C G : Type 0} → Result (Day C G) Fault → List G → List (Call C) → Result (Summary C) Fault × List G × List (Call C)
placed (Err f) groups list = (Err f, groups, list)
placed (Ok d) groups list =
    cond (nat_lt (length list) (length d.calls)) (Err (at NoRoom File 0), groups, list) (Ok (summary d), d.groups, laid d.calls list)
