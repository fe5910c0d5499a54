-- The causes for which a call is declined.
use Rattle.std.specs.Prelude.{ℕ}
use Rattle.replica.specs.declared.refusals.Refusal.{Refusal}
use Rattle.replica.specs.declared.refusals.Refusal.TheVariants.{NoTerminal, Crashed, WrongStatus, UnderWay, WrongPhase, SetMissing, WrongReceiver, PoolFull, NoMessage, NumbersEnd, CountsEnd, NotInBook, AlreadyListed, ListFull, NeverActive, WrongPlace, AlreadyRetired, WrongTables, NoFounder, NotFounderAlone}

-- the number of each cause
abbrev pub refusal_number : Refusal → ℕ
refusal_number NoTerminal = 1
refusal_number Crashed = 2
refusal_number WrongStatus = 3
refusal_number UnderWay = 4
refusal_number WrongPhase = 5
refusal_number SetMissing = 6
refusal_number WrongReceiver = 7
refusal_number PoolFull = 8
refusal_number NoMessage = 9
refusal_number NumbersEnd = 10
refusal_number CountsEnd = 11
refusal_number NotInBook = 12
refusal_number AlreadyListed = 13
refusal_number ListFull = 14
refusal_number NeverActive = 15
refusal_number WrongPlace = 16
refusal_number AlreadyRetired = 17
refusal_number WrongTables = 18
refusal_number NoFounder = 19
refusal_number NotFounderAlone = 20
