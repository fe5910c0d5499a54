-- The numbers of what is wrong with a file or an entry.
use Rattle.std.specs.Prelude.{ℕ}
use Rattle.books.specs.declared.causes.Cause.{Cause}
use Rattle.books.specs.declared.causes.Cause.TheVariants.{Size, Kind, Limit, Offset, BadEntry, BadCard, BadCall, NoRoom}

abbrev pub cause_number : Cause → ℕ
-- a file that is too short or too long
cause_number Size = 21
-- a kind of card or of book that is unknown
cause_number Kind = 22
-- a count beyond its limit
cause_number Limit = 23
-- a part that does not begin where it should
cause_number Offset = 24
-- a group that breaks its rule
cause_number BadEntry = 25
-- bytes that are no card
cause_number BadCard = 26
-- a call that is cut off, unknown or has an unused byte that is not 0; bytes behind the last call
cause_number BadCall = 27
-- the caller's list or buffer is too short
cause_number NoRoom = 28
