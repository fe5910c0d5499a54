-- An entry that is lent for reading.
use Rattle.std.specs.Prelude.{Some, None, Ok, Err, Option, Result}
use Rattle.books.specs.declared.causes.Cause.{Cause}
use Rattle.books.specs.declared.causes.Cause.TheVariants.{BadEntry}

-- it becomes the group that the bytes stand for; 25 if they have not the form of an entry, and then it stays
abbrev pub read_into : {G : Type 0} → Option G → G → Result (Unit {0}) Cause × G
read_into None e = (Err BadEntry, e)
read_into (Some g) e = (Ok tt, g)
