-- What a split call says that borrows from the file, with the reference read.
use Rattle.std.specs.Prelude.{Some, None, Option}
use Rattle.callfile.specs.declared.letters.SplitCall.{SplitCall}
use Rattle.callfile.specs.declared.letters.SplitCall.TheVariants.{Short, Long}
use Rattle.callfile.specs.Letters.{Parts, short, long}

abbrev pub seen : Option SplitCall → Option Parts
seen None = None
seen (Some (Short l x y)) = Some (short l x y)
seen (Some (Long l x y card)) = Some (long l x y card.now)
