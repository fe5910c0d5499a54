use Rattle.std.proofs.Common.{refl}
use Rattle.books.specs.Examples.{VotesExamples}
use Rattle.books.specs.SetsExamples.{SetsExamples}

pub votes-examples : VotesExamples
votes-examples = (refl, refl, refl, refl, refl, refl, refl)

pub sets-examples : SetsExamples
sets-examples = (refl, refl, refl, refl, refl)
