use Rattle.std.proofs.Common.{◌∙◌, rules}
use Rattle.std.proofs.lemmas.Iterator.{YieldsList-from_slice}
use Rattle.std.proofs.lemmas.Iterator.Search.{any_from_yields_List}
use borrow.Author.Tests.{tests}
use Rattle.books.specs.Sets.{there}
use Rattle.books.proofs.Slots.{any-filtered}
use Rattle.books.proofs.sets.list_some.Goals as goal

pub returns : goal.returns
returns c =
    let xs = c.args.slots.now in
    any_from_yields_List there _ _ c.any.result c.any.ensures.ran (YieldsList-from_slice xs cc) (λ x b q k. search (rules, tests)) ∙ any-filtered there xs
