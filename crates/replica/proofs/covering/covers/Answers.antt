use Rattle.std.proofs.Common.{◌∙◌, rules}
use Rattle.std.proofs.lemmas.Iterator.{YieldsList-from_slice}
use Rattle.std.proofs.lemmas.Iterator.Search.{all_from_yields_List}
use borrow.Author.Tests.{tests}
use Rattle.replica.specs.Covering.{sets_of}
use Rattle.replica.proofs.Covers.{covered_entry, all-covered}
use Rattle.replica.proofs.covering.covers.Goals as goal

pub returns : goal.returns
returns g c =
    let sets = sets_of (g.B.Book.reads c.args.book.now) (g.B.Book.writes c.args.book.now) c.args.family in
    let xs = c.args.entries.now in
    let found = all_from_yields_List (covered_entry sets c.args.heard) _ _ c.all.result c.all.ensures.ran (YieldsList-from_slice xs cc) (λ x b q k. search (rules, tests)) in
    found ∙ all-covered sets c.args.heard xs
