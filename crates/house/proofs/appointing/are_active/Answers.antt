use Rattle.std.proofs.Common.{◌∙◌, refl, rules}
use Rattle.std.proofs.lemmas.Iterator.{YieldsList-from_range}
use Rattle.std.proofs.lemmas.Iterator.Search.{all_from_yields_List}
use borrow.Author.Tests.{tests}
use Rattle.parts.specs.Limits.{terminals}
use Rattle.house.proofs.Appoints.{stands, active-range}
use Rattle.house.proofs.appointing.are_active.Goals as goal

pub returns : goal.returns
returns g c =
    let m = c.args.members in
    let rs = c.args.replicas.now in
    let found = all_from_yields_List (stands m rs) _ _ c.all.result c.all.ensures.ran (YieldsList-from_range 0 terminals terminals refl refl) (λ x b q k. search (rules, tests)) in
    found ∙ active-range m rs terminals
