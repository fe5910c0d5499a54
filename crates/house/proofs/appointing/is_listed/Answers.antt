use Rattle.std.proofs.Common.{◌∙◌}
use Rattle.house.proofs.Appoints.{listed-any}
use Rattle.house.proofs.appointing.is_listed.Goals as goal

pub returns : goal.returns
returns c = c.contains.ensures.value ∙ listed-any c.args.group c.args.listed.now
