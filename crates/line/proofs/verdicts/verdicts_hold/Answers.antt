use Rattle.history.proofs.Examples.{verdicts}
use Rattle.line.proofs.verdicts.verdicts_hold.Goals as goal

pub returns : goal.returns
returns c = verdicts
