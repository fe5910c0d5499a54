use Rattle.std.proofs.Common.{sym, ◌∙◌}
use Rattle.house.specs.States.{state}
use Rattle.house.proofs.Leaving.{picked-past, ok_or-found, picked-found}
use Rattle.house.proofs.house.House.pick.Goals as goal

pub returns-then-p-self : goal.returns-then-p-self
returns-then-p-self g c =
    picked-past (state c.args.self.now c.args.replicas.now c.args.messages.now) c.args.p (sym c.if-not-fits.ensures) c.if-p-self.true

pub returns : goal.returns
returns g c =
    c.ok_or.ensures.value ∙ ok_or-found c.at.result
    ∙ picked-found (state c.args.self.now c.args.replicas.now c.args.messages.now) c.args.p c.at.result (sym c.if-not-fits.ensures) c.if-p-self.false c.at.ensures
