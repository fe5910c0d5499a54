use Rattle.std.proofs.Common.{sym, ap, ◌∙◌}
use Rattle.house.specs.Guards.{ready}
use Rattle.house.specs.States.{state}
use Rattle.house.proofs.Acting.{acting-far, acting-near}
use Rattle.house.proofs.house.House.acting.Goals as goal

pub returns-then-j-self : goal.returns-then-j-self
returns-then-j-self g c =
    acting-far c.args.need c.args.i c.args.j (state c.args.self.now c.args.replicas.now c.args.messages.now)
    (sym c.if-not-fits.ensures) c.if-j-self.true

pub returns : goal.returns
returns g c =
    c.ready_one.ensures ∙ ap (ready c.args.need) c.at.ensures
    ∙ acting-near c.args.need c.args.i c.args.j (state c.args.self.now c.args.replicas.now c.args.messages.now)
    (sym c.if-not-fits.ensures) c.if-j-self.false
