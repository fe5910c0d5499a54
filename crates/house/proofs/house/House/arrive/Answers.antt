use Rattle.std.proofs.Common.{sym, ap, ◌∙◌}
use Rattle.house.specs.States.{state}
use Rattle.house.proofs.Leaving.{arrived-far, arrived-nowhere, arrived-deaf, arrived-taken}
use Rattle.house.proofs.house.House.arrive.Goals as goal

pub returns-then-message-self : goal.returns-then-message-self
returns-then-message-self g c =
    arrived-far (state c.args.self.now c.args.replicas.now c.args.messages.now) c.args.message c.if-message-self.true

pub returns-in_default : goal.returns-in_default
returns-in_default g c =
    arrived-nowhere (state c.args.self.now c.args.replicas.now c.args.messages.now) c.args.message c.if-message-self.false c.in_default.ensures

pub returns-else-is_listening : goal.returns-else-is_listening
returns-else-is_listening g c =
    arrived-deaf (state c.args.self.now c.args.replicas.now c.args.messages.now) c.args.message c.if-message-self.false _ c.in-Some.ensures
    (sym c.if-is_listening.ensures)

pub returns-then-is_listening : goal.returns-then-is_listening
returns-then-is_listening g c =
    ap (λ rs. state c.args.self.now rs c.args.messages.now) c.put.ensures
    ∙ arrived-taken (state c.args.self.now c.args.replicas.now c.args.messages.now) c.args.message c.if-message-self.false _ c.in-Some.ensures
    c.take.new.self (sym c.if-is_listening.ensures) c.take.ensures
