use Rattle.std.proofs.Common.{List, sym, ap, ◌∙◌, arith}
use Rattle.parts.specs.declared.counts.Group.{Group}
use Rattle.parts.specs.declared.sets.TerminalSet.{TerminalSet}
use Rattle.parts.specs.Limits.{terminals}
use Rattle.house.specs.Appointing.{is_listed, members_active}
use Rattle.house.specs.States.{state}
use Rattle.house.proofs.Appoints.{listed-length, why-not-in-book, why-listed, why-full, why-never, why-none}
use Rattle.house.proofs.house.House.may_appoint.Goals as goal

pub returns-then-group-count : goal.returns-then-group-count
returns-then-group-count g c =
    why-not-in-book g.B.Book.size g.B.Book.members_of c.args.group (state c.args.self.now c.args.replicas.now c.args.messages.now)
    (sym c.if-not-fits.ensures) (omega (arith, c.if-group-count.true, c.count.ensures))

pub returns-then-is_listed : goal.returns-then-is_listed
returns-then-is_listed g c =
    why-listed g.B.Book.size g.B.Book.members_of c.args.group (state c.args.self.now c.args.replicas.now c.args.messages.now)
    (sym c.if-not-fits.ensures) (omega (arith, c.if-group-count.false, c.count.ensures))
    (c.if-is_listed.ensures ∙ ap (λ (gs : List Group). is_listed gs c.args.group) c.listed_groups.ensures)

pub returns-then-self-ge-PLACES : goal.returns-then-self-ge-PLACES
returns-then-self-ge-PLACES g c =
    why-full g.B.Book.size g.B.Book.members_of c.args.group (state c.args.self.now c.args.replicas.now c.args.messages.now)
    (sym c.if-not-fits.ensures) (omega (arith, c.if-group-count.false, c.count.ensures))
    (c.if-is_listed.ensures ∙ ap (λ (gs : List Group). is_listed gs c.args.group) c.listed_groups.ensures)
    (omega (arith, listed-length _ _ c.args.self.now.within c.args.self.now.whole, c.if-self-ge-PLACES.true))

pub returns-then-not-are_active : goal.returns-then-not-are_active
returns-then-not-are_active g c =
    why-never g.B.Book.size g.B.Book.members_of c.args.group (state c.args.self.now c.args.replicas.now c.args.messages.now)
    (sym c.if-not-fits.ensures) (omega (arith, c.if-group-count.false, c.count.ensures))
    (c.if-is_listed.ensures ∙ ap (λ (gs : List Group). is_listed gs c.args.group) c.listed_groups.ensures)
    (omega (arith, listed-length _ _ c.args.self.now.within c.args.self.now.whole, c.if-self-ge-PLACES.false))
    (c.if-not-are_active.ensures ∙ ap (λ (m : TerminalSet). members_active m c.args.replicas.now terminals) c.members.ensures)

pub returns : goal.returns
returns g c =
    why-none g.B.Book.size g.B.Book.members_of c.args.group (state c.args.self.now c.args.replicas.now c.args.messages.now)
    (sym c.if-not-fits.ensures) (omega (arith, c.if-group-count.false, c.count.ensures))
    (c.if-is_listed.ensures ∙ ap (λ (gs : List Group). is_listed gs c.args.group) c.listed_groups.ensures)
    (omega (arith, listed-length _ _ c.args.self.now.within c.args.self.now.whole, c.if-self-ge-PLACES.false))
    (c.if-not-are_active.ensures ∙ ap (λ (m : TerminalSet). members_active m c.args.replicas.now terminals) c.members.ensures)
