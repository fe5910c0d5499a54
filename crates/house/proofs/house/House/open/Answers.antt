use Rattle.std.proofs.Common.{length, replicate, ap, ◌∙◌}
use Rattle.house.proofs.Opens.{open_done}
use Rattle.house.proofs.house.House.open.Goals as goal

pub returns : goal.returns
returns g c =
    open_done g.B.Book.members_of c.args.book c.args.founding.terminals c.args.founding.founder c.args.founding.first c.args.replicas.now c.put_all.new.rows c.args.messages.now
    c.members-members.result c.members-members.ensures c.in_default.ensures
    (c.put_all.ensures ∙ ap (replicate (length c.args.replicas.now)) c.new.ensures)
