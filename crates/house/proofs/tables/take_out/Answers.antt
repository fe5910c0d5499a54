use Rattle.house.proofs.Closing.{closed-up}
use Rattle.house.proofs.tables.take_out.Goals as goal

pub returns : goal.returns
returns g c = closed-up c.args.pool.now c.close_up.new.part c.args.p c.args.n c.requires.0 c.requires.1 c.close_up.ensures
