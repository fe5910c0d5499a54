use Rattle.house.proofs.Filling.{filled_more}
use Rattle.house.proofs.tables.put_all.Goals as goal

pub loop-place-preserved : goal.loop-place-preserved
loop-place-preserved g c = filled_more c.args.rows.now c.loop-place.place-items c.loop-place.place-index c.args.row c.loop-place-test.true c.loop-place.invariant
