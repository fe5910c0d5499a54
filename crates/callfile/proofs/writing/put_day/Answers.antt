use Rattle.std.proofs.Common.{arith}
use Rattle.callfile.proofs.There.{length_groups}
use Rattle.callfile.proofs.CallPuts.{few_calls}
use Rattle.callfile.proofs.writing.put_day.Goals as goal

pub put_head-requires-clause-calls : goal.put_head-requires-clause-calls
put_head-requires-clause-calls g c =
    let k = g.C.CardKind in
    let f = few_calls k.WIDTH k.shape g.met.C.CardKind.wide c.args.calls.now in
    omega (arith, c.requires.calls, c.requires.long, c.requires.short)

pub put_groups-requires : goal.put_groups-requires
put_groups-requires g c =
    let e = g.G.GroupKind in let m = g.met.G.GroupKind in let t = c.args.book.now in
    let l = length_groups e.entry_bytes e.entry_of e.keeps m.wide m.round (g.T.GroupTable.groups t) (g.met.T.GroupTable.ruled t) in
    grind arith
