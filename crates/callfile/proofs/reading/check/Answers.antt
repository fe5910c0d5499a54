use Rattle.std.proofs.Common.{◌<◌, rules}
use Rattle.std.proofs.ByRecursion.{All-from_get_or}
use Rattle.callfile.proofs.Back.{day-back}
use Rattle.callfile.proofs.reading.check.Goals as goal

pub returns-clause-same : goal.returns-clause-same
returns-clause-same g c =
    let k = g.C.CardKind in let m = g.met.C.CardKind in
    let e = g.G.GroupKind in let n = g.met.G.GroupKind in
    day-back k.KIND e.BOOK_KIND k.WIDTH k.shape k.parse m.wide m.back e.entry_bytes e.entry_of e.keeps n.kept n.back
    c.args.file.now (All-from_get_or (λ x. x < 256) c.args.file.now 0 (λ i _. search (rules, c.type_inv.file i)))
