use Rattle.callfile.specs.Writing.{day_with}
use Rattle.callfile.proofs.There.{day-there}
use Rattle.callfile.proofs.Writes.{exit-written, writable, reads-again}
use Rattle.callfile.proofs.writing.write.Goals as goal

pub returns-in_err-total-clause-answer : goal.returns-in_err-total-clause-answer
returns-in_err-total-clause-answer g c =
    let k = g.C.CardKind in let m = g.met.C.CardKind in let e = g.G.GroupKind in let n = g.met.G.GroupKind in let t = c.args.book.now in
    let d = day_with c.args.founding.terminals c.args.founding.founder (g.T.GroupTable.groups t) c.args.founding.first c.args.calls.now in
    exit-written k.KIND e.BOOK_KIND k.WIDTH k.shape k.parse m.wide m.round e.entry_bytes e.entry_of e.keeps n.wide n.round
    d (g.met.T.GroupTable.ruled t) c.group_count.result c.group_count.ensures c.from_residual.result c.in_err-total.field-0.0 c.args.out.now c.from_residual.ensures.1 c.in_err-total.ensures

pub returns-in_err-total-clause-every : goal.returns-in_err-total-clause-every
returns-in_err-total-clause-every g c =
    let k = g.C.CardKind in let m = g.met.C.CardKind in let e = g.G.GroupKind in let n = g.met.G.GroupKind in
    day-there k.WIDTH k.shape k.parse m.wide m.round e.entry_bytes e.entry_of e.keeps n.wide n.round k.KIND e.BOOK_KIND

pub put_day-requires-clause-small : goal.put_day-requires-clause-small
put_day-requires-clause-small g c =
    let k = g.C.CardKind in let m = g.met.C.CardKind in let e = g.G.GroupKind in let n = g.met.G.GroupKind in let t = c.args.book.now in
    let d = day_with c.args.founding.terminals c.args.founding.founder (g.T.GroupTable.groups t) c.args.founding.first c.args.calls.now in
    let w = writable k.KIND e.BOOK_KIND k.WIDTH k.shape k.parse m.wide m.round e.entry_bytes e.entry_of e.keeps n.wide n.round
    d (g.met.T.GroupTable.ruled t) c.group_count.result c.group_count.ensures c.in_ok-total.total c.args.out.now c.in_ok-total.ensures in
    w.small

pub returns-clause-again : goal.returns-clause-again
returns-clause-again g c =
    let k = g.C.CardKind in let m = g.met.C.CardKind in let e = g.G.GroupKind in let n = g.met.G.GroupKind in let t = c.args.book.now in
    let d = day_with c.args.founding.terminals c.args.founding.founder (g.T.GroupTable.groups t) c.args.founding.first c.args.calls.now in
    reads-again k.KIND e.BOOK_KIND k.WIDTH k.shape k.parse m.wide m.round e.entry_bytes e.entry_of e.keeps n.wide n.round
    d (g.met.T.GroupTable.ruled t) c.group_count.result c.group_count.ensures c.in_ok-total.total c.args.out.now c.in_ok-total.ensures c.put_day.new.out c.put_day.ensures

pub returns-clause-every : goal.returns-clause-every
returns-clause-every g c =
    let k = g.C.CardKind in let m = g.met.C.CardKind in let e = g.G.GroupKind in let n = g.met.G.GroupKind in
    day-there k.WIDTH k.shape k.parse m.wide m.round e.entry_bytes e.entry_of e.keeps n.wide n.round k.KIND e.BOOK_KIND
