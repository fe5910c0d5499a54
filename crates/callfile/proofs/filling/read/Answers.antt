use Rattle.std.proofs.Common.{◌∙◌, rules}
use Rattle.callfile.proofs.Fills.{exit-placed, held, groups-fit, calls-inside, calls-fit, placed-here}
use Rattle.callfile.proofs.filling.read.Goals as goal

pub returns-in_err-day-clause-answer : goal.returns-in_err-day-clause-answer
returns-in_err-day-clause-answer g c =
    let k = g.C.CardKind in let e = g.G.GroupKind in
    exit-placed k.WIDTH k.parse e.entry_of k.KIND e.BOOK_KIND c.args.file.now c.from_residual.result c.in_err-day.field-0.0
    (g.T.GroupTable.groups c.args.book.now) c.args.list.now c.from_residual.ensures.1 c.in_err-day.ensures.answer

pub fill_groups-requires : goal.fill_groups-requires
fill_groups-requires g c =
    let k = g.C.CardKind in let e = g.G.GroupKind in let xs = c.args.file.now in
    groups-fit k.WIDTH k.parse e.entry_of k.KIND e.BOOK_KIND xs c.in_ok-day.day (held k.WIDTH k.parse e.entry_of k.KIND e.BOOK_KIND xs c.in_ok-day.day c.in_ok-day.ensures.answer)
    c.from-card_at.result (c.from-card_at.ensures ∙ c.word_at.ensures)

pub new-requires : goal.new-requires
new-requires g c =
    let k = g.C.CardKind in let e = g.G.GroupKind in let xs = c.args.file.now in
    calls-inside k.WIDTH k.parse e.entry_of k.KIND e.BOOK_KIND xs c.in_ok-day.day (held k.WIDTH k.parse e.entry_of k.KIND e.BOOK_KIND xs c.in_ok-day.day c.in_ok-day.ensures.answer)
    c.from-card_at.result (c.from-card_at.ensures ∙ c.word_at.ensures) c.from-calls_at.result (c.from-calls_at.ensures ∙ c.word_at-2.ensures)

pub fill_calls-requires : goal.fill_calls-requires
fill_calls-requires g c =
    let k = g.C.CardKind in let e = g.G.GroupKind in let xs = c.args.file.now in
    calls-fit k.WIDTH k.parse e.entry_of k.KIND e.BOOK_KIND xs c.in_ok-day.day (held k.WIDTH k.parse e.entry_of k.KIND e.BOOK_KIND xs c.in_ok-day.day c.in_ok-day.ensures.answer)
    c.from-card_at.result (c.from-card_at.ensures ∙ c.word_at.ensures)
    c.new.result.byte c.from-calls_at.result c.new.ensures.byte (c.from-calls_at.ensures ∙ c.word_at-2.ensures) c.new.result.rest.now c.new.ensures.rest c.args.list.now (search rules)

pub returns-clause-answer : goal.returns-clause-answer
returns-clause-answer g c =
    let k = g.C.CardKind in let e = g.G.GroupKind in let xs = c.args.file.now in
    placed-here k.WIDTH k.parse e.entry_of k.KIND e.BOOK_KIND xs c.in_ok-day.day (held k.WIDTH k.parse e.entry_of k.KIND e.BOOK_KIND xs c.in_ok-day.day c.in_ok-day.ensures.answer)
    c.from-card_at.result (c.from-card_at.ensures ∙ c.word_at.ensures)
    c.new.result.byte c.from-calls_at.result c.new.ensures.byte (c.from-calls_at.ensures ∙ c.word_at-2.ensures) c.new.result.rest.now c.new.ensures.rest c.args.list.now (search rules)
    (g.T.GroupTable.groups c.args.book.now) (g.T.GroupTable.groups c.fill_groups.new.book) c.fill_calls.new.list c.fill_groups.ensures c.fill_calls.ensures
