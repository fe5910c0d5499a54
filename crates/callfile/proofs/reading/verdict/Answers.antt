use Rattle.std.proofs.Common.{◌≡◌, ◌∙◌}
use Rattle.cards.specs.Words.{word_at}
use Rattle.callfile.specs.Limits.{card_offset_at, calls_offset_at}
use Rattle.callfile.proofs.Results.{handed-on}
use Rattle.callfile.proofs.Checks.{day-head, day-entry, day-card, day-call, day-read}
use Rattle.callfile.proofs.reading.verdict.Goals as goal

pub returns-in_err-check_head : goal.returns-in_err-check_head
returns-in_err-check_head g c =
    let k = g.C.CardKind in let e = g.G.GroupKind in let f = c.in_err-check_head.field-0.0 in
    handed-on c.from_residual.result f _ c.from_residual.ensures.1 (day-head k.WIDTH k.parse e.entry_of k.KIND e.BOOK_KIND c.args.file.now f c.in_err-check_head.ensures)

pub returns-in_err-check_entries : goal.returns-in_err-check_entries
returns-in_err-check_entries g c =
    let k = g.C.CardKind in let e = g.G.GroupKind in let xs = c.args.file.now in
    let a : c.from-card_at.result ≡ word_at xs card_offset_at = c.from-card_at.ensures ∙ c.word_at.ensures in
    let f = c.in_err-check_entries.field-0.0 in
    handed-on c.from_residual-in_err-check_entries.result f _ c.from_residual-in_err-check_entries.ensures.1
    (day-entry k.WIDTH k.parse e.entry_of k.KIND e.BOOK_KIND xs c.in_ok-check_head.field-0 c.in_ok-check_head.ensures c.from-card_at.result a f c.in_err-check_entries.ensures)

pub returns-in_err-first : goal.returns-in_err-first
returns-in_err-first g c =
    let k = g.C.CardKind in let e = g.G.GroupKind in let xs = c.args.file.now in
    let a : c.from-card_at.result ≡ word_at xs card_offset_at = c.from-card_at.ensures ∙ c.word_at.ensures in
    let t : c.from-calls_at.result ≡ word_at xs calls_offset_at = c.from-calls_at.ensures ∙ c.word_at-2.ensures in
    let f = c.in_err-first.field-0.0 in
    handed-on c.from_residual-in_err-first.result f _ c.from_residual-in_err-first.ensures.1
    (day-card k.WIDTH k.parse e.entry_of k.KIND e.BOOK_KIND xs c.in_ok-check_head.field-0 c.in_ok-check_head.ensures c.from-card_at.result a c.in_ok-check_entries.field-0 c.in_ok-check_entries.ensures
    c.from-calls_at.result t c.read.result c.read.ensures f c.new-wrong.result c.in_err-first.ensures.value c.new-wrong.ensures)

pub returns-in_err-check_calls : goal.returns-in_err-check_calls
returns-in_err-check_calls g c =
    let k = g.C.CardKind in let e = g.G.GroupKind in let xs = c.args.file.now in
    let a : c.from-card_at.result ≡ word_at xs card_offset_at = c.from-card_at.ensures ∙ c.word_at.ensures in
    let t : c.from-calls_at.result ≡ word_at xs calls_offset_at = c.from-calls_at.ensures ∙ c.word_at-2.ensures in
    let f = c.in_err-check_calls.field-0.0 in
    handed-on c.from_residual-in_err-check_calls.result f _ c.from_residual-in_err-check_calls.ensures.1
    (day-call k.WIDTH k.parse e.entry_of k.KIND e.BOOK_KIND xs c.in_ok-check_head.field-0 c.in_ok-check_head.ensures c.from-card_at.result a c.in_ok-check_entries.field-0 c.in_ok-check_entries.ensures
    c.from-calls_at.result t c.read.result c.read.ensures c.in_ok-first.first c.in_ok-first.ensures.ok_part c.head_summary-day.result c.head_summary-day.ensures
    c.new.result.byte c.new.ensures.byte c.new.result.rest.now c.new.ensures.rest f c.in_err-check_calls.ensures)

pub returns : goal.returns
returns g c =
    let k = g.C.CardKind in let e = g.G.GroupKind in let xs = c.args.file.now in
    let a : c.from-card_at.result ≡ word_at xs card_offset_at = c.from-card_at.ensures ∙ c.word_at.ensures in
    let t : c.from-calls_at.result ≡ word_at xs calls_offset_at = c.from-calls_at.ensures ∙ c.word_at-2.ensures in
    day-read k.WIDTH k.parse e.entry_of k.KIND e.BOOK_KIND xs c.in_ok-check_head.field-0 c.in_ok-check_head.ensures c.from-card_at.result a c.in_ok-check_entries.field-0 c.in_ok-check_entries.ensures
    c.from-calls_at.result t c.read.result c.read.ensures c.in_ok-first.first c.in_ok-first.ensures.ok_part c.head_summary-day.result c.head_summary-day.ensures
    c.new.result.byte c.new.ensures.byte c.new.result.rest.now c.new.ensures.rest c.in_ok-check_calls.field-0 c.in_ok-check_calls.ensures
