use Rattle.std.proofs.Common.{length, Ok, ap, sym, ◌∙◌}
use lib.ListN.{length-replicate}
use Rattle.std.proofs.lemmas.List.{take_at}
use Rattle.listing.specs.Reports.{day_from}
use Rattle.listing.proofs.Readings.{day-read, never-declined}
use Rattle.listing.proofs.reading.read_day.Goals as goal

pub returns-in_err-day-2-clause-fault : goal.returns-in_err-day-2-clause-fault
returns-in_err-day-2-clause-fault g c =
    never-declined _ c.in_ok-day.day c.in_err-day-2.field-0.0 _ _ c.deref_mut.result.now _
    c.in_ok-day.ensures.answer
    (ap length (c.deref_mut.ensures.value ∙ c.in_ok-calls.ensures) ∙ length-replicate c.in_ok-day.day.calls _)
    c.in_err-day-2.ensures.answer

pub returns-clause-day : goal.returns-clause-day
returns-clause-day g c =
    let day = c.in_ok-day-2.day in
    let list = c.read.new.list in
    day-read _ c.in_ok-day.day day _ _ c.deref_mut.result.now list
    c.in_ok-day.ensures.answer
    (ap length (c.deref_mut.ensures.value ∙ c.in_ok-calls.ensures) ∙ length-replicate c.in_ok-day.day.calls _)
    c.in_ok-day-2.ensures.answer
    ∙ ap (λ cs. Ok (day_from day (g.T.GroupTable.groups c.read.new.book) cs))
    (sym (take_at list _ _ (c.read.auto.list ∙ c.deref_mut.ensures.len)))
