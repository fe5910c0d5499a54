use Rattle.std.proofs.Common.{replicate, ap, ◌∙◌}
use Rattle.std.proofs.lemmas.List.{take_at}
use Rattle.std.proofs.lemmas.Result.{IfOk-weaker}
use Rattle.line.specs.Runs.{played_state}
use Rattle.listing.specs.Listings.{played_text}
use Rattle.listing.proofs.DayTexts.{played_as}
use Rattle.listing.proofs.playing.day_listing.Goals as goal

pub returns : goal.returns
returns g c =
    let day = c.args.day.now in
    IfOk-weaker c.played_text.result _ _
    (λ t e. e c.play-played.new.replicas c.play-played.new.messages
    ∙ ap (played_text g.C.CardKind.shape day.founding.terminals c.args.calls.now (played_state c.play-played.result c.play-played.new.replicas c.play-played.new.messages))
    (c.deref.ensures.value ∙ take_at c.play-played.new.outcomes _ _ (c.play-played.auto.outcomes ∙ c.deref_mut-3.ensures.len))
    ∙ played_as g.C.CardKind.shape g.B.Book.size g.B.Book.members_of g.B.Book.reads g.B.Book.writes c.args.book day.founding.terminals day.founding.founder day.founding.first c.args.calls.now
    _ _ _ _ _ _
    (c.deref_mut.ensures.value ∙ c.in_ok-replicas.ensures ∙ ap (replicate day.founding.terminals) c.new.ensures)
    (c.deref_mut-2.ensures.value ∙ c.in_ok-messages.ensures)
    (c.deref_mut-3.ensures.value ∙ c.in_ok-outcomes.ensures)
    _ c.play-played.ensures.plays)
    c.played_text.ensures
