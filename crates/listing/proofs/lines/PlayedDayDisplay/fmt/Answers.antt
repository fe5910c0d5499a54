use Rattle.std.proofs.Common.{rules, true, [], ◌++◌, length, None, refl, ap}
use Rattle.std.proofs.Output.{has_written_append, has_written_of_eq}
use Rattle.std.proofs.lemmas.Slice.Zip.{either_empty_from_Zip}
use Rattle.std.specs.Iterator.Adapters.{enumerate_source}
use Rattle.listing.specs.Lines.{day_line, call_line}
use Rattle.listing.proofs.CallTexts.{lines_more, lines_all}
use Rattle.listing.proofs.lines.PlayedDayDisplay.fmt.Goals as goal

pub loop-index-init : goal.loop-index-init
loop-index-init g c plain = ([], search rules, search rules)

pub loop-index-preserved : goal.loop-index-preserved
loop-index-preserved g c plain =
    let so_far = c.loop-index.invariant plain in
    let steps = c.in-Some.ensures.steps in (
      so_far.0 ++ call_line g.C.CardKind.shape c.in-Some.index c.in-Some.call.now c.in-Some.outcome.now,
      has_written_append _ _ _ _ _ _ so_far.1 (c.in_ok-write.ensures.writes so_far.1.plain (refl {a = true})),
      lines_more _ _ _ _ _ _ so_far.2 _ _ _ _ _ _ steps.0.0 steps.0.1 steps.1 steps.2,
    )

pub returns-clause-writes : goal.returns-clause-writes
returns-clause-writes g c plain ok =
    let first = c.in_ok-writeln.ensures.writes plain (refl {a = true}) in
    let so_far = c.loop-index.invariant first.plain in
    let none = either_empty_from_Zip (enumerate_source c.loop-index.index-iterator) (enumerate_source c.next.new.self) None refl c.in-None.ensures.steps.0 in
    has_written_of_eq _ _ _ _ _
    (ap (λ ys. day_line c.args.self.now.terminals (length c.args.self.now.calls.now) ++ ys) (lines_all _ _ _ _ _ _ so_far.2 none))
    (has_written_append _ _ _ _ _ _ first so_far.1)
