use Rattle.std.proofs.Common.{length}
use Rattle.callfile.proofs.CallFills.{FillLeft}
use Rattle.callfile.proofs.filling.fill_calls.Given as goal

abbrev pub invariant-loop-place : goal.invariant-loop-place
invariant-loop-place g l =
    let k = g.C.CardKind in
    FillLeft k.WIDTH k.parse l.initial.calls.byte (length l.fn.list) l.initial.calls.rest.now l.calls.byte l.place-index l.calls.rest.now l.place-items
