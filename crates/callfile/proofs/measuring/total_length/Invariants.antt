use Rattle.std.proofs.Common.{◌+◌, ◌≤◌}
use Rattle.callfile.specs.Limits.{longest, card_from}
use Rattle.callfile.proofs.CallPuts.{CountLeft}
use Rattle.callfile.proofs.measuring.total_length.Given as goal

abbrev pub invariant-loop-call : goal.invariant-loop-call
invariant-loop-call g l =
    let k = g.C.CardKind in
    CountLeft k.WIDTH k.shape g.met.C.CardKind.wide (card_from l.groups + k.WIDTH) l.calls l.total l.call-index × (l.total ≤ longest)
