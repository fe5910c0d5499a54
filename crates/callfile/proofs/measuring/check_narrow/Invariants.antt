use Rattle.callfile.proofs.CallPuts.{WideLeft}
use Rattle.callfile.proofs.measuring.check_narrow.Given as goal

abbrev pub invariant-loop-call : goal.invariant-loop-call
invariant-loop-call g l =
    let k = g.C.CardKind in
    WideLeft k.WIDTH k.shape g.met.C.CardKind.wide l.start l.calls l.byte l.call-index
