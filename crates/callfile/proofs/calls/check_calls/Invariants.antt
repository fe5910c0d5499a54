use Rattle.callfile.proofs.CallWalks.{CallsLeft}
use Rattle.callfile.proofs.calls.check_calls.Given as goal

abbrev pub invariant-loop : goal.invariant-loop
invariant-loop g l =
    let k = g.C.CardKind in CallsLeft k.WIDTH k.parse l.initial.calls.byte l.count l.initial.calls.rest.now l.calls.byte l.counter l.calls.rest.now
