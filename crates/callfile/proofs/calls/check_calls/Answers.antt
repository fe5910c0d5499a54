use Rattle.std.proofs.Common.{sym}
use Rattle.callfile.proofs.Results.{handed-on}
use Rattle.callfile.proofs.CallWalks.{calls_wrong}
use Rattle.callfile.proofs.calls.check_calls.Goals as goal

pub returns-in_err-next_call : goal.returns-in_err-next_call
returns-in_err-next_call g c =
    let k = g.C.CardKind in
    handed-on c.from_residual.result c.in_err-next_call.field-0.0 _ c.from_residual.ensures.1
    (calls_wrong k.WIDTH k.parse c.args.calls.byte c.args.count c.args.calls.rest.now c.loop.calls.byte c.loop.counter c.loop.calls.rest.now c.loop.invariant
    c.loop-test.true c.in_err-next_call.field-0.0 (sym c.in_err-next_call.ensures.call))
