use Rattle.std.proofs.Common.{sym, ◌∙◌, rules}
use Rattle.callfile.specs.Format.{call_bytes}
use Rattle.callfile.proofs.Pieces.{put_room, put_again}
use Rattle.callfile.proofs.Spelling.{length-call}
use Rattle.callfile.proofs.writing.put_calls.Goals as goal

pub slice_bounds-put_call-end : goal.slice_bounds-put_call-end
slice_bounds-put_call-end g c =
    let k = g.C.CardKind in let x = c.call-item.result in
    let r = put_room (call_bytes k.shape) c.args.calls.now c.args.out.now c.loop-call.byte c.loop-call.call-index c.loop-call.out c.loop-call.invariant
    c.loop-call-test.true x c.call-item.is c.requires.1 c.size_of_call-size.result (length-call k.WIDTH k.shape g.met.C.CardKind.wide x ∙ sym c.size_of_call-size.ensures) in
    search rules

pub loop-call-preserved : goal.loop-call-preserved
loop-call-preserved g c =
    let k = g.C.CardKind in let x = c.call-item.result in
    put_again (call_bytes k.shape) c.args.calls.now c.args.out.now c.loop-call.byte c.loop-call.call-index c.loop-call.out c.loop-call.invariant
    c.loop-call-test.true x c.call-item.is c.size_of_call-size.result (length-call k.WIDTH k.shape g.met.C.CardKind.wide x ∙ sym c.size_of_call-size.ensures) c.put_call.new.out c.put_call.ensures
