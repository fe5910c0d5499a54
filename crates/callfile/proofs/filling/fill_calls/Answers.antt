use Rattle.std.proofs.Common.{◌<◌, length, sym, ◌∙◌, arith}
use Rattle.callfile.proofs.CallFills.{fill_again}
use Rattle.callfile.proofs.filling.fill_calls.Goals as goal

pub loop-place-preserved : goal.loop-place-preserved
loop-place-preserved g c =
    let k = g.C.CardKind in let l = c.loop-place in
    let below : l.place-index < length c.args.list.now = omega arith in
    let q = rw c.unwrap.ensures at c.next_call.ensures.behind in
    fill_again k.WIDTH k.parse c.args.calls.byte (length c.args.list.now) c.args.calls.rest.now l.calls.byte l.place-index l.calls.rest.now l.place-items l.invariant
    below c.unwrap.result (sym c.next_call.ensures.call ∙ c.unwrap.ensures) c.next_call.new.self.rest.now c.next_call.new.self.byte q.0 q.1
