use Rattle.house.specs.States.{state}
use Rattle.line.proofs.Playing.{left-more, all_noted, all-played}
use Rattle.line.proofs.plays.play_calls.Goals as goal

pub loop-i-preserved : goal.loop-i-preserved
loop-i-preserved g c =
    left-more g.B.Book.size g.B.Book.members_of g.B.Book.reads g.B.Book.writes c.args.calls.now (state c.args.house.now c.args.replicas.now c.args.messages.now) c.args.outcomes.now
    c.loop-i.outcomes c.put.new.rows (state c.loop-i.house c.loop-i.replicas c.loop-i.messages)
    (state c.call.new.self c.call.new.replicas c.call.new.messages) c.loop-i.i c.index-calls-i.result c.call.result c.loop-i.invariant
    c.loop-i-test.true c.requires c.index-calls-i.is c.call.ensures c.put.ensures

pub returns : goal.returns
returns g c =
    let first = state c.args.house.now c.args.replicas.now c.args.messages.now in
    let last = state c.loop-i.house c.loop-i.replicas c.loop-i.messages in
    record {
      noted = all_noted g.B.Book.size g.B.Book.members_of g.B.Book.reads g.B.Book.writes c.args.calls.now first c.args.outcomes.now c.loop-i.outcomes last c.loop-i.i c.loop-i.invariant
          c.loop-i-test.false c.loop-i.auto.i-end;
      left = all-played g.B.Book.size g.B.Book.members_of g.B.Book.reads g.B.Book.writes c.args.calls.now first c.args.outcomes.now c.loop-i.outcomes last c.loop-i.i c.loop-i.invariant
          c.loop-i-test.false c.loop-i.auto.i-end;
    }
