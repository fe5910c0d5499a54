use Rattle.std.proofs.lemmas.Result.{err_from_is_err_and}
use Rattle.house.specs.States.{state}
use Rattle.line.proofs.Laws.{law-holds}
use Rattle.line.proofs.Playing.{day-short, day-declined, day-done}
use Rattle.line.proofs.plays.play.Goals as goal

pub returns-then-outcomes-calls : goal.returns-then-outcomes-calls
returns-then-outcomes-calls g c = let b = g.B.Book in let laws = g.met.B.Book in record {
  plays = day-short b.size b.members_of b.reads b.writes c.args.book c.args.founding.terminals c.args.founding.founder c.args.founding.first
      c.args.replicas.now c.args.messages.now c.args.calls.now c.args.outcomes.now c.if-outcomes-calls.true;
  law = law-holds b.size b.members_of b.read_set b.write_set b.reads b.writes laws.reads_found laws.writes_found laws.first
      c.args.book c.args.founding.terminals c.args.founding.founder c.args.founding.first c.args.replicas.now c.args.messages.now;
}

pub returns-in_err-house : goal.returns-in_err-house
returns-in_err-house g c = let b = g.B.Book in let laws = g.met.B.Book in
    let p = err_from_is_err_and c.from_residual.result c.from_residual.ensures.1 in
    record {
      plays = rw (p.1, p.2) (day-declined b.size b.members_of b.reads b.writes c.args.book c.args.founding.terminals c.args.founding.founder c.args.founding.first
          c.args.replicas.now c.args.messages.now c.args.calls.now c.args.outcomes.now c.if-outcomes-calls.false _ _ c.open.new.replicas c.in_err-house.ensures);
      law = law-holds b.size b.members_of b.read_set b.write_set b.reads b.writes laws.reads_found laws.writes_found laws.first
          c.args.book c.args.founding.terminals c.args.founding.founder c.args.founding.first c.args.replicas.now c.args.messages.now;
    }

pub returns : goal.returns
returns g c = let b = g.B.Book in let laws = g.met.B.Book in record {
  plays = day-done b.size b.members_of b.reads b.writes c.args.book c.args.founding.terminals c.args.founding.founder c.args.founding.first
      c.args.replicas.now c.args.messages.now c.args.calls.now c.args.outcomes.now c.if-outcomes-calls.false
      (state c.in_ok-house.house c.open.new.replicas c.args.messages.now) (state c.play_calls.new.house c.play_calls.new.replicas c.play_calls.new.messages)
      c.open.new.replicas c.play_calls.new.outcomes c.in_ok-house.ensures c.play_calls.ensures.left c.play_calls.ensures.noted;
  law = law-holds b.size b.members_of b.read_set b.write_set b.reads b.writes laws.reads_found laws.writes_found laws.first
      c.args.book c.args.founding.terminals c.args.founding.founder c.args.founding.first c.args.replicas.now c.args.messages.now;
}
