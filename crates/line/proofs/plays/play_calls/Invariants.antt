use Rattle.house.specs.States.{state}
use Rattle.line.proofs.Playing.{PlayLeft}
use Rattle.line.proofs.plays.play_calls.Given as goal

abbrev pub invariant-loop-i : goal.invariant-loop-i
invariant-loop-i g l =
    PlayLeft g.B.Book.size g.B.Book.members_of g.B.Book.reads g.B.Book.writes l.calls (state l.initial.house l.initial.replicas l.initial.messages) l.initial.outcomes
    l.outcomes (state l.house l.replicas l.messages) l.i
