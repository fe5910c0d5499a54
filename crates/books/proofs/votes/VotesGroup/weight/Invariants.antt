use Rattle.std.proofs.Common.{◌≡◌, ◌+◌, ◌*◌, ◌≤◌, drop}
use Rattle.books.specs.Votes.{weight_from, weight}
use Rattle.books.proofs.votes.VotesGroup.weight.Given as goal

abbrev pub invariant-loop-t : goal.invariant-loop-t
invariant-loop-t l = (l.sum + weight_from l.t (drop l.t l.self.votes) l.set ≡ weight l.self.votes l.set) × (l.sum ≤ 255 * l.t)
