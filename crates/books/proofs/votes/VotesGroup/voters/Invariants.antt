use Rattle.std.proofs.Common.{◌≡◌, drop}
use Rattle.books.specs.Votes.{voters_from, voters}
use Rattle.books.proofs.votes.VotesGroup.voters.Given as goal

abbrev pub invariant-loop-t : goal.invariant-loop-t
invariant-loop-t l = voters_from l.t (drop l.t l.self.votes) l.set ≡ voters l.self.votes
