use Rattle.std.proofs.Common.{◌≡◌, ℕ, ◌+◌, List, [], ◌∷◌, ap, ◌∙◌, refl, rules, tests, arith}
use Rattle.std.specs.List.{sum}
use Rattle.std.proofs.iter.runs.Made.{chains}
use Rattle.std.proofs.lemmas.Iterator.{YieldsList-from_slice}
use Rattle.std.proofs.lemmas.Iterator.Adapters.{fits_from_length, at_most_from_yields_List}
use Rattle.std.proofs.lemmas.List.Sums.{sum_by-cons}
use Rattle.parts.specs.Limits.{terminals}
use Rattle.books.specs.Votes.{total}
use Rattle.books.proofs.votes.VotesGroup.total.Goals as goal

pub sum-requires-clause-fits : goal.sum-requires-clause-fits
sum-requires-clause-fits c =
    fits_from_length _ _ terminals _ (at_most_from_yields_List (YieldsList-from_slice c.args.self.now.votes (search rules)) (search rules)) c.map.ensures.closure (omega arith)
    (λ x r q k. search (rules, tests))

-- the sum from the left is the one from the right
sum-total : (votes : List ℕ) → sum votes ≡ total votes
sum-total [] = refl
sum-total (v ∷ votes) = sum_by-cons (λ n. n) v votes ∙ ap (λ n. v + n) (sum-total votes)

pub returns : goal.returns
returns c =
    let all : c.sum.result ≡ sum c.args.self.now.votes = search (rules, chains) in
    all ∙ sum-total c.args.self.now.votes
