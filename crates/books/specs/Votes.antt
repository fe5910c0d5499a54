-- Groups of votes: each terminal has some votes, and a threshold says how many a set needs.
use Rattle.std.specs.Prelude.{ℕ, ◌+◌, ◌^◌, Bool, cond, ◌&&◌, List, [], ◌∷◌, replicate, nat_le, nat_lt}
use Rattle.parts.specs.declared.sets.TerminalSet.{TerminalSet}
use Rattle.parts.specs.Limits.{terminals}
use Rattle.parts.specs.Sets.{has, of_bits, nobody, union, within}
use Rattle.books.specs.declared.votes.VotesGroup.{VotesGroup}

-- all votes together
abbrev pub total : List ℕ → ℕ
total [] = 0
total (v ∷ votes) = v + total votes

-- the rule of a group: each threshold is at least 1 and at most all votes, and both together exceed all votes
abbrev pub sound : VotesGroup → Bool
sound g =
    nat_le 1 g.r && (nat_le 1 g.w && (nat_le g.r (total g.votes) && (nat_le g.w (total g.votes) && nat_lt (total g.votes) (g.r + g.w))))

-- an entry of the table that no group has yet
abbrev pub blank : VotesGroup
blank = record { votes = replicate terminals 0; r = 0; w = 0 }

-- the votes of the set's terminals, where the list begins with the votes of terminal t
abbrev pub weight_from : ℕ → List ℕ → TerminalSet → ℕ
weight_from t [] s = 0
weight_from t (v ∷ votes) s = cond (has s (record { 0 = t })) v 0 + weight_from (t + 1) votes s

-- the votes of the set's terminals
abbrev pub weight : List ℕ → TerminalSet → ℕ
weight votes s = weight_from 0 votes s

-- the set s and the terminals with a vote, where the list begins with the votes of terminal t
abbrev pub voters_from : ℕ → List ℕ → TerminalSet → TerminalSet
voters_from t [] s = s
voters_from t (v ∷ votes) s = voters_from (t + 1) votes (cond (nat_le 1 v) (union s (of_bits (2 ^ t))) s)

-- the terminals with a vote
abbrev pub voters : List ℕ → TerminalSet
voters votes = voters_from 0 votes nobody

-- a set is one of a group's family if it is of members and has the votes that the group needs
abbrev pub one_of : (VotesGroup → ℕ) → VotesGroup → TerminalSet → Bool
one_of needed g q = within q (voters g.votes) && nat_le (needed g) (weight g.votes q)

-- a set contains one of the family if it has the votes that the group needs
abbrev pub holds_one : (VotesGroup → ℕ) → VotesGroup → TerminalSet → Bool
holds_one needed g s = nat_le (needed g) (weight g.votes s)
