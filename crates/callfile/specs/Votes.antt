-- A group of votes as an entry: sixteen bytes of votes, and the two thresholds as numbers of two bytes.
use Rattle.std.specs.Prelude.{ℕ, Bool, cond, ◌&&◌, List, [], ◌∷◌, ◌++◌, length, take, Some, None, Option, ◌==◌}
use Rattle.parts.specs.Limits.{terminals}
use Rattle.cards.specs.Words.{word_at, words_bytes}
use Rattle.books.specs.declared.votes.VotesGroup.{VotesGroup}
use Rattle.books.specs.Votes.{sound}
use Rattle.callfile.specs.Limits.{entry_width}

-- the number of the kind of book in a file
abbrev pub votes_kind : ℕ
votes_kind = 1

-- the byte of an entry where the threshold of reads stands, and that of writes
abbrev pub r_at : ℕ
r_at = 16

abbrev pub w_at : ℕ
w_at = 18

-- a group with the votes of sixteen terminals that keeps its rule
abbrev pub votes_kept : VotesGroup → Bool
votes_kept g = length g.votes == terminals && sound g

-- a group is written as its votes and its thresholds
abbrev pub votes_bytes : VotesGroup → List ℕ
votes_bytes g = g.votes ++ words_bytes (g.r ∷ g.w ∷ [])

-- the group that bytes stand for, whether it keeps its rule or not
abbrev pub votes_in : List ℕ → VotesGroup
votes_in xs = record { votes = take terminals xs; r = word_at xs r_at; w = word_at xs w_at }

-- bytes have the form of an entry if they are as many as an entry has
abbrev pub votes_form : List ℕ → Bool
votes_form xs = length xs == entry_width

-- the group that bytes with the form of an entry stand for
abbrev pub votes_read : List ℕ → Option VotesGroup
votes_read xs = cond (votes_form xs) (Some (votes_in xs)) None

-- bytes are a group if they have the form of an entry and the rule is kept
abbrev pub votes_of : List ℕ → Option VotesGroup
votes_of xs = cond (votes_form xs && sound (votes_in xs)) (Some (votes_in xs)) None
