-- What the two kinds of group are to a book, and their books as types.
use Rattle.std.specs.Prelude.{◌&&◌, length, ◌==◌}
use Rattle.parts.specs.Limits.{terminals}
use Rattle.books.specs.declared.rules.GroupRule.{Ghosts}
use Rattle.books.specs.declared.sets.SetsGroup.{SetsGroup}
use Rattle.books.specs.declared.table.Table.{Table}
use Rattle.books.specs.declared.votes.VotesGroup.{VotesGroup}
use Rattle.books.specs.Books.{most_sets}
use Rattle.books.specs.Votes as votes
use Rattle.books.specs.Sets as sets

-- groups of votes
abbrev pub votes_rule : Ghosts VotesGroup
votes_rule = record {
  sound = votes.sound;
  full = λ g. length g.votes == terminals;
  blank = votes.blank;
  members_of = λ g. votes.voters g.votes;
  read_set = votes.one_of (λ g. g.r);
  write_set = votes.one_of (λ g. g.w);
  reads = votes.holds_one (λ g. g.r);
  writes = votes.holds_one (λ g. g.w);
}

abbrev pub VotesBook : Type 0
VotesBook = Table VotesGroup votes_rule

-- groups of listed sets
abbrev pub sets_rule : Ghosts SetsGroup
sets_rule = record {
  sound = sets.sound;
  full = λ g. length g.reads == most_sets && length g.writes == most_sets;
  blank = sets.blank;
  members_of = λ g. g.members;
  read_set = sets.one_of (λ g. g.reads);
  write_set = sets.one_of (λ g. g.writes);
  reads = sets.holds_one (λ g. g.reads);
  writes = sets.holds_one (λ g. g.writes);
}

abbrev pub SetsBook : Type 0
SetsBook = Table SetsGroup sets_rule
