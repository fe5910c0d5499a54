use Rattle.std.proofs.Common.{refl}
use Rattle.parts.specs.Charts.{together, blank, cut_list, any_group, gap_list}
use Rattle.books.proofs.Examples.{votes-examples, sets-examples}
use Rattle.replica.proofs.examples.examples_hold.Goals as goal

pub returns : goal.returns
unfolding together blank cut_list any_group gap_list
returns c = record {
  by_count = refl;
  by-terminal = refl;
  joining = refl;
  cutting = refl;
  extending = refl;
  votes = votes-examples;
  sets = sets-examples;
  recent = refl;
  late = refl;
}
