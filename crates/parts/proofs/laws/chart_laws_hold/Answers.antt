use Rattle.parts.proofs.Cuts as cuts
use Rattle.parts.proofs.Gaps as gaps
use Rattle.parts.proofs.Joins as joins
use Rattle.parts.proofs.laws.chart_laws_hold.Goals as goal

pub returns : goal.returns
returns c = record {
  join-longer-left = joins.longer-left;
  join-longer-right = joins.longer-right;
  join-knows-left = joins.known-left;
  join-knows-right = λ a b k same. joins.known-right a b same k;
  join-retires-left = joins.retired-left;
  join-retires-right = λ a b k same. joins.retired-right a b same k;
  join-usable = joins.usable-joined;
  join-agrees = joins.agrees_joined;
  join-self = joins.joined-self;
  join-again = joins.joined-again;
  cut-length = cuts.length-of-cut;
  cut-agrees = cuts.agrees-cut;
  cut-usable = cuts.usable-cut;
  cut_again = cuts.cut_twice;
  no-gap-whole = gaps.cut-whole;
  whole-no-gap = gaps.whole-gapless;
  extend-length = cuts.length-extended;
  extend-usable = cuts.usable-extended;
  extend-agrees = cuts.agrees-extended;
  retire-usable = cuts.usable-retired;
}
