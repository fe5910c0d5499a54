-- Every move keeps the invariant.
use Rattle.std.proofs.Common.{ℕ}
use Rattle.invariants.proofs.Books.{Book}
use Rattle.invariants.proofs.Entries.{EntryStamps, entered_at, entries-keep}
use Rattle.invariants.proofs.Invariant.{Inv}
use Rattle.invariants.proofs.KeepCharts.{keep-charts}
use Rattle.invariants.proofs.KeepGone.{keep-gone}
use Rattle.invariants.proofs.KeepNumbers.{keep-numbers}
use Rattle.invariants.proofs.KeepProps.{keep-props}
use Rattle.invariants.proofs.KeepRetires.{keep-retires}
use Rattle.invariants.proofs.Moves.{Move}
use Rattle.invariants.proofs.Views.{View}

pub keep : {C : Type 0} {B : Book} {s s' : View C} {E : EntryStamps} {i : ℕ} → Inv B s E → Move B s E s' i → Inv B s' (entered_at s' E)
keep {E = E} v mv = record {
  charts = keep-charts v.charts mv;
  numbers = keep-numbers v.numbers mv;
  entries = entries-keep E mv.step v.entries;
  gone = keep-gone v.entries v.gone mv;
  retires = keep-retires v.numbers v.entries v.retires mv;
  props = keep-props v.numbers v.entries v.gone v.props mv;
}
