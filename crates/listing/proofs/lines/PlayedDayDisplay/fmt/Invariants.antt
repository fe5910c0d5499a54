use Rattle.std.proofs.Common.{◌≡◌, ℕ, List, ◌++◌}
use Rattle.std.specs.Fmt.{HasWritten, IsPlainFormatter}
use Rattle.std.specs.Iterator.Adapters.{enumerate_count, enumerate_source, zip_first, zip_second}
use Rattle.std.specs.Slice.Iter.{iter_rest}
use Rattle.listing.specs.Listings.{call_lines}
use Rattle.listing.proofs.lines.PlayedDayDisplay.fmt.Given as goal

abbrev pub invariant-loop-index : goal.invariant-loop-index
invariant-loop-index g l =
    let zip = enumerate_source l.index-iterator in
    IsPlainFormatter l.initial.f → (done : List ℕ) × HasWritten g.W.Write.write_str_gives l.initial.f done l.f
    × (done ++ call_lines g.C.CardKind.shape (enumerate_count l.index-iterator) (iter_rest (zip_first zip)) (iter_rest (zip_second zip))
    ≡ call_lines g.C.CardKind.shape 0 l.self.calls.now l.self.outcomes.now)
