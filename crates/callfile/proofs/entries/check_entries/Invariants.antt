use Rattle.std.proofs.Common.{◌/◌, length}
use Rattle.callfile.specs.Limits.{entry_width}
use Rattle.callfile.proofs.EntryWalks.{EntriesLeft}
use Rattle.callfile.proofs.entries.check_entries.Given as goal

abbrev pub invariant-loop-i : goal.invariant-loop-i
invariant-loop-i g l = EntriesLeft g.G.GroupKind.entry_of (length l.fn.entries / entry_width) l.fn.entries l.i
