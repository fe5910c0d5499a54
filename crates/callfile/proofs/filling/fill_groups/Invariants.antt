use Rattle.std.proofs.Common.{◌/◌, length}
use Rattle.callfile.specs.Limits.{entry_width}
use Rattle.callfile.proofs.GroupFills.{GroupsLeft}
use Rattle.callfile.proofs.filling.fill_groups.Given as goal

abbrev pub invariant-loop-entry : goal.invariant-loop-entry
invariant-loop-entry g l = GroupsLeft g.G.GroupKind.entry_of (length l.fn.entries / entry_width) l.fn.entries l.entry-index (g.T.GroupTable.groups l.book)
