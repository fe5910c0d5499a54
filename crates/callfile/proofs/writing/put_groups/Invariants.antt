use Rattle.std.proofs.Common.{◌*◌}
use Rattle.callfile.specs.Limits.{entry_width}
use Rattle.callfile.proofs.Pieces.{Put}
use Rattle.callfile.proofs.writing.put_groups.Given as goal

abbrev pub invariant-loop-i : goal.invariant-loop-i
invariant-loop-i g l = Put g.G.GroupKind.entry_bytes (g.T.GroupTable.groups l.book) l.initial.out (entry_width * l.i) l.i l.out
