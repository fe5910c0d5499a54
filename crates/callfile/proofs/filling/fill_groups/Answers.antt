use Rattle.std.proofs.Common.{◌<◌, ◌/◌, length, arith}
use Rattle.callfile.specs.Limits.{entry_width}
use Rattle.callfile.proofs.GroupFills.{room_there, groups_again}
use Rattle.callfile.proofs.filling.fill_groups.Goals as goal

pub unwrap-requires : goal.unwrap-requires
unwrap-requires g c =
    let k = g.G.GroupKind in let xs = c.args.entries.now in let i = c.loop-entry.entry-index in
    let below : i < length xs / entry_width = grind arith in
    room_there k.entry_of k.keeps g.met.G.GroupKind.kept _ xs i _ c.loop-entry.invariant below c.requires.0 _ c.as_chunks.ensures.front _ _ c.append_entry.ensures

pub loop-entry-preserved : goal.loop-entry-preserved
loop-entry-preserved g c =
    let k = g.G.GroupKind in let xs = c.args.entries.now in let i = c.loop-entry.entry-index in
    let below : i < length xs / entry_width = grind arith in
    groups_again k.entry_of k.keeps g.met.G.GroupKind.kept _ xs i _ c.loop-entry.invariant below c.requires.0 _ c.as_chunks.ensures.front _ _ c.append_entry.ensures
