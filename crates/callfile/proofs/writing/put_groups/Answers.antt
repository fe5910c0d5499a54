use Rattle.std.proofs.Common.{◌≡◌, ℕ, ◌-◌, ◌*◌, ◌+◌, ◌<◌, length, subst, arith, rules}
use borrow.Rule.Slice.PartMut.{put_mid}
use Rattle.callfile.specs.Limits.{entry_width}
use Rattle.callfile.proofs.Pieces.{Put, put_room, put_again, item_is, item-keeps, was-written}
use Rattle.callfile.proofs.writing.put_groups.Goals as goal

pub slice_bounds-entry-end : goal.slice_bounds-entry-end
slice_bounds-entry-end g c =
    let k = g.G.GroupKind in let t = c.args.book.now in let gs = g.T.GroupTable.groups t in let i = c.loop-i.i in
    let below : i < length gs = search rules in
    let x = c.unwrap-group.result in
    let is = item_is gs i below c.group_at.result c.group_at.ensures x c.unwrap-group.ensures in
    let kept = item-keeps gs i below c.group_at.result c.group_at.ensures x c.unwrap-group.ensures k.keeps (g.met.T.GroupTable.ruled t) in
    let r = put_room k.entry_bytes gs c.args.out.now (entry_width * i) i c.loop-i.out c.loop-i.invariant below x is c.requires entry_width (g.met.G.GroupKind.wide x kept) in
    search rules

pub loop-i-preserved : goal.loop-i-preserved
loop-i-preserved g c =
    let k = g.G.GroupKind in let t = c.args.book.now in let gs = g.T.GroupTable.groups t in let i = c.loop-i.i in
    let below : i < length gs = search rules in
    let x = c.unwrap-group.result in
    let is = item_is gs i below c.group_at.result c.group_at.ensures x c.unwrap-group.ensures in
    let kept = item-keeps gs i below c.group_at.result c.group_at.ensures x c.unwrap-group.ensures k.keeps (g.met.T.GroupTable.ruled t) in
    let s : entry_width * i + entry_width ≡ entry_width * (i + 1) = omega arith in
    let after = put_mid (entry_width * i) (entry_width * i + entry_width - entry_width * i) c.loop-i.out c.write_group.new.out in
    subst (λ (b : ℕ). Put k.entry_bytes gs c.args.out.now b (i + 1) after) s
    (put_again k.entry_bytes gs c.args.out.now (entry_width * i) i c.loop-i.out c.loop-i.invariant below x is entry_width (g.met.G.GroupKind.wide x kept) c.write_group.new.out (was-written entry_width k.entry_bytes x _ c.write_group.new.out c.write_group.result tt c.write_group.ensures c.unwrap.ensures))
