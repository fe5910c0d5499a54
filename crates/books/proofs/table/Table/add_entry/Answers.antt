use Rattle.std.proofs.Common.{◌≡◌, ◌<◌, true, length, get_or, drop, ap, ◌∙◌, arith, rules, length-set}
use Rattle.books.specs.Books.{table_groups}
use Rattle.books.proofs.Entries.{rest_more, each_more, set_back, blank-next}
use Rattle.books.proofs.table.Table.add_entry.Goals as goal

-- the entry that was lent is blank again, and so the table is as it was
pub invariant_of-self-then-not-keeps_rule : goal.invariant_of-self-then-not-keeps_rule
invariant_of-self-then-not-keeps_rule g c =
    let kind = g.G.GroupRule in
    let b = c.args.self.now in
    let is = set_back kind.blank b.count b.entries c.blank.result (c.blank.ensures ∙ blank-next kind.blank b.count table_groups b.entries (omega arith) b.rest) in
    record {
      whole = ap length is ∙ b.whole;
      within = b.within;
      kept = λ k h. ap (λ es. kind.sound (get_or es k kind.blank)) is ∙ b.kept k h;
      wide = λ k h. ap (λ es. kind.full (get_or es k kind.blank)) is ∙ b.wide k h;
      rest = ap (drop b.count) is ∙ b.rest;
    }

pub invariant_of-self-2 : goal.invariant_of-self-2
invariant_of-self-2 g c =
    let kind = g.G.GroupRule in
    let b = c.args.self.now in
    let e = c.read_into.new.entry in
    let lt : b.count < length b.entries = omega arith in
    let sound : kind.sound e ≡ true = search rules in
    let full : kind.full e ≡ true = search rules in
    record {
      whole = length-set b.entries b.count e ∙ b.whole;
      within = omega arith;
      kept = each_more (λ e. kind.sound e ≡ true) kind.blank b.count b.entries e lt b.kept sound;
      wide = each_more (λ e. kind.full e ≡ true) kind.blank b.count b.entries e lt b.wide full;
      rest = rest_more kind.blank b.count table_groups b.entries e (omega arith) b.rest;
    }
