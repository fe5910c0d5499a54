use Rattle.std.proofs.Common.{◌≡◌, ◌<◌, true, length, ◌∙◌, arith, rules, length-set}
use Rattle.books.specs.Books.{table_groups}
use Rattle.books.proofs.Entries.{rest_more, each_more}
use Rattle.books.proofs.table.Table.add.Goals as goal

pub invariant_of-self : goal.invariant_of-self
invariant_of-self g c =
    let kind = g.G.GroupRule in
    let b = c.args.self.now in
    let e = c.args.group in
    let lt : b.count < length b.entries = omega arith in
    let sound : kind.sound e ≡ true = search rules in
    let full : kind.full e ≡ true = search rules in
    record {
      whole = length-set b.entries b.count e ∙ b.whole;
      within = omega arith;
      kept = each_more (λ e. kind.sound e ≡ true) kind.blank b.count b.entries e lt b.kept sound;
      wide = each_more (λ e. kind.full e ≡ true) kind.blank b.count b.entries e lt b.wide full;
      rest = rest_more kind.blank b.count table_groups b.entries e (omega arith) b.rest;
    }
