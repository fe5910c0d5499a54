use Rattle.std.proofs.Common.{◌≡◌, sym, ◌∙◌, rules, eq-eqb, eqb-true}
use lib.Bits.{bit_or}
use Rattle.parts.specs.Limits.{terminals}
use Rattle.parts.specs.Sets.{within}
use Rattle.parts.proofs.Bits.{nothing-added, each-bit}
use Rattle.parts.proofs.sets.TerminalSet.is_within.Goals as goal

pub returns-clause-means : goal.returns-clause-means
returns-clause-means c =
    let a = c.args.self.bits in
    let b = c.args.other.bits in
    let answer : c.eq.result ≡ within c.args.self c.args.other = search rules in (
      λ e t. each-bit a b (eqb-true (bit_or a b) b (sym answer ∙ e)) t.0,
      λ f. answer ∙ eq-eqb (bit_or a b) b (nothing-added terminals a b (search rules) (search rules) (λ k. f (record { 0 = k }))),
    )
