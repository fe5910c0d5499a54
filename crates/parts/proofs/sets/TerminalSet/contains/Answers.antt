use Rattle.std.proofs.Common.{◌^◌, ◌<◌, sym, ◌∙◌, rules}
use Rattle.std.proofs.lemmas.Bool.{le-ltb}
use Rattle.parts.specs.Limits.{terminals}
use Rattle.parts.proofs.Bits.{bit_past}
use Rattle.parts.proofs.sets.TerminalSet.contains.Goals as goal

pub returns-else-t : goal.returns-else-t
returns-else-t c =
    let fits : c.args.self.bits < 2 ^ terminals = search rules in
    le-ltb _ _ c.if-t.false ∙ sym (bit_past terminals c.args.self.bits c.args.t.0 fits c.if-t.false)
