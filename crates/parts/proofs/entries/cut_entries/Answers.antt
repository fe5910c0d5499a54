use Rattle.std.proofs.Common.{arith}
use Rattle.parts.proofs.Walks.{cut-put}
use Rattle.parts.proofs.entries.cut_entries.Goals as goal

pub returns : goal.returns
returns c =
    let known = c.known_entries-known.ensures in
    cut-put _ _ _ _ known.value (omega (arith, known.within)) (c.fill.ensures.after (λ d h. h))
