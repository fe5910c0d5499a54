use Rattle.std.proofs.Common.{rules}
use Rattle.listing.proofs.HexTexts.{byte_shown}
use Rattle.listing.proofs.lines.HexByteDisplay.fmt.Goals as goal

pub returns-clause-writes : goal.returns-clause-writes
returns-clause-writes g c p ok =
    let shown = byte_shown c.in_radix.result c.laid_out.result c.args.self.now.0 (search rules) c.in_radix.ensures c.laid_out.ensures in
    rw shown at c.write.ensures.writes p ok
