-- a number from its two bytes
use Rattle.std.specs.Prelude.{◌≡◌, ℕ, ◌+◌, ◌*◌}
use Rattle.std.proofs.Common.{arith}
use Rattle.cards.specs.Words.{low, high}

pub word-there : (n : ℕ) → low n + 256 * high n ≡ n
word-there n = omega arith
