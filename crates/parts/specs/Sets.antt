-- Sets of terminals (of replicas): bit t of the number is terminal t.
use Rattle.std.specs.Prelude.{◌≡◌, ℕ, ◌/◌, ◌%◌, ◌^◌, Bool, true, cond, ◌==◌, bit_or, nat_lt}
use Rattle.parts.specs.declared.counts.Terminal.{Terminal}
use Rattle.parts.specs.declared.sets.TerminalSet.{TerminalSet}
use Rattle.parts.specs.Limits.{terminals}

-- bit k of a number
abbrev pub bit_of : ℕ → ℕ → Bool
bit_of n k = n / 2 ^ k % 2 == 1

-- terminal t is in the set
abbrev pub has : TerminalSet → Terminal → Bool
has s t = bit_of s.bits t.0

-- the set with these bits
abbrev pub of_bits : ℕ → TerminalSet
of_bits n = record { bits = n }

-- the set without a terminal
abbrev pub nobody : TerminalSet
nobody = of_bits 0

-- all of one set and all of another
abbrev pub union : TerminalSet → TerminalSet → TerminalSet
union s s' = of_bits (bit_or s.bits s'.bits)

-- the set and terminal t; a terminal past the limit has no bit and is left out
abbrev pub with_one : TerminalSet → Terminal → TerminalSet
with_one s t = cond (nat_lt t.0 terminals) (of_bits (bit_or s.bits (2 ^ t.0))) s

-- the set of terminal t alone
abbrev pub only : Terminal → TerminalSet
only t = with_one nobody t

-- the first set lies within the second: it adds nothing to it
abbrev pub within : TerminalSet → TerminalSet → Bool
within s s' = (union s s').bits == s'.bits

-- each terminal of the first set is in the second
abbrev pub Within : TerminalSet → TerminalSet → Type 0
Within s s' = (t : Terminal) → has s t ≡ true → has s' t ≡ true

-- some terminal is in both sets
abbrev pub Meet : TerminalSet → TerminalSet → Type 0
Meet s s' = (t : Terminal) × (has s t ≡ true) × (has s' t ≡ true)
