-- Phase numbers in their order.
use Rattle.std.specs.Prelude.{◌+◌, cond, Option, Some, None, nat_lt}
use Rattle.parts.specs.declared.counts.PhaseNumber.{PhaseNumber}
use Rattle.parts.specs.Limits.{last_number}

-- the number after this one; after the last there is none
abbrev pub next_number : PhaseNumber → Option PhaseNumber
next_number n = cond (nat_lt n.0 last_number) (Some (record { 0 = n.0 + 1 })) None
