-- The order of stamps (tags).
use Rattle.std.specs.Prelude.{◌+◌, Bool, cond, Option, Some, None, ◌&&◌, ◌||◌, ◌==◌, nat_lt}
use Rattle.parts.specs.declared.counts.Terminal.{Terminal}
use Rattle.parts.specs.declared.stamps.Stamp.{Stamp}
use Rattle.parts.specs.Limits.{last_number}

-- the larger count wins, and of equal counts the larger terminal
abbrev pub below : Stamp → Stamp → Bool
below a b = nat_lt a.count b.count || (a.count == b.count && nat_lt a.terminal.0 b.terminal.0)

-- the terminal's stamp with the next count; after the last count there is none
abbrev pub next_stamp : Stamp → Terminal → Option Stamp
next_stamp a i = cond (nat_lt a.count last_number) (Some (record { count = a.count + 1; terminal = i })) None
