-- A day: what a call file holds.
use Rattle.std.specs.Prelude.{ℕ, List, length, Ok, Result}
use Rattle.parts.specs.declared.counts.Terminal.{Terminal}
use Rattle.parts.specs.declared.calls.Call.{Call}
use Rattle.callfile.specs.declared.faults.Fault.{Fault}
use Rattle.callfile.specs.declared.summary.Summary.{Summary}
use Rattle.callfile.specs.Faults.{and_then}

-- how many terminals, which of them is the founder, the groups, the first card and the calls; C is the kind of card, G the kind of group
pub record Day (C G : Type 0) : Type 0 where
  pub terminals : ℕ
  pub founder : Terminal
  pub groups : List G
  pub first : C
  pub calls : List (Call C)

-- a day in few words
abbrev pub summary : {C G : Type 0} → Day C G → Summary C
summary d = record { founding = record { terminals = d.terminals; founder = d.founder; first = d.first }; groups = length d.groups; calls = length d.calls }

-- a reading in few words
abbrev pub summed : {C G : Type 0} → Result (Day C G) Fault → Result (Summary C) Fault
summed r = and_then r (λ d. Ok (summary d))
