-- The causes that every call looks at first: 18 the tables, 1 a named terminal, 2 a crash, 3 the status.
use Rattle.std.specs.Prelude.{Bool, true, false, cond, Some, None, Ok, Err, Option, Result, nat_lt}
use Rattle.std.specs.List.{slice_get}
use Rattle.parts.specs.declared.counts.Terminal.{Terminal}
use Rattle.replica.specs.declared.refusals.Refusal.{Refusal}
use Rattle.replica.specs.declared.refusals.Refusal.TheVariants.{NoTerminal, Crashed, WrongStatus, WrongTables}
use Rattle.replica.specs.declared.replicas.Replica.{Replica}
use Rattle.replica.specs.declared.replicas.Status.{Status}
use Rattle.replica.specs.declared.replicas.Status.TheVariants.{Idle, Joining, Active}
use Rattle.house.specs.declared.guarding.Need.{Need}
use Rattle.house.specs.declared.guarding.Need.TheVariants.{ToBeIdle, ToBeJoining, ToBeActive, NotToBeIdle, Nothing}
use Rattle.house.specs.States.{State, tables_fit, seated}

-- what a call needs of the acting terminal's status
abbrev pub meets : Need → Status → Bool
meets ToBeIdle Idle = true
meets ToBeIdle Joining = false
meets ToBeIdle Active = false
meets ToBeJoining Idle = false
meets ToBeJoining Joining = true
meets ToBeJoining Active = false
meets ToBeActive Idle = false
meets ToBeActive Joining = false
meets ToBeActive Active = true
meets NotToBeIdle Idle = false
meets NotToBeIdle Joining = true
meets NotToBeIdle Active = true
meets Nothing s = true

module _ {C : Type 0} where
  -- the acting terminal, unless it does not exist, has crashed, or has a status that the call does not want
  abbrev pub ready : Need → Option (Replica C) → Result (Replica C) Refusal
  ready n None = Err NoTerminal
  ready n (Some t) = cond t.crashed (Err Crashed) (cond (meets n t.status) (Ok t) (Err WrongStatus))

module _ {B C : Type 0} where
  -- the row of terminal i, if both i and the other named terminal j exist
  abbrev pub named : Terminal → Terminal → State B C → Option (Replica C)
  named i j s = cond (nat_lt j.0 s.size) (slice_get s.replicas i.0) None

  -- the acting terminal i of a call that names i and j, or the first of the causes 18, 1, 2, 3
  abbrev pub acting : Need → Terminal → Terminal → State B C → Result (Replica C) Refusal
  acting n i j s = cond (tables_fit s) (ready n (named i j s)) (Err WrongTables)

  -- the row of terminal i is what the call makes of it, unless the call is declined: then all is as it was
  abbrev pub kept : {A : Type 0} → Terminal → Result A Refusal × Replica C → State B C → Result A Refusal × State B C
  kept i (Ok a, t) s = (Ok a, seated i t s)
  kept i (Err e, t) s = (Err e, s)

-- the same with another answer
abbrev pub mapped : {A A' : Type 0} → (A → A') → Result A Refusal → Result A' Refusal
mapped f (Ok a) = Ok (f a)
mapped f (Err e) = Err e

abbrev pub answering : {A A' S : Type 0} → (A → A') → Result A Refusal × S → Result A' Refusal × S
answering f o = (mapped f o.0, o.1)
