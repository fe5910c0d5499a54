-- The operations that are found in a history.
use Rattle.std.specs.Prelude.{◌≡◌, ℕ, suc, ◌<◌, Bool, false, cond, ◌||◌, ◌≢◌, List, [], ◌∷◌, ◌++◌, Some, None, Option, ◌==◌}
use Rattle.std.specs.List.{slice_get}
use Rattle.parts.specs.declared.counts.Terminal.{Terminal}
use Rattle.parts.specs.declared.stamps.Stamp.{Stamp}
use Rattle.replica.specs.declared.operations.Kind.{Kind}
use Rattle.history.specs.Events.{Event, begun, settled, collected, other}

-- a collect: its position in the history, and what it answered
pub record Collection (C : Type 0) : Type 0 where
  pub at : ℕ
  pub card : C
  pub stamp : Stamp

-- an operation: its terminal, read or write with the card, the position at which it was begun, what its settle
-- answered, and its collect
pub record Operation (C : Type 0) : Type 0 where
  pub terminal : Terminal
  pub kind : Kind C
  pub begun : ℕ
  pub stamp : Option Stamp
  pub collected : Option (Collection C)

module _ {C : Type 0} where
  -- an operation that is begun at position n
  abbrev pub started : ℕ → Terminal → Kind C → Operation C
  started n i k = record { terminal = i; kind = k; begun = n; stamp = None; collected = None }

  abbrev pub with_stamp : Stamp → Operation C → Operation C
  with_stamp s o = record { terminal = o.terminal; kind = o.kind; begun = o.begun; stamp = Some s; collected = o.collected }

  abbrev pub with_collection : Collection C → Operation C → Operation C
  with_collection a o = record { terminal = o.terminal; kind = o.kind; begun = o.begun; stamp = o.stamp; collected = Some a }

  -- one of them is at terminal i
  unfoldable pub any_at : Terminal → List (Operation C) → Bool
  any_at i [] = false
  any_at i (o ∷ os) = o.terminal.0 == i.0 || any_at i os

  -- what f makes of the last one at terminal i; the others stay
  unfoldable pub at_last : Terminal → (Operation C → Operation C) → List (Operation C) → List (Operation C)
  at_last i f [] = []
  at_last i f (o ∷ os) = cond (any_at i os) (o ∷ at_last i f os) (cond (o.terminal.0 == i.0) (f o ∷ os) (o ∷ os))

  -- what the event at position n makes of the operations: a settle or a collect goes with the last one begun at its terminal
  unfoldable pub after : ℕ → Event C → List (Operation C) → List (Operation C)
  after n (begun i k) os = os ++ started n i k ∷ []
  after n (settled i s) os = at_last i (with_stamp s) os
  after n (collected i c s) os = at_last i (with_collection (record { at = n; card = c; stamp = s })) os
  after n other os = os

  -- the same of all events from position n on
  unfoldable pub operations_from : ℕ → List (Operation C) → List (Event C) → List (Operation C)
  operations_from n os [] = os
  operations_from n os (e ∷ es) = operations_from (suc n) (after n e os) es

  -- the operations of a history, in the order begun
  unfoldable pub operations_of : List (Event C) → List (Operation C)
  unfolding operations_from
  operations_of history = operations_from 0 [] history

-- the operation at place k is the last one at terminal i
pub record Last {C : Type 0} (os : List (Operation C)) (i : Terminal) (k : ℕ) (o : Operation C) : Type 0 where
  pub here : slice_get os k ≡ Some o
  pub own : o.terminal ≡ i
  pub last : (j : ℕ) (q : Operation C) → k < j → slice_get os j ≡ Some q → q.terminal ≢ i
