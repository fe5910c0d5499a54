-- The line of the operations, and the plain cell that is fed it.
use Rattle.std.specs.Prelude.{ℕ, Bool, true, false, cond, List, [], ◌∷◌, is_some, Some, filter, Option, nat_lt}
use Rattle.std.specs.Option.{unwrap_or, option_map}
use Rattle.parts.specs.declared.stamps.Stamp.{Stamp}
use Rattle.parts.specs.Stamps.{below}
use Rattle.replica.specs.declared.operations.Kind.{Kind}
use Rattle.replica.specs.declared.operations.Kind.TheVariants.{Read, Write}
use Rattle.replica.specs.Replicas.{stamp_of}
use Rattle.history.specs.Events.{Event}
use Rattle.history.specs.Operations.{Collection, Operation, operations_of}

module _ {C : Type 0} where
  abbrev pub is_write : Kind C → Bool
  is_write Read = false
  is_write (Write c) = true

  -- a write belongs in the line once it is named, that is once its settle is accepted, and a read once it is collected
  abbrev pub belongs : Kind C → Option Stamp → Option (Collection C) → Bool
  belongs Read named collection = is_some collection
  belongs (Write c) named collection = is_some named

  abbrev pub in_line : Operation C → Bool
  in_line o = belongs o.kind o.stamp o.collected

  -- what its settle answered; where the law holds, every operation in line has been settled
  abbrev pub settled_stamp : Operation C → Stamp
  settled_stamp o = unwrap_or o.stamp (stamp_of 0 (record { 0 = 0 }))

  -- the card of an operation: the one handed to write, or for a read the one collected
  abbrev pub card_by : Kind C → Option (Collection C) → Option C
  card_by Read collection = option_map (λ a. a.card) collection
  card_by (Write c) collection = Some c

  abbrev pub card_of : Operation C → Option C
  card_of o = card_by o.kind o.collected

  -- writes, then reads, each in the order begun
  abbrev pub sooner : Kind C → ℕ → Kind C → ℕ → Bool
  sooner Read m Read n = nat_lt m n
  sooner Read m (Write d) n = false
  sooner (Write c) m Read n = true
  sooner (Write c) m (Write d) n = nat_lt m n

  -- smaller stamps first; of equal stamps writes, then reads, each in the order begun
  unfoldable pub ahead : Operation C → Operation C → Bool
  ahead p q =
      cond (below (settled_stamp p) (settled_stamp q)) true
      (cond (below (settled_stamp q) (settled_stamp p)) false (sooner p.kind p.begun q.kind q.begun))

  -- p put in front of the first that it is ahead of
  unfoldable pub insert : Operation C → List (Operation C) → List (Operation C)
  insert p [] = p ∷ []
  insert p (q ∷ qs) = cond (ahead p q) (p ∷ q ∷ qs) (q ∷ insert p qs)

  unfoldable pub sorted : List (Operation C) → List (Operation C)
  sorted [] = []
  sorted (p ∷ ps) = insert p (sorted ps)

  -- the operations in line, each ahead of those behind it
  unfoldable pub line : List (Operation C) → List (Operation C)
  line os = sorted (filter in_line os)

  -- the line of a history
  abbrev pub line_of : List (Event C) → List (Operation C)
  line_of history = line (operations_of history)

  -- a write replaces the card of the plain cell, a read leaves it
  abbrev pub fed : C → Kind C → C
  fed c Read = c
  fed c (Write d) = d

  -- the card of the plain cell when it has been fed these, one after the other
  unfoldable pub cell_after : C → List (Operation C) → C
  cell_after c [] = c
  cell_after c (p ∷ ps) = cell_after (fed c p.kind) ps
