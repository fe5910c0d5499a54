-- The law of the line (atomicity): what must be true of every history of a house.
use Rattle.std.specs.Prelude.{◌≡◌, ℕ, ◌<◌, true, List, take, Some, None, filter}
use Rattle.std.specs.List.{slice_get}
use Rattle.std.specs.List.Sorted.{IsPermutation}
use Rattle.parts.specs.declared.counts.Terminal.{Terminal}
use Rattle.parts.specs.declared.stamps.Stamp.{Stamp}
use Rattle.replica.specs.declared.operations.Kind.TheVariants.{Read, Write}
use Rattle.history.specs.Events.{Event, settled, collected}
use Rattle.history.specs.Operations.{Collection, Operation, operations_of, Last}
use Rattle.history.specs.Lines.{is_write, in_line, card_of, ahead, line, line_of, cell_after}

-- p was collected before q was begun
abbrev pub Precedes : {C : Type 0} → Operation C → Operation C → Type 0
Precedes {C} p q = (a : Collection C) × (p.collected ≡ Some a) × (a.at < q.begun)

-- with these operations begun, a settle at i is the first answer to the last one there
pub record Settles {C : Type 0} (os : List (Operation C)) (i : Terminal) : Type 0 where
  pub place : ℕ
  pub operation : Operation C
  pub last : Last os i place operation
  pub unsettled : operation.stamp ≡ None
  pub uncollected : operation.collected ≡ None

-- with these operations begun, a collect at i that answers c and s is the only one of the last one there; the settle of
-- that one has answered s, and if it is a write, it was handed c
pub record Collects {C : Type 0} (os : List (Operation C)) (i : Terminal) (c : C) (s : Stamp) : Type 0 where
  pub place : ℕ
  pub operation : Operation C
  pub last : Last os i place operation
  pub stamp : operation.stamp ≡ Some s
  pub uncollected : operation.collected ≡ None
  pub card : (d : C) → operation.kind ≡ Write d → d ≡ c

pub record Atomic {C : Type 0} (first : C) (history : List (Event C)) : Type 0 where
  -- no two writes in the line have one stamp
  pub unique : (j k : ℕ) (p q : Operation C) → slice_get (line_of history) j ≡ Some p → slice_get (line_of history) k ≡ Some q →
      is_write p.kind ≡ true → is_write q.kind ≡ true → p.stamp ≡ q.stamp → j ≡ k
  -- a plain cell that starts with the first card and is fed the line answers each read the card that it collected
  pub cell : (k : ℕ) (p : Operation C) → slice_get (line_of history) k ≡ Some p → p.kind ≡ Read → card_of p ≡ Some (cell_after first (take k (line_of history)))
  -- of two in the line, what was collected before the other was begun stands ahead of it
  pub order : (j k : ℕ) (p q : Operation C) → slice_get (line_of history) j ≡ Some p → slice_get (line_of history) k ≡ Some q → Precedes p q → j < k
  -- every accepted collect answers the stamp that the settle of its operation answered, and a write's the card written
  pub collects : (n : ℕ) (i : Terminal) (c : C) (s : Stamp) → slice_get history n ≡ Some (collected i c s) → Collects (operations_of (take n history)) i c s
  -- every accepted settle is the only one of its operation, and comes before its collect
  pub settles : (n : ℕ) (i : Terminal) (s : Stamp) → slice_get history n ≡ Some (settled i s) → Settles (operations_of (take n history)) i

-- xs has each of the operations in line once, and each ahead of those behind it
pub record Arranged {C : Type 0} (os xs : List (Operation C)) : Type 0 where
  pub members : IsPermutation (filter in_line os) xs
  pub order : (j k : ℕ) (p q : Operation C) → j < k → slice_get xs j ≡ Some p → slice_get xs k ≡ Some q → ahead p q ≡ true

-- the line is so arranged, and no other list is
pub record Lined {C : Type 0} (os : List (Operation C)) : Type 0 where
  pub arranged : Arranged os (line os)
  pub only : (xs : List (Operation C)) → Arranged os xs → xs ≡ line os
