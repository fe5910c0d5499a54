-- Plain facts about the operations of a history, from which the law follows.
use Rattle.std.proofs.Common.{◌≡◌, ℕ, ◌<◌, ◌≤◌, true, false, ◌⊎◌, List, take, Some}
use Rattle.std.specs.List.{slice_get}
use Rattle.parts.specs.declared.counts.Terminal.{Terminal}
use Rattle.parts.specs.declared.stamps.Stamp.{Stamp}
use Rattle.parts.specs.Stamps.{below}
use Rattle.replica.specs.declared.operations.Kind.TheVariants.{Read, Write}
use Rattle.replica.specs.Replicas.{stamp_of}
use Rattle.history.specs.Events.{Event, begun, settled, collected, other}
use Rattle.history.specs.Operations.{Collection, Operation, operations_of}
use Rattle.history.specs.Lines.{is_write}
use Rattle.history.specs.Law.{Precedes, Settles, Collects}

-- a write, and its settle answered s
abbrev pub Named : {C : Type 0} → Operation C → C → Stamp → Type 0
Named p c s = (p.kind ≡ Write c) × (p.stamp ≡ Some s)

-- c and s are the first card and stamp, or those of a named write
abbrev pub Held : {C : Type 0} → C → Terminal → List (Operation C) → C → Stamp → Type 0
Held {C} first founder os c s =
    ((c ≡ first) × (s ≡ stamp_of 0 founder)) ⊎ ((j : ℕ) × (q : Operation C) × (slice_get os j ≡ Some q) × Named q c s)

-- what has to be true of stamps and cards
pub record Stamps {C : Type 0} (first : C) (founder : Terminal) (os : List (Operation C)) : Type 0 where
  -- two writes with one stamp are one
  pub names : (j k : ℕ) (p q : Operation C) (c d : C) (s : Stamp) → slice_get os j ≡ Some p → slice_get os k ≡ Some q → Named p c s → Named q d s → j ≡ k
  -- the count of a named write is not that of the first stamp
  pub counts : (k : ℕ) (p : Operation C) (c : C) (s : Stamp) → slice_get os k ≡ Some p → Named p c s → 1 ≤ s.count
  -- what a read collected is the first card or a named write's, with its stamp
  pub reads : (k : ℕ) (p : Operation C) (a : Collection C) → slice_get os k ≡ Some p → p.kind ≡ Read → p.collected ≡ Some a → Held first founder os a.card a.stamp
  -- what was collected before another was begun has no larger stamp, and a smaller one than a write
  pub rises : (j k : ℕ) (p q : Operation C) (s t : Stamp) → slice_get os j ≡ Some p → slice_get os k ≡ Some q → Precedes p q → p.stamp ≡ Some s → q.stamp ≡ Some t →
      (below t s ≡ false) × (is_write q.kind ≡ true → below s t ≡ true)

-- an event keeps the order begin, settle, collect at its terminal, and a collect answers what goes with the others
abbrev pub Fits : {C : Type 0} → List (Operation C) → Event C → Type 0
Fits os (begun i k) = Unit {0}
Fits os (settled i s) = Settles os i
Fits os (collected i c s) = Collects os i c s
Fits os other = Unit {0}

-- each event of the history, as of then
abbrev pub Orderly : {C : Type 0} → List (Event C) → Type 0
Orderly {C} history = (n : ℕ) (e : Event C) → slice_get history n ≡ Some e → Fits (operations_of (take n history)) e

-- what the operations of an orderly history keep
pub record Tidy {C : Type 0} (os : List (Operation C)) : Type 0 where
  -- they stand in the order begun
  pub rising : (j k : ℕ) (p q : Operation C) → slice_get os j ≡ Some p → slice_get os k ≡ Some q → j < k → p.begun < q.begun
  -- a collect comes after its operation was begun
  pub later : (k : ℕ) (p : Operation C) (a : Collection C) → slice_get os k ≡ Some p → p.collected ≡ Some a → p.begun < a.at
  -- and answers the stamp that its settle answered
  pub stamped : (k : ℕ) (p : Operation C) (a : Collection C) → slice_get os k ≡ Some p → p.collected ≡ Some a → p.stamp ≡ Some a.stamp
