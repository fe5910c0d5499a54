-- An operation as the invariants of the house keep it, seen as an operation of the history.
use Rattle.std.proofs.Common.{◌≡◌, ℕ, zero, suc, ◌<◌, Bool, true, false, List, [], ◌∷◌, map, length, get_or, Some, None, Option, refl, arith}
use Rattle.std.specs.List.{slice_get}
use Rattle.parts.specs.declared.stamps.Stamp.{Stamp}
use Rattle.replica.specs.declared.operations.Kind.{Kind}
use Rattle.replica.specs.declared.operations.Kind.TheVariants.{Read, Write}
use Rattle.invariants.proofs.Ops.{Op, op_at, is_writing}
use Rattle.invariants.proofs.Sets.{terminal}
use Rattle.history.specs.Operations.{Collection, Operation}
use Rattle.history.specs.Lines.{is_write}

abbrev stamp_if : Bool → Stamp → Option Stamp
stamp_if true st = Some st
stamp_if false st = None

abbrev collection_if : {C : Type 0} → Bool → Collection C → Option (Collection C)
collection_if true a = Some a
collection_if false a = None

-- what its collect answered, and where
abbrev pub collection_of : {C : Type 0} → Op C → Collection C
collection_of o = record { at = o.end; card = o.got_card; stamp = o.got_stamp }

unfoldable pub convert : {C : Type 0} → Op C → Operation C
convert o = record {
  terminal = terminal o.terminal;
  kind = o.kind;
  begun = o.begun;
  stamp = stamp_if o.settled o.stamp;
  collected = collection_if o.collected (collection_of o);
}

nth-map : {X Y : Type 0} (f : X → Y) (xs : List X) (k : ℕ) (d : X) → k < length xs → slice_get (map f xs) k ≡ Some (f (get_or xs k d))
nth-map f [] k d h = absurd (omega arith)
nth-map f (x ∷ xs) zero d h = refl
nth-map f (x ∷ xs) (suc k) d h = nth-map f xs k d (omega arith)

pub nth_in : {X Y : Type 0} (f : X → Y) (xs : List X) (k : ℕ) (q : Y) → slice_get (map f xs) k ≡ Some q → k < length xs
nth_in f [] k q h = absurd (grind arith)
nth_in f (x ∷ xs) zero q h = omega arith
nth_in f (x ∷ xs) (suc k) q h = let r = nth_in f xs k q h in omega arith

-- the operation at place k of the one list and of the other
module _ {C : Type 0} (first : C) (ops : List (Op C)) where
  pub op-nth : (k : ℕ) → k < length ops → slice_get (map convert ops) k ≡ Some (convert (op_at first ops k))
  unfolding op_at
  op-nth k h = nth-map convert ops k _ h

  pub op-is : (k : ℕ) (q : Operation C) → slice_get (map convert ops) k ≡ Some q → q ≡ convert (op_at first ops k)
  op-is k q h = let r = op-nth k (nth_in convert ops k q h) in cc

pub stamp-some : (b : Bool) (s t : Stamp) → stamp_if b s ≡ Some t → (b ≡ true) × (s ≡ t)
stamp-some true s t e = (refl, cc)
stamp-some false s t e = absurd (grind arith)

pub collection-some : {C : Type 0} (b : Bool) (a a' : Collection C) → collection_if b a ≡ Some a' → (b ≡ true) × (a ≡ a')
collection-some true a a' e = (refl, cc)
collection-some false a a' e = absurd (grind arith)

pub same_kind : {C : Type 0} (k : Kind C) → is_write k ≡ is_writing k
same_kind Read = refl
same_kind (Write c) = refl
