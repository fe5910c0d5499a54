-- The operations that were begun, each with what became of it.
use Rattle.std.proofs.Common.{◌≡◌, ℕ, Bool, true, false, List, get_or}
use Rattle.parts.specs.declared.stamps.Stamp.{Stamp}
use Rattle.replica.specs.declared.operations.Kind.{Kind}
use Rattle.replica.specs.declared.operations.Kind.TheVariants.{Read, Write}
use Rattle.replica.specs.Replicas.{stamp_of}
use Rattle.invariants.proofs.Sets.{terminal}

pub record Op (C : Type 0) : Type 0 where
  -- the number of its terminal
  pub terminal : ℕ
  -- a read, or a write with its card
  pub kind : Kind C
  -- the position of the call that began it
  pub begun : ℕ
  -- whether it was settled, and the stamp that its settle answered
  pub settled : Bool
  pub stamp : Stamp
  -- whether it was collected, the position of that call, and the pair that it answered
  pub collected : Bool
  pub end : ℕ
  pub got_card : C
  pub got_stamp : Stamp

-- the stamp that every terminal holds at the opening
abbrev pub zero_stamp : ℕ → Stamp
zero_stamp founder = stamp_of 0 (terminal founder)

module _ {C : Type 0} where
  -- an operation that is begun now
  unfoldable pub new_op : C → ℕ → Kind C → ℕ → Op C
  new_op first i k now = record {
    terminal = i;
    kind = k;
    begun = now;
    settled = false;
    stamp = zero_stamp 0;
    collected = false;
    end = 0;
    got_card = first;
    got_stamp = zero_stamp 0;
  }

  -- the operation once its settle has answered a stamp
  unfoldable pub settled_op : Op C → Stamp → Op C
  settled_op o st = record {
    terminal = o.terminal;
    kind = o.kind;
    begun = o.begun;
    settled = true;
    stamp = st;
    collected = o.collected;
    end = o.end;
    got_card = o.got_card;
    got_stamp = o.got_stamp;
  }

  -- the operation once its collect, made now, has answered a pair
  unfoldable pub collected_op : Op C → ℕ → C → Stamp → Op C
  collected_op o now c st = record {
    terminal = o.terminal;
    kind = o.kind;
    begun = o.begun;
    settled = o.settled;
    stamp = o.stamp;
    collected = true;
    end = now;
    got_card = c;
    got_stamp = st;
  }

  -- operation x; past the end one that is neither settled nor collected
  unfoldable pub op_at : C → List (Op C) → ℕ → Op C
  op_at first ops x = get_or ops x (new_op first 0 Read 0)

  abbrev pub is_writing : Kind C → Bool
  is_writing Read = false
  is_writing (Write c) = true

-- where a card and its stamp come from: they are the first ones, or those of a write that was settled
pub data ValueOf {C : Type 0} (first : C) (founder : ℕ) (O : ℕ → Op C) (c : C) (st : Stamp) : Type 0 where
  from_first : c ≡ first → st ≡ zero_stamp founder → ValueOf first founder O c st
  from-write : (x : ℕ) → (O x).settled ≡ true → (O x).kind ≡ Write c → (O x).stamp ≡ st → ValueOf first founder O c st
