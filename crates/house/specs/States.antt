-- A house with the tables that the caller lends it.
use Rattle.std.specs.Prelude.{ℕ, Bool, ◌&&◌, List, length, take, ◌==◌, slice_set}
use Rattle.parts.specs.declared.counts.Group.{Group}
use Rattle.parts.specs.declared.counts.Terminal.{Terminal}
use Rattle.parts.specs.Limits.{messages as pool_size}
use Rattle.replica.specs.declared.messages.Message.{Message}
use Rattle.replica.specs.declared.replicas.Replica.{Replica}
use Rattle.house.specs.declared.house.House.{House}

-- all that a call sees and may change
pub record State (B C : Type 0) : Type 0 where
  -- the book of groups, which never changes
  pub book : B
  -- the number of terminals
  pub size : ℕ
  pub founder : Terminal
  -- the groups in the order of their places
  pub listed : List Group
  -- how many messages the pool holds: the first ones of the table
  pub waiting : ℕ
  -- the caller's two tables
  pub replicas : List (Replica C)
  pub messages : List (Message C)

module _ {B C : Type 0} where
  -- the state of a house with these tables
  abbrev pub state : House B → List (Replica C) → List (Message C) → State B C
  state h rs ms = record {
    book = h.book;
    size = h.size;
    founder = h.founder;
    listed = take h.places h.listed;
    waiting = h.waiting;
    replicas = rs;
    messages = ms;
  }

  -- the tables have a row for each terminal and the pool's rows
  abbrev pub tables_fit : State B C → Bool
  tables_fit s = length s.replicas == s.size && length s.messages == pool_size

  -- the state with another row for terminal i
  abbrev pub seated : Terminal → Replica C → State B C → State B C
  seated i t s = record {
    book = s.book;
    size = s.size;
    founder = s.founder;
    listed = s.listed;
    waiting = s.waiting;
    replicas = slice_set s.replicas i.0 t;
    messages = s.messages;
  }

  -- the state with another list of places
  abbrev pub relisted : List Group → State B C → State B C
  relisted gs s = record {
    book = s.book;
    size = s.size;
    founder = s.founder;
    listed = gs;
    waiting = s.waiting;
    replicas = s.replicas;
    messages = s.messages;
  }

  -- the state with so many messages in this pool
  abbrev pub pooled : ℕ → List (Message C) → State B C → State B C
  pooled n ms s = record {
    book = s.book;
    size = s.size;
    founder = s.founder;
    listed = s.listed;
    waiting = n;
    replicas = s.replicas;
    messages = ms;
  }
