-- Calls as they are offered to a house, one after the other, and the law over all of them.
use Rattle.std.specs.Prelude.{◌≡◌, ℕ, Bool, false, ◌&&◌, List, [], ◌∷◌, map, length, Ok, ◌==◌}
use Rattle.parts.specs.declared.calls.Call.{Call}
use Rattle.parts.specs.declared.counts.Group.{Group}
use Rattle.parts.specs.declared.counts.Terminal.{Terminal}
use Rattle.parts.specs.declared.sets.TerminalSet.{TerminalSet}
use Rattle.parts.specs.Limits.{messages as pool_size}
use Rattle.replica.specs.declared.messages.Message.{Message}
use Rattle.replica.specs.declared.replicas.Replica.{Replica}
use Rattle.house.specs.Calls.{Outcome, step}
use Rattle.house.specs.Opening.{open_step}
use Rattle.house.specs.States.{State}
use Rattle.house.specs.Steps.{Rule}
use Rattle.history.specs.Events.{Event, history_of}
use Rattle.history.specs.Operations.{operations_of}
use Rattle.history.specs.Law.{Atomic, Lined}

module _ {C : Type 0} where
  -- the tables have the lengths that a house of n terminals wants
  abbrev pub fitting : ℕ → List (Replica C) → List (Message C) → Bool
  fitting n rs ms = length rs == n && length ms == pool_size

-- a call that is offered to a house of n terminals
pub data Offer (C : Type 0) (n : ℕ) : Type 0 where
  -- with the house's own tables, as the last call left them
  own : Call C → Offer C n
  -- with tables of another length
  strange : Call C → (rs : List (Replica C)) (ms : List (Message C)) → fitting n rs ms ≡ false → Offer C n

module _ {C : Type 0} {n : ℕ} where
  abbrev pub call_of : Offer C n → Call C
  call_of (own call) = call
  call_of (strange call rs ms f) = call

module _ {B C : Type 0} where
  -- the house with these tables
  abbrev pub lent : List (Replica C) → List (Message C) → State B C → State B C
  lent rs ms s = record {
    book = s.book;
    size = s.size;
    founder = s.founder;
    listed = s.listed;
    waiting = s.waiting;
    replicas = rs;
    messages = ms;
  }

  -- the house gets its own tables back
  abbrev pub returned : State B C → Outcome C × State B C → Outcome C × State B C
  returned s o = (o.0, lent s.replicas s.messages o.1)

-- over what a book answers: how many groups it has, the members of a group, and whether a set contains a read set or a write set
module _ {B C : Type 0} (count : B → ℕ) (members : B → Group → TerminalSet) (reads writes : Rule B) where
  -- what an offered call comes to, and the house with its own tables after it
  abbrev pub offer_step : {n : ℕ} → Offer C n → State B C → Outcome C × State B C
  offer_step (own call) s = step count members reads writes call s
  offer_step (strange call rs ms f) s = returned s (step count members reads writes call (lent rs ms s))

  -- what each of the offered calls comes to, one after the other
  unfoldable pub offer_outcomes : {n : ℕ} → List (Offer C n) → State B C → List (Outcome C)
  offer_outcomes [] s = []
  offer_outcomes (o ∷ os) s = (offer_step o s).0 ∷ offer_outcomes os (offer_step o s).1

  -- the history of the offered calls on a house
  abbrev pub offer_history : {n : ℕ} → List (Offer C n) → State B C → List (Event C)
  offer_history os s = history_of (map call_of os) (offer_outcomes os s)

  -- The law of the line for a house with these arguments: if the opening is accepted, then whatever calls are offered, in
  -- whatever order, the history of the calls and their answers is atomic, and its line is the one that is meant.
  abbrev pub Lawful : B → ℕ → Terminal → C → List (Replica C) → List (Message C) → Type 0
  Lawful book n founder first rs ms =
      (s : State B C) → (open_step members book n founder first rs ms).0 ≡ Ok s → (offers : List (Offer C n)) →
      Atomic first (offer_history offers s) × Lined (operations_of (offer_history offers s))
