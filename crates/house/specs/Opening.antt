-- The opening of a house.
use Rattle.std.specs.Prelude.{ℕ, cond, not, ◌||◌, List, [], ◌∷◌, length, replicate, Some, None, Ok, Err, Option, Result, ◌==◌, nat_lt}
use Rattle.parts.specs.declared.counts.Group.{Group}
use Rattle.parts.specs.declared.counts.Terminal.{Terminal}
use Rattle.parts.specs.declared.sets.TerminalSet.{TerminalSet}
use Rattle.parts.specs.Limits.{terminals, messages as pool_size}
use Rattle.parts.specs.Sets.{only}
use Rattle.replica.specs.declared.messages.Message.{Message}
use Rattle.replica.specs.declared.refusals.Refusal.{Refusal}
use Rattle.replica.specs.declared.refusals.Refusal.TheVariants.{WrongTables, NoFounder, NotFounderAlone}
use Rattle.replica.specs.declared.replicas.Replica.{Replica}
use Rattle.replica.specs.Replicas.{fresh}
use Rattle.house.specs.declared.house.House.{House}
use Rattle.house.specs.States.{State, state}

-- the group that every house begins with
abbrev pub first_group : Group
first_group = record { 0 = 0 }

-- why a house is not opened: 18 the number of terminals is 0 or past the limit, or the tables have not its lengths;
-- 19 the founder is not one of the terminals; 20 the members of group 0 are not the founder alone
abbrev pub why_not_open : (members : TerminalSet) (n : ℕ) (founder : Terminal) (rows messages : ℕ) → Option Refusal
why_not_open members n founder rows ms =
    cond (n == 0 || (nat_lt terminals n || (not (rows == n) || not (ms == pool_size)))) (Some WrongTables)
    (cond (nat_lt founder.0 n) (cond (members.bits == (only founder).bits) None (Some NotFounderAlone)) (Some NoFounder))

-- what an opening answers, the house seen with its tables, or the cause and the book; and the terminals' table that it leaves
abbrev pub Opened : Type 0 → Type 0 → Type 0
Opened B C = Result (State B C) (Refusal × B) × List (Replica C)

module _ {B C : Type 0} where
  -- a new house: its list of places has group 0 alone, its pool is empty, and its terminals are fresh
  abbrev pub new_state : B → ℕ → Terminal → C → List (Message C) → State B C
  new_state book n founder first ms = record {
    book = book;
    size = n;
    founder = founder;
    listed = first_group ∷ [];
    waiting = 0;
    replicas = replicate n (fresh first founder);
    messages = ms;
  }

  abbrev pub opening : Option Refusal → B → ℕ → Terminal → C → List (Replica C) → List (Message C) → Opened B C
  opening (Some e) book n founder first rs ms = (Err (e, book), rs)
  opening None book n founder first rs ms = (Ok (new_state book n founder first ms), replicate n (fresh first founder))

  abbrev pub open_step : (members : B → Group → TerminalSet) → B → ℕ → Terminal → C → List (Replica C) → List (Message C) → Opened B C
  open_step members book n founder first rs ms =
      opening (why_not_open (members book first_group) n founder (length rs) (length ms)) book n founder first rs ms

  -- the same of what the code answers
  abbrev pub opened_state : Result (House B) (Refusal × B) → List (Replica C) → List (Message C) → Result (State B C) (Refusal × B)
  opened_state (Ok h) rs ms = Ok (state h rs ms)
  opened_state (Err e) rs ms = Err e
