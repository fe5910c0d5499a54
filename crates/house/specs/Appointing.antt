-- The list of places: how it gains a group, and how a terminal learns of one.
use Rattle.std.specs.Prelude.{ℕ, zero, suc, Bool, true, false, cond, not, ◌&&◌, ◌||◌, List, [], ◌∷◌, ◌++◌, length, Some, None, Ok, Err, Option, Result, ◌==◌, nat_lt}
use Rattle.std.specs.List.{slice_get}
use Rattle.parts.specs.declared.counts.Group.{Group as GroupNumber}
use Rattle.parts.specs.declared.counts.Place.{Place}
use Rattle.parts.specs.declared.counts.Terminal.{Terminal}
use Rattle.parts.specs.declared.entries.Entry.TheVariants.{Group}
use Rattle.parts.specs.declared.sets.TerminalSet.{TerminalSet}
use Rattle.parts.specs.Charts.{join_at}
use Rattle.parts.specs.Limits.{terminals, places}
use Rattle.parts.specs.Sets.{has}
use Rattle.replica.specs.declared.refusals.Refusal.{Refusal}
use Rattle.replica.specs.declared.refusals.Refusal.TheVariants.{NotInBook, AlreadyListed, ListFull, NeverActive, WrongPlace, WrongTables}
use Rattle.replica.specs.declared.replicas.Replica.{Replica}
use Rattle.replica.specs.Replicas.{charted}
use Rattle.house.specs.declared.guarding.Need.TheVariants.{ToBeActive, NotToBeIdle}
use Rattle.house.specs.Guards.{meets, acting}
use Rattle.house.specs.States.{State, tables_fit, seated, relisted}
use Rattle.house.specs.Steps.{Plain}

-- the group is one of the list
unfoldable pub is_listed : List GroupNumber → GroupNumber → Bool
is_listed [] c = false
is_listed (d ∷ ds) c = d.0 == c.0 || is_listed ds c

-- a row is there, and its terminal is active; a status that is active is never left, and a crash does not change it
abbrev pub is_active : {C : Type 0} → Option (Replica C) → Bool
is_active None = false
is_active (Some t) = meets ToBeActive t.status

-- a terminal with this row is active if it is a member
abbrev pub active_if_member : {C : Type 0} → TerminalSet → Terminal → Option (Replica C) → Bool
active_if_member m t row = not (has m t) || is_active row

-- each member below n has a row and is active
unfoldable pub members_active : {C : Type 0} → TerminalSet → List (Replica C) → ℕ → Bool
members_active m rs zero = true
members_active m rs (suc n) = members_active m rs n && active_if_member m (record { 0 = n }) (slice_get rs n)

-- the group listed at a place that can be told; place 0 cannot, since every chart begins with its group
abbrev pub listed_at : Place → List GroupNumber → Option GroupNumber
listed_at k gs = cond (k.0 == 0) None (slice_get gs k.0)

module _ {B C : Type 0} where
  -- appoint c: the list of places gains group c at its end
  abbrev pub appointing : GroupNumber → Option Refusal → State B C → Plain × State B C
  appointing c (Some e) s = (Err e, s)
  appointing c None s = (Ok tt, relisted (s.listed ++ c ∷ []) s)

  module _ (size : B → ℕ) (members : B → GroupNumber → TerminalSet) where
    -- why group c is not appointed: 18 the tables do not fit; 12 the book does not have it; 13 it is already listed;
    -- 14 the list is full; 15 a member was never active
    abbrev pub why_not_appoint : GroupNumber → State B C → Option Refusal
    why_not_appoint c s =
        cond (tables_fit s)
        (cond (nat_lt c.0 (size s.book))
        (cond (is_listed s.listed c) (Some AlreadyListed)
        (cond (nat_lt (length s.listed) places)
        (cond (members_active (members s.book c) s.replicas terminals) None (Some NeverActive))
        (Some ListFull)))
        (Some NotInBook))
        (Some WrongTables)

    abbrev pub appoint_step : GroupNumber → State B C → Plain × State B C
    appoint_step c s = appointing c (why_not_appoint c s) s

  -- tell i k: the group listed at k is joined into place k of terminal i; 16 there is none
  abbrev pub learning : Terminal → Place → Option GroupNumber → Replica C → State B C → Plain × State B C
  learning i k None t s = (Err WrongPlace, s)
  learning i k (Some c) t s = (Ok tt, seated i (charted (join_at k (Group c) t.chart) t) s)

  abbrev pub telling : Terminal → Place → Result (Replica C) Refusal → State B C → Plain × State B C
  telling i k (Err e) s = (Err e, s)
  telling i k (Ok t) s = learning i k (listed_at k s.listed) t s

  abbrev pub tell_step : Terminal → Place → State B C → Plain × State B C
  tell_step i k s = telling i k (acting NotToBeIdle i i s) s
