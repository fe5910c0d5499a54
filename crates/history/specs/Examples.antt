-- Small histories of cards that are numbers, with the first card 7: one that the law takes, and some that each break it.
use Rattle.std.specs.Prelude.{◌≡◌, ℕ, Bool, List, [], ◌∷◌, replicate, Some, None, Ok, Err, refl}
use Rattle.parts.specs.declared.calls.Call.{Call}
use Rattle.parts.specs.declared.calls.Call.TheVariants.{Enter, Send, Deliver, Read as ReadCall, Write as WriteCall, Settle, Confirm, Collect}
use Rattle.parts.specs.declared.counts.Group.{Group}
use Rattle.parts.specs.declared.counts.Terminal.{Terminal}
use Rattle.parts.specs.declared.sets.TerminalSet.{TerminalSet}
use Rattle.parts.specs.declared.stamps.Stamp.{Stamp}
use Rattle.parts.specs.Limits.{messages as pool_size}
use Rattle.parts.specs.Sets.{has, only}
use Rattle.replica.specs.declared.messages.Body.TheVariants.{Knock}
use Rattle.replica.specs.declared.operations.Kind.TheVariants.{Read, Write}
use Rattle.replica.specs.declared.refusals.Refusal.TheVariants.{SetMissing}
use Rattle.replica.specs.Replicas.{stamp_of}
use Rattle.house.specs.declared.calling.Answer.TheVariants.{Plain, Settled, Collected}
use Rattle.house.specs.Calls.{Outcome}
use Rattle.house.specs.Opening.{new_state}
use Rattle.house.specs.States.{State}
use Rattle.history.specs.Events.{Event, begun, settled, collected, other, history_of}
use Rattle.history.specs.Operations.{Operation}
use Rattle.history.specs.Lines.{line_of}
use Rattle.history.specs.Law.{Atomic}
use Rattle.history.specs.Offers.{Offer, own, strange, offer_history}

abbrev pub terminal : ℕ → Terminal
terminal i = record { 0 = i }

abbrev pub stamp : ℕ → ℕ → Stamp
stamp n i = stamp_of n (terminal i)

-- terminal 1 reads while terminal 0 writes 8, and what terminal 0 confirms is declined; then terminal 2 reads what was written
abbrev pub calls : List (Call ℕ)
calls =
    ReadCall (terminal 1) ∷ WriteCall (terminal 0) 8 ∷ Settle (terminal 1) ∷ Settle (terminal 0) ∷ Confirm (terminal 0) ∷ Collect (terminal 1)
    ∷ ReadCall (terminal 2) ∷ Settle (terminal 2) ∷ Collect (terminal 2) ∷ []

abbrev pub outcomes : List (Outcome ℕ)
outcomes =
    Ok Plain ∷ Ok Plain ∷ Ok (Settled (stamp 0 0)) ∷ Ok (Settled (stamp 1 0)) ∷ Err SetMissing ∷ Ok (Collected (7, stamp 0 0))
    ∷ Ok Plain ∷ Ok (Settled (stamp 1 0)) ∷ Ok (Collected (8, stamp 1 0)) ∷ []

-- their history
abbrev pub fair : List (Event ℕ)
fair =
    begun (terminal 1) Read ∷ begun (terminal 0) (Write 8) ∷ settled (terminal 1) (stamp 0 0) ∷ settled (terminal 0) (stamp 1 0) ∷ other
    ∷ collected (terminal 1) 7 (stamp 0 0) ∷ begun (terminal 2) Read ∷ settled (terminal 2) (stamp 1 0) ∷ collected (terminal 2) 8 (stamp 1 0) ∷ []

-- its three operations
abbrev pub first_read : Operation ℕ
first_read = record {
  terminal = terminal 1;
  kind = Read;
  begun = 0;
  stamp = Some (stamp 0 0);
  collected = Some (record { at = 5; card = 7; stamp = stamp 0 0 });
}

abbrev pub the_write : Operation ℕ
the_write = record { terminal = terminal 0; kind = Write 8; begun = 1; stamp = Some (stamp 1 0); collected = None }

abbrev pub next_read : Operation ℕ
next_read = record {
  terminal = terminal 2;
  kind = Read;
  begun = 6;
  stamp = Some (stamp 1 0);
  collected = Some (record { at = 8; card = 8; stamp = stamp 1 0 });
}

-- the read has the write's stamp and the first card
abbrev pub wrong_card : List (Event ℕ)
wrong_card =
    begun (terminal 0) (Write 8) ∷ settled (terminal 0) (stamp 1 0) ∷ begun (terminal 1) Read ∷ settled (terminal 1) (stamp 1 0)
    ∷ collected (terminal 1) 7 (stamp 1 0) ∷ []

-- the read begins when the write has been collected, and still reads the first card
abbrev pub wrong_order : List (Event ℕ)
wrong_order =
    begun (terminal 0) (Write 8) ∷ settled (terminal 0) (stamp 1 0) ∷ collected (terminal 0) 8 (stamp 1 0) ∷ begun (terminal 1) Read
    ∷ settled (terminal 1) (stamp 0 0) ∷ collected (terminal 1) 7 (stamp 0 0) ∷ []

-- two writes with one stamp
abbrev pub wrong_stamp : List (Event ℕ)
wrong_stamp = begun (terminal 0) (Write 8) ∷ settled (terminal 0) (stamp 1 0) ∷ begun (terminal 1) (Write 9) ∷ settled (terminal 1) (stamp 1 0) ∷ []

-- the write is collected with the first card
abbrev pub wrong_collect : List (Event ℕ)
wrong_collect = begun (terminal 0) (Write 8) ∷ settled (terminal 0) (stamp 1 0) ∷ collected (terminal 0) 7 (stamp 1 0) ∷ []

-- a collect with nothing begun
abbrev pub stray : List (Event ℕ)
stray = collected (terminal 0) 7 (stamp 0 0) ∷ []

-- a second collect of one operation
abbrev pub twice : List (Event ℕ)
twice =
    begun (terminal 0) Read ∷ settled (terminal 0) (stamp 0 0) ∷ collected (terminal 0) 8 (stamp 0 0) ∷ collected (terminal 0) 7 (stamp 0 0) ∷ []

-- a collect without a settle
abbrev pub early : List (Event ℕ)
early = begun (terminal 0) Read ∷ collected (terminal 0) 7 (stamp 0 0) ∷ []

-- a second settle of one operation
abbrev pub renamed : List (Event ℕ)
renamed = begun (terminal 0) (Write 8) ∷ settled (terminal 0) (stamp 1 0) ∷ settled (terminal 0) (stamp 2 0) ∷ []

-- a settle after the collect
abbrev pub late : List (Event ℕ)
late =
    begun (terminal 0) Read ∷ settled (terminal 0) (stamp 0 0) ∷ collected (terminal 0) 7 (stamp 0 0) ∷ settled (terminal 0) (stamp 0 0) ∷ []

-- a book of one group, whose only set is that of terminal 0
abbrev pub group_count : Unit {0} → ℕ
group_count b = 1

abbrev pub group_members : Unit {0} → Group → TerminalSet
group_members b c = only (terminal 0)

abbrev pub group_sets : Unit {0} → Group → TerminalSet → Bool
group_sets b c s = has s (terminal 0)

-- a house of terminal 0 alone over that book, just opened
abbrev pub one_house : State (Unit {0}) ℕ
one_house = new_state tt 1 (terminal 0) 7 (replicate pool_size (record { from = terminal 0; to = terminal 0; body = Knock }))

-- a settle with nothing begun, a write that is carried through, and in between a call with tables of another length
abbrev pub offers : List (Offer ℕ 1)
offers =
    own (Enter (terminal 0)) ∷ own (Settle (terminal 0)) ∷ own (WriteCall (terminal 0) 8) ∷ own (Settle (terminal 0)) ∷ own (Send (terminal 0) (terminal 0))
    ∷ own (Deliver 0) ∷ own (Send (terminal 0) (terminal 0)) ∷ own (Deliver 0) ∷ strange (Settle (terminal 0)) [] [] refl ∷ own (Settle (terminal 0))
    ∷ own (Send (terminal 0) (terminal 0)) ∷ own (Deliver 0) ∷ own (Send (terminal 0) (terminal 0)) ∷ own (Deliver 0) ∷ own (Confirm (terminal 0))
    ∷ own (Collect (terminal 0)) ∷ []

-- their history
abbrev pub one_write : List (Event ℕ)
one_write =
    other ∷ other ∷ begun (terminal 0) (Write 8) ∷ other ∷ other ∷ other ∷ other ∷ other ∷ other ∷ settled (terminal 0) (stamp 1 0) ∷ other ∷ other ∷ other
    ∷ other ∷ other ∷ collected (terminal 0) 8 (stamp 1 0) ∷ []

pub record Verdicts : Type 0 where
  -- the calls and what they came to make the fair history, and this is its line
  pub history : history_of calls outcomes ≡ fair
  pub line : line_of fair ≡ first_read ∷ the_write ∷ next_read ∷ []
  -- so do the offers to the house of one terminal make theirs
  pub played : offer_history group_count group_members group_sets group_sets offers one_house ≡ one_write
  -- the law takes the fair history, and none of the wrong ones
  pub takes : Atomic 7 fair
  pub no-card : Atomic 7 wrong_card → ⊥
  pub no-order : Atomic 7 wrong_order → ⊥
  pub no-stamp : Atomic 7 wrong_stamp → ⊥
  pub no-collect : Atomic 7 wrong_collect → ⊥
  pub no_stray : Atomic 7 stray → ⊥
  pub no-twice : Atomic 7 twice → ⊥
  pub no-early : Atomic 7 early → ⊥
  pub no-renamed : Atomic 7 renamed → ⊥
  pub no-late : Atomic 7 late → ⊥
