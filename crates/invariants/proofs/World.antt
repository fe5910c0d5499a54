-- A house beside the operations begun in it and what the proof remembers of them; and what stays true of them.
use Rattle.std.proofs.Common.{◌≡◌, ℕ, suc, ◌+◌, ◌<◌, ◌≤◌, true, false, ◌⊎◌}
use Rattle.parts.specs.declared.stamps.Stamp.{Stamp}
use Rattle.replica.specs.declared.messages.News.{News}
use Rattle.replica.specs.declared.operations.Kind.TheVariants.{Write}
use Rattle.replica.specs.declared.replicas.Replica.{Replica}
use Rattle.replica.specs.Replicas.{stamp_of}
use Rattle.invariants.proofs.Bases.{Base, BaseRec, Rec, RecOk}
use Rattle.invariants.proofs.Books.{Book}
use Rattle.invariants.proofs.Entries.{EntryStamps, entered_at}
use Rattle.invariants.proofs.Invariant.{Inv}
use Rattle.invariants.proofs.KeepQueries.{BaseMove, Queries}
use Rattle.invariants.proofs.Moves.{Move}
use Rattle.invariants.proofs.Operations.{card-of, is_done, is_free, is_kept, is_query, kind-of, stamp-of}
use Rattle.invariants.proofs.Ops.{Op, ValueOf, collected_op, is_writing, settled_op}
use Rattle.invariants.proofs.Sets.{terminal}
use Rattle.invariants.proofs.Stamps.{Le, Lt}
use Rattle.invariants.proofs.Views.{Sent, View, op, row}

-- all that the proof looks at
pub record World (C : Type 0) : Type 0 where
  -- what is seen of the house
  pub s : View C
  -- the entry stamps
  pub E : EntryStamps
  -- the operations begun, how many there are, and which of them was begun last at each terminal
  pub O : ℕ → Op C
  pub n : ℕ
  pub cur : ℕ → ℕ
  -- how many calls were made
  pub clock : ℕ
  -- the base of each terminal, and the record of each operation
  pub base : ℕ → Base
  pub recs : ℕ → Rec

-- named writes: the stamp names the terminal, which holds at least it, and is that of no other
pub record Names {C : Type 0} (w : World C) : Type 0 where
  pub mark : (x : ℕ) → (w.O x).settled ≡ true → is_writing (w.O x).kind ≡ true → (w.O x).stamp.terminal.0 ≡ (w.O x).terminal
  pub under : (x : ℕ) → (w.O x).settled ≡ true → is_writing (w.O x).kind ≡ true → Le (w.O x).stamp (row w.s (w.O x).terminal).stamp
  pub count : (x : ℕ) → (w.O x).settled ≡ true → is_writing (w.O x).kind ≡ true → 0 < (w.O x).stamp.count
  pub unique : (x y : ℕ) → (w.O x).settled ≡ true → is_writing (w.O x).kind ≡ true → (w.O y).settled ≡ true → is_writing (w.O y).kind ≡ true →
      (w.O x).stamp ≡ (w.O y).stamp → x ≡ y

-- what was collected before another was begun is not above it, and below it if that is a write
pub record Orders {C : Type 0} (w : World C) : Type 0 where
  pub order : (x y : ℕ) → (w.O x).collected ≡ true → (w.O x).end < (w.O y).begun → (w.O y).settled ≡ true → Le (w.O x).stamp (w.O y).stamp
  pub strict : (x y : ℕ) → (w.O x).collected ≡ true → (w.O x).end < (w.O y).begun → (w.O y).settled ≡ true → is_writing (w.O y).kind ≡ true →
      Lt (w.O x).stamp (w.O y).stamp

-- a collected operation: what it answered is the first card or a named write's, and its confirm left a record with its stamp
pub record Collected {C : Type 0} (first : C) (founder : ℕ) (w : World C) (x : ℕ) : Type 0 where
  pub value : ValueOf first founder w.O (w.O x).got_card (w.O x).got_stamp
  pub confirmed : (w.recs x).confirmed ≡ true
  pub rec-stamp : (w.recs x).stamp ≡ (w.O x).stamp

-- positions lie in the past
pub record Times {C : Type 0} (w : World C) : Type 0 where
  pub past : (x : ℕ) → (w.O x).begun ≤ w.clock
  pub bases : (i : ℕ) → (w.base i).begun ≤ w.clock

-- every card, with its stamp, that a terminal, a message or an operation holds is the first one or a named write's
pub record Vals {C : Type 0} (first : C) (founder : ℕ) (w : World C) : Type 0 where
  pub terms : (j : ℕ) → ValueOf first founder w.O (row w.s j).card (row w.s j).stamp
  pub msgs : (f t : ℕ) (b : News C) → Sent w.s f t b → ValueOf first founder w.O b.card b.stamp
  pub kept : (i : ℕ) → is_kept (op w.s i) ≡ true → ValueOf first founder w.O (card-of first (op w.s i)) (stamp-of (op w.s i))

-- the records of confirms, and how the bases taken after their collects stand to them
pub record Recs {C : Type 0} (B : Book) (w : World C) : Type 0 where
  pub ok : (x : ℕ) → (w.recs x).confirmed ≡ true → RecOk B w.s w.E (w.recs x)
  pub bases : (i x : ℕ) → (w.O x).collected ≡ true → (w.O x).end < (w.base i).begun → BaseRec B w.s (w.base i) (w.recs x)

-- the operation under way at i is o, with the kind, card and stamp that o has
pub record Current {C : Type 0} (first : C) (t : Replica C) (i : ℕ) (o : Op C) (In : Type 0) (b : Base) (r : Rec) : Type 0 where
  pub inside : is_free t.operation ≡ false → In
  pub mine : is_free t.operation ≡ false → o.terminal ≡ i
  pub open-still : is_free t.operation ≡ false → o.collected ≡ false
  pub begun : is_query t.operation ≡ true → o.begun ≡ b.begun
  pub kind : is_query t.operation ≡ true → o.kind ≡ kind-of t.operation
  pub unsettled : is_query t.operation ≡ true → o.settled ≡ false
  pub settled : is_kept t.operation ≡ true → o.settled ≡ true
  pub stamp : is_kept t.operation ≡ true → o.stamp ≡ stamp-of t.operation
  pub card : is_kept t.operation ≡ true → (c : C) → o.kind ≡ Write c → card-of first t.operation ≡ c
  pub confirmed : is_done t.operation ≡ true → r.confirmed ≡ true
  pub rec-stamp : is_done t.operation ≡ true → r.stamp ≡ stamp-of t.operation

-- y is the last of the operations at i
pub record Inside {C : Type 0} (O : ℕ → Op C) (n y i : ℕ) : Type 0 where
  pub here : y < n
  pub last : (x : ℕ) → y < x → x < n → (O x).terminal ≡ i → ⊥

-- the operation under way at i is the last one begun there
abbrev pub Now : {C : Type 0} → C → World C → ℕ → Type 0
Now first w i = Current first (row w.s i) i (w.O (w.cur i)) (Inside w.O w.n (w.cur i) i) (w.base i) (w.recs (w.cur i))

-- all that stays true
pub record Sound {C : Type 0} (B : Book) (first : C) (founder : ℕ) (w : World C) : Type 0 where
  pub inv : Inv B w.s w.E
  pub queries : Queries w.s w.base
  pub names : Names w
  pub orders : Orders w
  pub collected : (x : ℕ) → (w.O x).collected ≡ true → Collected first founder w x
  pub times : Times w
  pub vals : Vals first founder w
  pub recs : Recs B w
  pub now : (i : ℕ) → Now first w i

-- what operation x becomes in a call: the same, begun, settled or collected
pub data Pull {C : Type 0} (first : C) (founder : ℕ) (w w' : World C) (x : ℕ) : Type 0 where
  p-same : w'.O x ≡ w.O x → Pull first founder w w' x
  p-open : (w.O x).settled ≡ false → (w'.O x).settled ≡ false → (w'.O x).collected ≡ false → (w.O x).collected ≡ false → (w'.O x).begun ≡ w.clock →
      Pull first founder w w' x
  p-settle : (st : Stamp) → w'.O x ≡ settled_op (w.O x) st → (w.O x).settled ≡ false → (w.O x).collected ≡ false →
      (is_writing (w.O x).kind ≡ true → st ≡ stamp_of ((row w.s (w.O x).terminal).stamp.count + 1) (terminal (w.O x).terminal)) →
      Le st (row w'.s (w.O x).terminal).stamp → Le (row w.s (w.O x).terminal).stamp st →
      ((z : ℕ) → (w.O z).collected ≡ true → (w.O z).end < (w.O x).begun → Le (w.O z).stamp (row w.s (w.O x).terminal).stamp) →
      Pull first founder w w' x
  p-collect : (c : C) (st : Stamp) → w'.O x ≡ collected_op (w.O x) w.clock c st → (w.O x).collected ≡ false → (w.O x).stamp ≡ st →
      ValueOf first founder w.O c st → (w.recs x).confirmed ≡ true → (w.recs x).stamp ≡ st → Pull first founder w w' x

-- its record: the same, or one that a confirm leaves
pub data RecMove {C : Type 0} (B : Book) (w w' : World C) (x : ℕ) : Type 0 where
  c-same : w'.recs x ≡ w.recs x → RecMove B w w' x
  c-new : (w.O x).collected ≡ false → (w'.O x).collected ≡ false → RecOk B w.s w.E (w'.recs x) → RecMove B w w' x

-- where the card and stamp of the terminal come from
pub data ValueMove {C : Type 0} (first : C) (founder : ℕ) (w w' : World C) (i : ℕ) : Type 0 where
  v-same : (row w'.s i).card ≡ (row w.s i).card → (row w'.s i).stamp ≡ (row w.s i).stamp → ValueMove first founder w w' i
  v-news : (f : ℕ) (b : News C) → Sent w.s f i b → (row w'.s i).card ≡ b.card → (row w'.s i).stamp ≡ b.stamp → ValueMove first founder w w' i
  v-new : ValueOf first founder w'.O (row w'.s i).card (row w'.s i).stamp → ValueMove first founder w w' i

-- a call at i, with what it makes of the operations begun
pub record OpsMove {C : Type 0} (B : Book) (first : C) (founder : ℕ) (w w' : World C) (i : ℕ) : Type 0 where
  pub move : Move B w.s w.E w'.s i
  pub entry : w'.E ≡ entered_at w'.s w.E
  pub base : BaseMove w.s w'.s i w.base w'.base
  pub begun : (x : ℕ) → ((w'.base x).begun ≡ (w.base x).begun) ⊎ ((w'.base x).begun ≡ w.clock)
  pub clock : w'.clock ≡ suc w.clock
  pub pull : (x : ℕ) → Pull first founder w w' x
  pub rec : (x : ℕ) → RecMove B w w' x
  pub value : ValueMove first founder w w' i
  pub kept : is_kept (op w'.s i) ≡ true → ValueOf first founder w'.O (card-of first (op w'.s i)) (stamp-of (op w'.s i))
  pub here : Now first w' i
  pub there : (x : ℕ) → (x ≡ i → ⊥) → Now first w' x
