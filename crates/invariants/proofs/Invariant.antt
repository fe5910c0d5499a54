-- What stays true of a house, apart from the operations that were begun.
use Rattle.std.proofs.Common.{◌≡◌, ℕ, suc, ◌<◌, ◌≤◌, true, false, List, length}
use Rattle.parts.specs.declared.counts.Group.{Group as GroupNumber}
use Rattle.parts.specs.declared.entries.Entry.TheVariants.{Retired}
use Rattle.parts.specs.declared.sets.TerminalSet.{TerminalSet}
use Rattle.parts.specs.declared.stamps.Stamp.{Stamp}
use Rattle.parts.specs.ChartLaws.{entry_in}
use Rattle.parts.specs.Charts.{cut_list, length_list}
use Rattle.replica.specs.declared.messages.News.{News}
use Rattle.replica.specs.declared.replicas.Replica.{Replica}
use Rattle.invariants.proofs.Books.{Book}
use Rattle.invariants.proofs.Entries.{Entries, EntryStamps}
use Rattle.invariants.proofs.Operations.{heard-of, is_prop, number_of, places_of, runs, stamp-of}
use Rattle.invariants.proofs.Retirements.{is_asking, is_none, is_telling, r-heard, r-number, r-place}
use Rattle.invariants.proofs.Rows.{RowOk}
use Rattle.invariants.proofs.Stamps.{Le}
use Rattle.invariants.proofs.Views.{Each, Heard, Replies, Sent, Tells, View, chart, group_at, hears, lens, op, ret, row}

-- the chart of a phase under way: it is its own cut, and what is retired in it is retired at its terminal
pub record OpChart {C : Type 0} (ls : List GroupNumber) (t : Replica C) : Type 0 where
  pub ok : RowOk ls (places_of t.operation)
  pub whole : cut_list (places_of t.operation) ≡ places_of t.operation
  pub gone : (k : ℕ) → entry_in (places_of t.operation) k ≡ Retired → entry_in t.chart.places k ≡ Retired

-- charts of terminals, of phases under way and of messages
pub record Charts {C : Type 0} (s : View C) : Type 0 where
  pub terms : (j : ℕ) → RowOk s.listed (chart s j)
  pub ops : (j : ℕ) → runs (op s j) ≡ true → OpChart s.listed (row s j)
  pub msgs : (f t : ℕ) (b : News C) → Sent s f t b → RowOk s.listed b.chart.places

-- a number heard from a terminal, or told of one, is at most its phase number
pub record Numbers {C : Type 0} (s : View C) : Type 0 where
  pub heard : (j i : ℕ) → hears s j i ≤ (row s i).number.0
  pub pns : (f t : ℕ) (b : News C) → Sent s f t b → b.pns.0 ≤ (row s f).number.0
  pub pnr : (f t : ℕ) (b : News C) → Sent s f t b → b.pnr.0 ≤ (row s t).number.0
  pub ops : (i : ℕ) → number_of (op s i) ≤ (row s i).number.0
  pub rets : (i : ℕ) → r-number (ret s i) ≤ (row s i).number.0

-- place k was handed over at stamp τ: some terminals that contain a read set and a write set of its group have place k + 1
-- inside their cut charts, and entered it at most at τ
pub record HandedOver {C : Type 0} (B : Book) (s : View C) (E : EntryStamps) (k : ℕ) (τ : Stamp) : Type 0 where
  pub who : TerminalSet
  pub known : k < length s.listed
  pub reads : B.reads (group_at s.listed k) who ≡ true
  pub writes : B.writes (group_at s.listed k) who ≡ true
  pub far : Each who (λ j. suc (suc k) ≤ lens s j)
  pub early : Each who (λ j. Le (E j (suc k)) τ)

-- a message's stamp is at most the entry stamp of where its chart ends; a place that is retired at a terminal or in a message was handed over
pub record Gone {C : Type 0} (B : Book) (s : View C) (E : EntryStamps) : Type 0 where
  pub sent : (f t : ℕ) (b : News C) → Sent s f t b → Le b.stamp (E f (length_list b.chart.places))
  pub terms : (j k : ℕ) → entry_in (chart s j) k ≡ Retired → HandedOver B s E k (row s j).stamp
  pub msgs : (f t : ℕ) (b : News C) → Sent s f t b → (k : ℕ) → entry_in b.chart.places k ≡ Retired → HandedOver B s E k b.stamp

-- j has place k + 1 inside its cut chart, and entered it at most at τ
pub record Past {C : Type 0} (s : View C) (E : EntryStamps) (j k : ℕ) (τ : Stamp) : Type 0 where
  pub far : suc (suc k) ≤ lens s j
  pub early : Le (E j (suc k)) τ

-- retirements under way
pub record Retires {C : Type 0} (B : Book) (s : View C) (E : EntryStamps) : Type 0 where
  -- the place behind the one that is retired is inside the terminal's own cut chart
  pub own : (i : ℕ) → is_none (ret s i) ≡ false → suc (suc (r-place (ret s i))) ≤ lens s i
  -- and the place before it is retired
  pub front : (i : ℕ) → is_none (ret s i) ≡ false → (k : ℕ) → suc k ≡ r-place (ret s i) → entry_in (chart s i) k ≡ Retired
  -- in query: who was heard has gone past the place, and entered the next at most at the terminal's stamp
  pub heard : (i : ℕ) → is_asking (ret s i) ≡ true → Each (r-heard (ret s i)) (λ j. Past s E j (r-place (ret s i)) (row s i).stamp)
  -- who has heard of the phase has gone past the place
  pub number : (i : ℕ) → is_asking (ret s i) ≡ true → Heard s i (r-number (ret s i)) (λ j. suc (suc (r-place (ret s i))) ≤ lens s j)
  -- so has the chart of a message that tells of it
  pub from : (i : ℕ) → is_asking (ret s i) ≡ true → Tells s i (r-number (ret s i)) (λ b. suc (suc (r-place (ret s i))) ≤ length_list b.chart.places)
  -- and who sent a message that answers it, which entered the next at most at the message's stamp
  pub to : (i : ℕ) → is_asking (ret s i) ≡ true → Replies s i (r-number (ret s i)) (λ f b. Past s E f (r-place (ret s i)) b.stamp)
  -- in prop: the place was handed over at the terminal's stamp
  pub turned : (i : ℕ) → is_telling (ret s i) ≡ true → HandedOver B s E (r-place (ret s i)) (row s i).stamp

-- operations in prop
pub record Props {C : Type 0} (s : View C) (E : EntryStamps) : Type 0 where
  -- the terminal has at least the stamp that is kept
  pub own : (i : ℕ) → is_prop (op s i) ≡ true → Le (stamp-of (op s i)) (row s i).stamp
  -- who was heard had it before it entered the place where the phase's chart ends
  pub heard : (i : ℕ) → is_prop (op s i) ≡ true → Each (heard-of (op s i)) (λ j. Le (stamp-of (op s i)) (E j (length_list (places_of (op s i)))))
  -- who has heard of the phase has it
  pub number : (i : ℕ) → is_prop (op s i) ≡ true → Heard s i (number_of (op s i)) (λ j. Le (stamp-of (op s i)) (row s j).stamp)
  -- and so has a message that tells of it or answers it
  pub from : (i : ℕ) → is_prop (op s i) ≡ true → Tells s i (number_of (op s i)) (λ b. Le (stamp-of (op s i)) b.stamp)
  pub to : (i : ℕ) → is_prop (op s i) ≡ true → Replies s i (number_of (op s i)) (λ f b. Le (stamp-of (op s i)) b.stamp)

-- all of these
pub record Inv {C : Type 0} (B : Book) (s : View C) (E : EntryStamps) : Type 0 where
  pub charts : Charts s
  pub numbers : Numbers s
  pub entries : Entries s E
  pub gone : Gone B s E
  pub retires : Retires B s E
  pub props : Props s E
