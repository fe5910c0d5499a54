-- What a call makes of its terminal, so far as the invariant has to know.
use Rattle.std.proofs.Common.{◌≡◌, ℕ, suc, ◌<◌, ◌≤◌, max, true, false, List}
use Rattle.parts.specs.declared.entries.Entry.{Entry}
use Rattle.parts.specs.declared.entries.Entry.TheVariants.{Retired}
use Rattle.parts.specs.declared.stamps.Stamp.{Stamp}
use Rattle.parts.specs.ChartLaws.{entry_in}
use Rattle.parts.specs.Charts.{cut, cut_list, length_list}
use Rattle.parts.specs.Sets.{nobody, with_one}
use Rattle.replica.specs.declared.messages.News.{News}
use Rattle.replica.specs.declared.operations.Kind.{Kind}
use Rattle.replica.specs.declared.operations.Operation.TheVariants.{Prop, Query}
use Rattle.replica.specs.declared.replicas.Replica.{Replica}
use Rattle.replica.specs.declared.retirements.Retirement.TheVariants.{Free as NoRetirement, Prop as Telling, Query as Asking}
use Rattle.replica.specs.Operating.{new_phase}
use Rattle.invariants.proofs.Books.{Book}
use Rattle.invariants.proofs.Entries.{EntryStamps}
use Rattle.invariants.proofs.Invariant.{HandedOver}
use Rattle.invariants.proofs.Operations.{heard-of, number_of, places_of, put-op, runs}
use Rattle.invariants.proofs.Retired.{Behind}
use Rattle.invariants.proofs.Retirements.{is_none, r-heard, r-number, r-place, r-put}
use Rattle.invariants.proofs.Rows.{RowOk}
use Rattle.invariants.proofs.Sets.{terminal}
use Rattle.invariants.proofs.Stamps.{Le}
use Rattle.invariants.proofs.Steps.{Step}
use Rattle.invariants.proofs.Views.{Sent, View, chart, heard-from, row}

-- its operation: the same, none or done, a new query, a new prop, started over with nobody heard, or one more heard
pub data OpMove {C : Type 0} (s : View C) (i : ℕ) (t t' : Replica C) : Type 0 where
  o-same : t'.operation ≡ t.operation → OpMove s i t t'
  o-idle : runs t'.operation ≡ false → number_of t'.operation ≡ 0 → OpMove s i t t'
  o-query : (k : Kind C) → t'.operation ≡ Query k (new_phase t'.number.0 (cut t'.chart)) → t.number.0 < t'.number.0 → OpMove s i t t'
  o-prop : (c : C) (τ : Stamp) → t'.operation ≡ Prop (c, τ) (new_phase t'.number.0 (cut t'.chart)) → t.number.0 < t'.number.0 →
      Le τ t'.stamp → OpMove s i t t'
  o-again : t'.operation ≡ put-op t.operation (cut_list t'.chart.places) nobody → OpMove s i t t'
  o-more : (j : ℕ) (b : News C) (a : List Entry) → t'.operation ≡ put-op t.operation a (with_one (heard-of t.operation) (terminal j)) →
      Sent s j i b → number_of t.operation ≤ b.pnr.0 → runs t.operation ≡ true → Le b.stamp t'.stamp →
      length_list a ≡ max (length_list (places_of t.operation)) (length_list b.chart.places) → RowOk s.listed a → cut_list a ≡ a →
      ((k : ℕ) → entry_in a k ≡ Retired → entry_in t.chart.places k ≡ Retired) → OpMove s i t t'

-- its retirement: the same, none, a new one, one that turns to prop, or one more heard
pub data RetMove {C : Type 0} (B : Book) (s : View C) (E : EntryStamps) (i : ℕ) (t t' : Replica C) : Type 0 where
  r-same : t'.retirement ≡ t.retirement → RetMove B s E i t t'
  r-gone : t'.retirement ≡ NoRetirement → RetMove B s E i t t'
  r-new : (k : ℕ) → t'.retirement ≡ Asking (record { 0 = k }) t'.number nobody → t.number.0 < t'.number.0 →
      suc (suc k) ≤ length_list t'.chart.places →
      Behind t'.chart.places k → RetMove B s E i t t'
  r-turn : t'.retirement ≡ Telling (record { 0 = r-place t.retirement }) t'.number nobody → is_none t.retirement ≡ false →
      HandedOver B s E (r-place t.retirement) t'.stamp → RetMove B s E i t t'
  r-more : (j : ℕ) (b : News C) → t'.retirement ≡ r-put t.retirement (with_one (r-heard t.retirement) (terminal j)) →
      Sent s j i b → r-number t.retirement ≤ b.pnr.0 → Le b.stamp t'.stamp → RetMove B s E i t t'

-- what it has heard from terminal x: what it had, or what a message said
pub data Hears {C : Type 0} (s : View C) (i x : ℕ) (t t' : Replica C) : Type 0 where
  h-same : heard-from t'.latest x ≡ heard-from t.latest x → Hears s i x t t'
  h-more : (b : News C) → Sent s x i b → heard-from t'.latest x ≡ b.pns.0 → Le b.stamp t'.stamp →
      length_list b.chart.places ≤ length_list t'.chart.places → Hears s i x t t'

-- a call at i
pub record Move {C : Type 0} (B : Book) (s : View C) (E : EntryStamps) (s' : View C) (i : ℕ) : Type 0 where
  pub step : Step s s' i
  pub places : RowOk s'.listed (chart s' i)
  pub gone : (k : ℕ) → entry_in (chart s' i) k ≡ Retired → HandedOver B s E k (row s' i).stamp
  pub hears : (x : ℕ) → Hears s i x (row s i) (row s' i)
  pub op : OpMove s i (row s i) (row s' i)
  pub ret : RetMove B s E i (row s i) (row s' i)
