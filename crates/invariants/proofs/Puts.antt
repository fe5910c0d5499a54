-- Calls by what they change: one row, or no row.
use Rattle.std.proofs.Common.{◌≡◌, ℕ, ◌<◌, ◌≤◌, ◌⊎◌, length, refl, ap, inl}
use Rattle.parts.specs.declared.entries.Entry.TheVariants.{Retired}
use Rattle.parts.specs.declared.stamps.Stamp.{Stamp}
use Rattle.parts.specs.ChartLaws.{entry_in}
use Rattle.replica.specs.declared.messages.News.{News}
use Rattle.replica.specs.declared.replicas.Replica.{Replica}
use Rattle.replica.specs.Replicas.{news_for}
use Rattle.invariants.proofs.Books.{Book}
use Rattle.invariants.proofs.Entries.{EntryStamps}
use Rattle.invariants.proofs.Invariant.{HandedOver, Inv}
use Rattle.invariants.proofs.KeepCharts.{chart-grows}
use Rattle.invariants.proofs.Moves.{Hears, Move, OpMove, RetMove, h-same, o-same, r-same}
use Rattle.invariants.proofs.Rows.{RowOk, below-same}
use Rattle.invariants.proofs.Sets.{terminal}
use Rattle.invariants.proofs.Stamps.{Le, le_then}
use Rattle.invariants.proofs.Steps.{Grows, Step, grows_same}
use Rattle.invariants.proofs.Views.{Sent, View, chart, group_at, heard-from, row}

-- a call that puts t for terminal i and adds no message
pub record Puts {C : Type 0} (s s' : View C) (i : ℕ) (t : Replica C) : Type 0 where
  pub here : row s' i ≡ t
  pub there : (j : ℕ) → (j ≡ i → ⊥) → row s' j ≡ row s j
  pub pool : (f t : ℕ) (b : News C) → Sent s' f t b → Sent s f t b
  pub listed : s'.listed ≡ s.listed

-- a call that changes no terminal
pub record Calm {C : Type 0} (s s' : View C) (i : ℕ) : Type 0 where
  pub same : (j : ℕ) → row s' j ≡ row s j
  pub pool : (f t : ℕ) (b : News C) → Sent s' f t b → Sent s f t b ⊎ ((f ≡ i) × (b ≡ news_for (row s' i) (terminal t)))
  pub listed : (k : ℕ) → k < length s.listed → (k < length s'.listed) × (group_at s'.listed k ≡ group_at s.listed k)

-- a place that was handed over at a stamp was so at every larger one
pub handed-later : {C : Type 0} {B : Book} {s : View C} {E : EntryStamps} {k : ℕ} {τ τ' : Stamp} → HandedOver B s E k τ → Le τ τ' →
    HandedOver B s E k τ'
handed-later h l = record { who = h.who; known = h.known; reads = h.reads; writes = h.writes; far = h.far; early = λ j m. le_then (h.early j m) l }

module _ {C : Type 0} {B : Book} {s s' : View C} {E : EntryStamps} {i : ℕ} where
  pub move-calm : Inv B s E → Calm s s' i → Move B s E s' i
  move-calm v c = let st : Step s s' i = record { others = λ j _. c.same j; grows = rw (c.same i) (grows_same _); pool = c.pool; listed = c.listed } in record {
    step = st;
    places = rw (c.same i, chart) (chart-grows st _ (v.charts.terms i));
    gone = rw (c.same i, chart) (v.gone.terms i);
    hears = λ x. h-same (ap (λ t. heard-from t.latest x) (c.same i));
    op = o-same (ap (λ (t : Replica C). t.operation) (c.same i));
    ret = r-same (ap (λ (t : Replica C). t.retirement) (c.same i));
  }

  pub move-put : {t : Replica C} → Puts s s' i t → Grows (row s i) t → RowOk s.listed t.chart.places →
      ((k : ℕ) → entry_in t.chart.places k ≡ Retired → HandedOver B s E k t.stamp) → ((x : ℕ) → Hears s i x (row s i) t) →
      OpMove s i (row s i) t → RetMove B s E i (row s i) t → Move B s E s' i
  move-put p g ok gn h o r = record {
    step = record {
      others = p.there;
      grows = rw p.here g;
      pool = λ f t b m. inl (p.pool f t b m);
      listed = λ k l. (rw p.listed l, rw p.listed refl);
    };
    places = rw (p.here, p.listed, chart) ok;
    gone = rw (p.here, chart) gn;
    hears = rw p.here h;
    op = rw p.here o;
    ret = rw p.here r;
  }

  -- the chart and the numbers heard are as before
  pub move-kept : Inv B s E → {t : Replica C} → Puts s s' i t → t.chart.places ≡ chart s i → t.latest ≡ (row s i).latest →
      Le (row s i).stamp t.stamp → (row s i).number.0 ≤ t.number.0 →
      OpMove s i (row s i) t → RetMove B s E i (row s i) t → Move B s E s' i
  move-kept v p ec el ls ln o r = move-put p (record { stamp = ls; places = rw ec (below-same _); number = ln }) (rw ec (v.charts.terms i))
      (λ k e. handed-later (v.gone.terms i k (rw ec at e)) ls)
      (λ x. h-same (ap (λ l. heard-from l x) el)) o r
