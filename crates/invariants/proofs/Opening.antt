-- The invariant holds at the opening.
use Rattle.std.proofs.Common.{◌≡◌, ℕ, zero, suc, ◌<◌, ◌≤◌, true, false, ◌⊎◌, List, [], ◌∷◌, length, get_or, replicate, refl, ap, ◌∙◌, inl, inr, arith}
use mathlib.Core.List.Memᴰ
use Rattle.std.proofs.lemmas.List.{length-replicate, length-set}
use Rattle.std.proofs.lemmas.Bool.{false≢true, true≢false}
use Rattle.parts.specs.declared.counts.Group.{Group as GroupNumber}
use Rattle.parts.specs.declared.counts.PhaseNumber.{PhaseNumber}
use Rattle.parts.specs.declared.counts.Terminal.{Terminal}
use Rattle.parts.specs.declared.entries.Entry.{Entry}
use Rattle.parts.specs.declared.entries.Entry.TheVariants.{Group, Retired, Unknown}
use Rattle.parts.specs.ChartLaws.{entry_in}
use Rattle.parts.specs.Charts.{first_chart}
use Rattle.parts.specs.Limits.{places, terminals}
use Rattle.parts.specs.Sets.{nobody}
use Rattle.replica.specs.declared.messages.Message.{Message}
use Rattle.replica.specs.declared.messages.News.{News}
use Rattle.replica.specs.declared.operations.Operation.TheVariants.{Free}
use Rattle.replica.specs.declared.replicas.Replica.{Replica}
use Rattle.replica.specs.declared.retirements.Retirement.TheVariants.{Free as NoRetirement}
use Rattle.replica.specs.Numbers.{phase_number}
use Rattle.replica.specs.Replicas.{fresh}
use Rattle.house.specs.Opening.{new_state}
use Rattle.house.specs.Steps.{Rule}
use Rattle.invariants.proofs.Bases.{Ghost}
use Rattle.invariants.proofs.Currents.{current-free}
use Rattle.invariants.proofs.Entries.{Entries}
use Rattle.invariants.proofs.Fine.{Fine, answers_of}
use Rattle.invariants.proofs.Invariant.{Charts, Gone, Numbers, Props, Retires}
use Rattle.invariants.proofs.KeepQueries.{Queries}
use Rattle.invariants.proofs.Lists.{set_cases}
use Rattle.invariants.proofs.Operations.{is_free}
use Rattle.invariants.proofs.Ops.{from_first, new_op, op_at, zero_stamp}
use Rattle.invariants.proofs.Rows.{RowOk}
use Rattle.invariants.proofs.Seen.{seen}
use Rattle.invariants.proofs.Stamps.{le_same}
use Rattle.invariants.proofs.Views.{Sent, View, chart, group_at, op, ret, row}

same-everywhere : {X : Type 0} (n j : ℕ) (x : X) → get_or (replicate n x) j x ≡ x
same-everywhere zero j x = refl
same-everywhere (suc n) zero x = refl
same-everywhere (suc n) (suc j) x = same-everywhere n j x

-- the entries of the first chart
abbrev first-row : List Entry
first-row = first_chart.places

first-at : (k : ℕ) → ((k ≡ 0) × (entry_in first-row k ≡ Group (record { 0 = 0 }))) ⊎ (entry_in first-row k ≡ Unknown)
first-at k = elim (set_cases (replicate places Unknown) 0 k (Group (record { 0 = 0 })) Unknown) [
  | inl c ↦ inl (c.0, c.2)
  | inr e ↦ inr (e ∙ same-everywhere places k Unknown)
]

not-retired : (k : ℕ) → entry_in first-row k ≡ Retired → ⊥
not-retired k e = let h = first-at k in grind arith

-- the places of a house that was just opened
abbrev first-list : List GroupNumber
first-list = record { 0 = 0 } ∷ []

agrees : (k : ℕ) (c : GroupNumber) → entry_in first-row k ≡ Group c → (k < length first-list) × (c ≡ group_at first-list k)
agrees k c e = elim (first-at k) [
  | inl h ↦ (let q : c ≡ record { 0 = 0 } = cc in (omega (arith, h.0), q ∙ rw h.0 refl))
  | inr h ↦ absurd (let z : ◌≡◌ {A = ℕ} 0 1 = cc in omega arith)
]

row_ok : RowOk first-list first-row
row_ok = record {
  agree = agrees;
  usable = (0, record { 0 = 0 }, record { below = λ k h. absurd (omega arith); here = refl; above = λ k _. not-retired k });
  wide = length-set (replicate places Unknown) 0 (Group (record { 0 = 0 })) ∙ length-replicate places Unknown;
}

-- nothing is remembered yet
unfoldable first-ghost : ℕ → Ghost
first-ghost founder = record {
  entry = λ j k. zero_stamp founder;
  base = λ i. record { stamps = λ j. zero_stamp founder; lens = λ j. 0; begun = 0 };
  recs = λ x. record { confirmed = false; stamp = zero_stamp founder; low = 0; high = 0; heard = nobody; top = zero_stamp founder };
}

module _ {B C : Type 0} (reads writes : Rule B) (book : B) (n : ℕ) (founder : Terminal) (first : C) (ms : List (Message C)) where
  -- what is seen of a house that was just opened
  opened : View C
  opened = seen first (new_state book n founder first ms)

  row_at : (j : ℕ) → row opened j ≡ fresh first founder
  unfolding opened seen
  row_at j = same-everywhere n j (fresh first founder)

  op-at : (j : ℕ) → op opened j ≡ Free
  op-at j = ap (λ (t : Replica C). t.operation) (row_at j)

  ret_at : (j : ℕ) → ret opened j ≡ NoRetirement
  ret_at j = ap (λ (t : Replica C). t.retirement) (row_at j)

  chart-at : (j : ℕ) → chart opened j ≡ first-row
  chart-at j = ap (λ (t : Replica C). t.chart.places) (row_at j)

  none-sent : (f t : ℕ) (b : News C) → Sent opened f t b → ⊥
  unfolding opened seen
  none-sent f t b m = Memᴰ.not-nil m

  listed-is : opened.listed ≡ first-list
  unfolding opened seen
  listed-is = refl

  first-charts : Charts opened
  first-charts = record {
    terms = λ j. rw (chart-at j, listed-is) row_ok;
    ops = λ j h. absurd (false≢true (rw (op-at j) at h));
    msgs = λ f t b m. absurd (none-sent f t b m);
  }

  first-numbers : Numbers opened
  first-numbers = record {
    heard = λ j i. rw (row_at j, row_at i) (let z = ap (λ (m : PhaseNumber). m.0) (same-everywhere terminals i (phase_number 0)) in omega arith);
    pns = λ f t b m. absurd (none-sent f t b m);
    pnr = λ f t b m. absurd (none-sent f t b m);
    ops = λ i. rw (op-at i) (omega arith);
    rets = λ i. rw (ret_at i) (omega arith);
  }

  first-entries : Entries opened (first-ghost founder.0).entry
  unfolding first-ghost
  first-entries = record {
    under = λ j k. rw (row_at j) (le_same _);
    rising = λ j k l _. le_same _;
  }

  first-gone : Gone (answers_of reads writes book) opened (first-ghost founder.0).entry
  first-gone = record {
    sent = λ f t b m. absurd (none-sent f t b m);
    terms = λ j k h. absurd (not-retired k (rw (chart-at j) at h));
    msgs = λ f t b m. absurd (none-sent f t b m);
  }

  first-retires : Retires (answers_of reads writes book) opened (first-ghost founder.0).entry
  first-retires = record {
    own = λ i h. absurd (true≢false (rw (ret_at i) at h));
    front = λ i h. absurd (true≢false (rw (ret_at i) at h));
    heard = λ i h. absurd (false≢true (rw (ret_at i) at h));
    number = λ i h. absurd (false≢true (rw (ret_at i) at h));
    from = λ i h. absurd (false≢true (rw (ret_at i) at h));
    to = λ i h. absurd (false≢true (rw (ret_at i) at h));
    turned = λ i h. absurd (false≢true (rw (ret_at i) at h));
  }

  first-props : Props opened (first-ghost founder.0).entry
  first-props = record {
    own = λ i h. absurd (false≢true (rw (op-at i) at h));
    heard = λ i h. absurd (false≢true (rw (op-at i) at h));
    number = λ i h. absurd (false≢true (rw (op-at i) at h));
    from = λ i h. absurd (false≢true (rw (op-at i) at h));
    to = λ i h. absurd (false≢true (rw (op-at i) at h));
  }

  first-queries : Queries opened (first-ghost founder.0).base
  unfolding first-ghost
  first-queries = record {
    past = λ i j. record { stamp = rw (row_at j) (le_same _); long = omega arith };
    heard = λ i h. absurd (false≢true (rw (op-at i) at h));
    to = λ i h. absurd (false≢true (rw (op-at i) at h));
  }

  unsettled : (x : ℕ) → (op_at first [] x).settled ≡ true → ⊥
  unfolding op_at new_op
  unsettled x h = false≢true h

  uncollected : (x : ℕ) → (op_at first [] x).collected ≡ true → ⊥
  unfolding op_at new_op
  uncollected x h = false≢true h

  begun_first : (x : ℕ) → (op_at first [] x).begun ≤ 0
  unfolding op_at new_op
  begun_first x = omega arith

  pub fine-new : Fine reads writes first founder.0 (record { now = new_state book n founder first ms; ops = []; cur = λ _. 0; clock = 0 })
  fine-new = record {
    ghost = first-ghost founder.0;
    sound = (unfold opened in record {
      inv = record { charts = first-charts; numbers = first-numbers; entries = first-entries; gone = first-gone; retires = first-retires; props = first-props };
      queries = first-queries;
      names = record {
        mark = λ x h. absurd (unsettled x h);
        under = λ x h. absurd (unsettled x h);
        count = λ x h. absurd (unsettled x h);
        unique = λ x y h. absurd (unsettled x h);
      };
      orders = record { order = λ x y h. absurd (uncollected x h); strict = λ x y h. absurd (uncollected x h) };
      collected = λ x h. absurd (uncollected x h);
      times = record {
        past = begun_first;
        bases = λ i. (unfold first-ghost in omega arith);
      };
      vals = record {
        terms = λ j. rw (row_at j) (from_first refl refl);
        msgs = λ f t b m. absurd (none-sent f t b m);
        kept = λ i h. absurd (false≢true (rw (op-at i) at h));
      };
      recs = record { ok = λ x h. absurd (false≢true (unfold first-ghost in h)); bases = λ i x h. absurd (uncollected x h) };
      now = λ i. current-free (ap is_free (op-at i));
    });
  }
