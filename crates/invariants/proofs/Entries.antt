-- Entry stamps: for each terminal j and place k, the stamp that j held while k was still outside its cut chart.
use Rattle.std.proofs.Common.{◌≡◌, ℕ, ◌<◌, ◌≤◌, cond, ltb, inl, inr, arith}
use Rattle.std.proofs.lemmas.Bool.{cases_lt}
use Rattle.std.proofs.lemmas.Bool.Decides.{nat_tests}
use Rattle.parts.specs.declared.stamps.Stamp.{Stamp}
use Rattle.invariants.proofs.Stamps.{Le, le_same, le_then}
use Rattle.invariants.proofs.Steps.{Step, stamps-grow}
use Rattle.invariants.proofs.Views.{View, lens, row}

abbrev pub EntryStamps : Type 0
EntryStamps = ℕ → ℕ → Stamp

-- the entry stamps after a call: a place inside the cut chart keeps its own, one outside follows the terminal's stamp
unfoldable pub entered_at : {C : Type 0} → View C → EntryStamps → EntryStamps
entered_at s' E j k = cond (ltb k (lens s' j)) (E j k) (row s' j).stamp

-- what holds of them: they are at most the terminal's stamp, and rise from place to place
pub record Entries {C : Type 0} (s : View C) (E : EntryStamps) : Type 0 where
  pub under : (j k : ℕ) → Le (E j k) (row s j).stamp
  pub rising : (j k l : ℕ) → k ≤ l → Le (E j k) (E j l)

module _ {C : Type 0} (s' : View C) (E : EntryStamps) where
  pub frozen : (j k : ℕ) → k < lens s' j → entered_at s' E j k ≡ E j k
  unfolding entered_at
  frozen j k h = grind (arith, nat_tests)

  pub open-end : (j k : ℕ) → lens s' j ≤ k → entered_at s' E j k ≡ (row s' j).stamp
  unfolding entered_at
  open-end j k h = grind (arith, nat_tests)

module _ {C : Type 0} {s s' : View C} {i : ℕ} (E : EntryStamps) (st : Step s s' i) (en : Entries s E) where
  -- entry stamps never fall
  pub entry-grows : (j k : ℕ) → Le (E j k) (entered_at s' E j k)
  entry-grows j k = elim (cases_lt k (lens s' j)) [
    | inl h ↦ rw (frozen s' E j k h) (le_same _)
    | inr h ↦ rw (open-end s' E j k h) (le_then (en.under j k) (stamps-grow st j))
  ]

  pub entries-keep : Entries s' (entered_at s' E)
  entries-keep = record {
    under = λ j k. elim (cases_lt k (lens s' j)) [
      | inl h ↦ rw (frozen s' E j k h) (le_then (en.under j k) (stamps-grow st j))
      | inr h ↦ rw (open-end s' E j k h) (le_same _)
    ];
    rising = λ j k l h. elim (cases_lt l (lens s' j)) [
      | inl p ↦ rw (frozen s' E j l p, frozen s' E j k (omega arith)) (en.rising j k l h)
      | inr p ↦ elim (cases_lt k (lens s' j)) [
        | inl q ↦ rw (frozen s' E j k q, open-end s' E j l p) (le_then (en.under j k) (stamps-grow st j))
        | inr q ↦ rw (open-end s' E j k q, open-end s' E j l p) (le_same _)
      ]
    ];
  }
