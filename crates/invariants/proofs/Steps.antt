-- What every call has in common: one terminal changes, and what it holds grows.
use Rattle.std.proofs.Common.{◌≡◌, ℕ, ◌<◌, ◌≤◌, ◌⊎◌, length, sym, subst, inl, inr, arith}
use Rattle.std.proofs.lemmas.Bool.{cases_eq}
use Rattle.replica.specs.declared.messages.News.{News}
use Rattle.replica.specs.declared.replicas.Replica.{Replica}
use Rattle.replica.specs.Replicas.{news_for}
use Rattle.invariants.proofs.Rows.{Below, below-same, length-below}
use Rattle.invariants.proofs.Sets.{terminal}
use Rattle.invariants.proofs.Stamps.{Le, le_same}
use Rattle.invariants.proofs.Views.{Sent, View, group_at, lens, row}

-- a terminal after a call holds what it held, and more
pub record Grows {C : Type 0} (t t' : Replica C) : Type 0 where
  pub stamp : Le t.stamp t'.stamp
  pub places : Below t.chart.places t'.chart.places
  pub number : t.number.0 ≤ t'.number.0

pub grows_same : {C : Type 0} (t : Replica C) → Grows t t
grows_same t = record { stamp = le_same _; places = below-same _; number = omega arith }

-- one call: terminal i changes alone, news that is new in the pool tells what i holds now, and the groups listed stay
pub record Step {C : Type 0} (s s' : View C) (i : ℕ) : Type 0 where
  pub others : (j : ℕ) → (j ≡ i → ⊥) → row s' j ≡ row s j
  pub grows : Grows (row s i) (row s' i)
  pub pool : (f t : ℕ) (b : News C) → Sent s' f t b → Sent s f t b ⊎ ((f ≡ i) × (b ≡ news_for (row s' i) (terminal t)))
  pub listed : (k : ℕ) → k < length s.listed → (k < length s'.listed) × (group_at s'.listed k ≡ group_at s.listed k)

pub grows_all : {C : Type 0} {s s' : View C} {i : ℕ} → Step s s' i → (j : ℕ) → Grows (row s j) (row s' j)
grows_all {s = s} {s'} {i} st j = elim (cases_eq j i) [
  | inl e ↦ subst (λ j. Grows (row s j) (row s' j)) (sym e) st.grows
  | inr n ↦ subst (λ t. Grows (row s j) t) (sym (st.others j n)) (grows_same _)
]

pub lens-grow : {C : Type 0} {s s' : View C} {i : ℕ} → Step s s' i → (j : ℕ) → lens s j ≤ lens s' j
lens-grow st j = length-below (grows_all st j).places

pub stamps-grow : {C : Type 0} {s s' : View C} {i : ℕ} → Step s s' i → (j : ℕ) → Le (row s j).stamp (row s' j).stamp
stamps-grow st j = (grows_all st j).stamp

-- a fact about each terminal after a call: of i it is shown, of the others it is as before
pub each : {C : Type 0} {s s' : View C} {i : ℕ} → Step s s' i → (P : ℕ → Replica C → Type 0) → P i (row s' i) → ((j : ℕ) → P j (row s j)) → (j : ℕ) →
    P j (row s' j)
each {s = s} {s'} {i} st P new old j = elim (cases_eq j i) [
  | inl e ↦ subst (λ j. P j (row s' j)) (sym e) new
  | inr n ↦ subst (λ t. P j t) (sym (st.others j n)) (old j)
]
