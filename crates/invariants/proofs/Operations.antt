-- The parts of an operation, with something where there is none.
use Rattle.std.proofs.Common.{◌≡◌, ℕ, Bool, true, false, ◌||◌, List, [], sym, refl}
use Rattle.std.proofs.lemmas.Bool.{false≢true}
use Rattle.parts.specs.declared.entries.Entry.{Entry}
use Rattle.parts.specs.declared.sets.TerminalSet.{TerminalSet}
use Rattle.parts.specs.declared.stamps.Stamp.{Stamp}
use Rattle.parts.specs.Charts.{chart_of}
use Rattle.replica.specs.declared.operations.Kind.{Kind}
use Rattle.replica.specs.declared.operations.Kind.TheVariants.{Read}
use Rattle.replica.specs.declared.operations.Operation.{Operation}
use Rattle.replica.specs.declared.operations.Operation.TheVariants.{Done, Free, Prop, Query}
use Rattle.replica.specs.declared.operations.Phase.{Phase}
use Rattle.replica.specs.Operating.{new_phase}
use Rattle.replica.specs.Replicas.{stamp_of}
use Rattle.invariants.proofs.Sets.{terminal}

-- the phase with other entries and other terminals heard
abbrev put-phase : Phase → List Entry → TerminalSet → Phase
put-phase p a h = record { number = p.number; chart = chart_of a; heard = h }

module _ {C : Type 0} where
  abbrev pub is_query : Operation C → Bool
  is_query Free = false
  is_query (Query k p) = true
  is_query (Prop kept p) = false
  is_query (Done kept) = false

  abbrev pub is_prop : Operation C → Bool
  is_prop Free = false
  is_prop (Query k p) = false
  is_prop (Prop kept p) = true
  is_prop (Done kept) = false

  abbrev pub is_done : Operation C → Bool
  is_done Free = false
  is_done (Query k p) = false
  is_done (Prop kept p) = false
  is_done (Done kept) = true

  abbrev pub is_free : Operation C → Bool
  is_free Free = true
  is_free (Query k p) = false
  is_free (Prop kept p) = false
  is_free (Done kept) = false

  -- it keeps a card and a stamp
  abbrev pub is_kept : Operation C → Bool
  is_kept Free = false
  is_kept (Query k p) = false
  is_kept (Prop kept p) = true
  is_kept (Done kept) = true

  -- a phase is under way
  abbrev pub runs : Operation C → Bool
  runs o = is_query o || is_prop o

  -- the phase, with an empty one where none is under way
  abbrev pub phase-of : Operation C → Phase
  phase-of Free = new_phase 0 (chart_of [])
  phase-of (Query k p) = p
  phase-of (Prop kept p) = p
  phase-of (Done kept) = new_phase 0 (chart_of [])

  abbrev pub number_of : Operation C → ℕ
  number_of o = (phase-of o).number.0

  -- the entries of its chart
  abbrev pub places_of : Operation C → List Entry
  places_of o = (phase-of o).chart.places

  abbrev pub heard-of : Operation C → TerminalSet
  heard-of o = (phase-of o).heard

  abbrev pub kind-of : Operation C → Kind C
  kind-of Free = Read
  kind-of (Query k p) = k
  kind-of (Prop kept p) = Read
  kind-of (Done kept) = Read

  -- the card that it keeps
  abbrev pub card-of : C → Operation C → C
  card-of d Free = d
  card-of d (Query k p) = d
  card-of d (Prop kept p) = kept.0
  card-of d (Done kept) = kept.0

  -- the stamp that it keeps
  abbrev pub stamp-of : Operation C → Stamp
  stamp-of Free = stamp_of 0 (terminal 0)
  stamp-of (Query k p) = stamp_of 0 (terminal 0)
  stamp-of (Prop kept p) = kept.1
  stamp-of (Done kept) = kept.1

  -- the same operation with other entries and other terminals heard
  abbrev pub put-op : Operation C → List Entry → TerminalSet → Operation C
  put-op Free a h = Free
  put-op (Query k p) a h = Query k (put-phase p a h)
  put-op (Prop kept p) a h = Prop kept (put-phase p a h)
  put-op (Done kept) a h = Done kept

-- what of it stays
module _ {C : Type 0} (a : List Entry) (h : TerminalSet) where
  pub put-query : (o : Operation C) → is_query (put-op o a h) ≡ is_query o
  put-query Free = refl
  put-query (Query k p) = refl
  put-query (Prop kept p) = refl
  put-query (Done kept) = refl

  pub put-prop : (o : Operation C) → is_prop (put-op o a h) ≡ is_prop o
  put-prop Free = refl
  put-prop (Query k p) = refl
  put-prop (Prop kept p) = refl
  put-prop (Done kept) = refl

  pub put-done : (o : Operation C) → is_done (put-op o a h) ≡ is_done o
  put-done Free = refl
  put-done (Query k p) = refl
  put-done (Prop kept p) = refl
  put-done (Done kept) = refl

  pub put-free : (o : Operation C) → is_free (put-op o a h) ≡ is_free o
  put-free Free = refl
  put-free (Query k p) = refl
  put-free (Prop kept p) = refl
  put-free (Done kept) = refl

  pub put-kept : (o : Operation C) → is_kept (put-op o a h) ≡ is_kept o
  put-kept Free = refl
  put-kept (Query k p) = refl
  put-kept (Prop kept p) = refl
  put-kept (Done kept) = refl

  pub put-runs : (o : Operation C) → runs (put-op o a h) ≡ runs o
  put-runs Free = refl
  put-runs (Query k p) = refl
  put-runs (Prop kept p) = refl
  put-runs (Done kept) = refl

  pub put-number : (o : Operation C) → number_of (put-op o a h) ≡ number_of o
  put-number Free = refl
  put-number (Query k p) = refl
  put-number (Prop kept p) = refl
  put-number (Done kept) = refl

  pub put-stamp : (o : Operation C) → stamp-of (put-op o a h) ≡ stamp-of o
  put-stamp Free = refl
  put-stamp (Query k p) = refl
  put-stamp (Prop kept p) = refl
  put-stamp (Done kept) = refl

  pub put-card : (d : C) (o : Operation C) → card-of d (put-op o a h) ≡ card-of d o
  put-card d Free = refl
  put-card d (Query k p) = refl
  put-card d (Prop kept p) = refl
  put-card d (Done kept) = refl

  pub put-kind : (o : Operation C) → kind-of (put-op o a h) ≡ kind-of o
  put-kind Free = refl
  put-kind (Query k p) = refl
  put-kind (Prop kept p) = refl
  put-kind (Done kept) = refl

  -- and what is new, while a phase is under way
  pub put-places : (o : Operation C) → runs o ≡ true → places_of (put-op o a h) ≡ a
  put-places Free e = absurd (false≢true e)
  put-places (Query k p) e = refl
  put-places (Prop kept p) e = refl
  put-places (Done kept) e = absurd (false≢true e)

  pub put-heard : (o : Operation C) → runs o ≡ true → heard-of (put-op o a h) ≡ h
  put-heard Free e = absurd (false≢true e)
  put-heard (Query k p) e = refl
  put-heard (Prop kept p) e = refl
  put-heard (Done kept) e = absurd (false≢true e)

-- which of the tests go together
module _ {C : Type 0} where
  pub put_same : (o : Operation C) → put-op o (places_of o) (heard-of o) ≡ o
  put_same Free = refl
  put_same (Query k p) = refl
  put_same (Prop kept p) = refl
  put_same (Done kept) = refl

  pub query-runs : (o : Operation C) → is_query o ≡ true → runs o ≡ true
  query-runs Free e = e
  query-runs (Query k p) e = refl
  query-runs (Prop kept p) e = refl
  query-runs (Done kept) e = e

  pub prop-runs : (o : Operation C) → is_prop o ≡ true → runs o ≡ true
  prop-runs Free e = e
  prop-runs (Query k p) e = refl
  prop-runs (Prop kept p) e = refl
  prop-runs (Done kept) e = e

  pub query-busy : (o : Operation C) → is_query o ≡ true → is_free o ≡ false
  query-busy Free e = sym e
  query-busy (Query k p) e = refl
  query-busy (Prop kept p) e = refl
  query-busy (Done kept) e = refl

  pub prop-kept : (o : Operation C) → is_prop o ≡ true → is_kept o ≡ true
  prop-kept Free e = e
  prop-kept (Query k p) e = e
  prop-kept (Prop kept p) e = refl
  prop-kept (Done kept) e = refl

  pub done-kept : (o : Operation C) → is_done o ≡ true → is_kept o ≡ true
  done-kept Free e = e
  done-kept (Query k p) e = e
  done-kept (Prop kept p) e = refl
  done-kept (Done kept) e = refl

  pub kept-busy : (o : Operation C) → is_kept o ≡ true → is_free o ≡ false
  kept-busy Free e = sym e
  kept-busy (Query k p) e = refl
  kept-busy (Prop kept p) e = refl
  kept-busy (Done kept) e = refl

  pub kept-card : (d e : C) (o : Operation C) → is_kept o ≡ true → card-of d o ≡ card-of e o
  kept-card d e Free h = absurd (false≢true h)
  kept-card d e (Query k p) h = absurd (false≢true h)
  kept-card d e (Prop kept p) h = refl
  kept-card d e (Done kept) h = refl

  pub free-query : (o : Operation C) → is_free o ≡ true → is_query o ≡ true → ⊥
  free-query Free e f = false≢true f
  free-query (Query k p) e f = false≢true e
  free-query (Prop kept p) e f = false≢true e
  free-query (Done kept) e f = false≢true e

  pub free-kept : (o : Operation C) → is_free o ≡ true → is_kept o ≡ true → ⊥
  free-kept Free e f = false≢true f
  free-kept (Query k p) e f = false≢true e
  free-kept (Prop kept p) e f = false≢true e
  free-kept (Done kept) e f = false≢true e

  pub free-done : (o : Operation C) → is_free o ≡ true → is_done o ≡ true → ⊥
  free-done Free e f = false≢true f
  free-done (Query k p) e f = false≢true e
  free-done (Prop kept p) e f = false≢true e
  free-done (Done kept) e f = false≢true e
