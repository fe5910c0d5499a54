-- What it takes that a call is not declined by the causes that come first.
use Rattle.std.proofs.Common.{◌≡◌, ℕ, ◌<◌, Bool, true, false, cond, ltb, length, get_or, Some, None, Ok, Err, Option, Result, refl, ap, subst, arith}
use Rattle.std.specs.List.{slice_get}
use Rattle.std.proofs.lemmas.Bool.{and_parts, eqb-true}
use Rattle.parts.specs.declared.counts.Terminal.{Terminal}
use Rattle.parts.specs.Limits.{messages as pool_size}
use Rattle.replica.specs.declared.refusals.Refusal.{Refusal}
use Rattle.replica.specs.declared.refusals.Refusal.TheVariants.{Crashed, WrongStatus, WrongTables}
use Rattle.replica.specs.declared.replicas.Replica.{Replica}
use Rattle.replica.specs.Replicas.{fresh}
use Rattle.house.specs.declared.guarding.Need.{Need}
use Rattle.house.specs.Guards.{acting, meets, named, ready}
use Rattle.house.specs.States.{State, tables_fit}
use Rattle.invariants.proofs.Seen.{seen}
use Rattle.invariants.proofs.Tables.{nth_here}
use Rattle.invariants.proofs.Views.{row}

-- an Err is no Ok
pub not-ok : {A E : Type 0} {a : A} {e : E} → ◌≡◌ {A = Result A E} (Err e) (Ok a) → ⊥
not-ok q = let z : ◌≡◌ {A = ℕ} 0 1 = cc in omega arith

pub same_ok : {A E : Type 0} (a b : A) → ◌≡◌ {A = Result A E} (Ok a) (Ok b) → a ≡ b
same_ok a b e = cc

-- a call that is accepted by a test
pub when : {A E : Type 0} (b : Bool) (x : Result A E) (e : E) (a : A) → cond b x (Err e) ≡ Ok a → (b ≡ true) × (x ≡ Ok a)
when true x e a q = (refl, q)
when false x e a q = absurd (not-ok q)

unless : {A E : Type 0} (b : Bool) (x : Result A E) (e : E) (a : A) → cond b (Err e) x ≡ Ok a → x ≡ Ok a
unless true x e a q = absurd (not-ok q)
unless false x e a q = q

ready-row : {C : Type 0} (n : Need) (o : Option (Replica C)) (t : Replica C) → ready n o ≡ Ok t → o ≡ Some t
ready-row n None t q = absurd (not-ok q)
ready-row n (Some u) t q = ap Some (same_ok u t (when (meets n u.status) (Ok u) WrongStatus t (unless u.crashed _ Crashed t q)).1)

named-row : {X : Type 0} (b : Bool) (o : Option X) (t : X) → cond b o None ≡ Some t → o ≡ Some t
named-row true o t q = q
named-row false o t q = absurd (let z : ◌≡◌ {A = ℕ} 0 1 = cc in omega arith)

module _ {B C : Type 0} (first : C) (n : Need) (i j : Terminal) (s : State B C) where
  module _ (t : Replica C) (ok : acting n i j s ≡ Ok t) where
    fits : (tables_fit s ≡ true) × (ready n (named i j s) ≡ Ok t)
    fits = when (tables_fit s) (ready n (named i j s)) WrongTables t ok

    there : (i.0 < length s.replicas) × (get_or s.replicas i.0 (fresh first s.founder) ≡ t)
    there = nth_here s.replicas i.0 t _ (named-row (ltb j.0 s.size) (slice_get s.replicas i.0) t (ready-row n (named i j s) t fits.1))

    acting-row : row (seen first s) i.0 ≡ t
    unfolding seen
    acting-row = there.1

    acting-pool : length s.messages ≡ pool_size
    acting-pool = eqb-true _ _ (and_parts _ _ fits.0).1

  -- whatever a call does with the acting terminal: it is declined, or the terminal is one of the table, it is handed its row, and the pool has its length
  pub acting-cases : {A : Type 0} (run : Result (Replica C) Refusal → A) (P : A → Type 0) → ((e : Refusal) → P (run (Err e))) →
      (i.0 < length s.replicas → length s.messages ≡ pool_size → P (run (Ok (row (seen first s) i.0)))) → P (run (acting n i j s))
  acting-cases run P fails acts = go (acting n i j s) refl
    where
      go : (r : Result (Replica C) Refusal) → acting n i j s ≡ r → P (run r)
      go (Err e) ok = fails e
      go (Ok t) ok = subst (λ t. P (run (Ok t))) (acting-row t ok) (acts (there t ok).0 (acting-pool t ok))
