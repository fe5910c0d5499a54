-- Each way through the calls by which a message leaves the pool.
use Rattle.std.proofs.Common.{◌≡◌, ℕ, ◌<◌, ◌≤◌, true, false, length, Some, None, Ok, Err, Option, refl, sym, ap, ◌∙◌, arith}
use Rattle.std.specs.List.{slice_get}
use Rattle.std.specs.Option.{ok_or}
use Rattle.std.proofs.lemmas.Bool.{lt-ltb, le-ltb}
use Rattle.std.proofs.lemmas.Bool.Decides.{nat_tests}
use Rattle.parts.specs.Limits.{messages as pool_size}
use Rattle.replica.specs.declared.messages.Message.{Message}
use Rattle.replica.specs.declared.refusals.Refusal.TheVariants.{NoMessage}
use Rattle.replica.specs.declared.replicas.Replica.{Replica}
use Rattle.replica.specs.Receiving.{taken}
use Rattle.house.specs.States.{State, tables_fit, seated}
use Rattle.house.specs.Steps.{listens, found, picked, reaching, arrived}

-- what is there, or cause 9
pub ok_or-found : {C : Type 0} (o : Option (Message C)) → ok_or o NoMessage ≡ found o
ok_or-found None = refl
ok_or-found (Some m) = refl

module _ {B C : Type 0} (s : State B C) where
  module _ (p : ℕ) where
    pub picked-past : tables_fit s ≡ true → s.waiting ≤ p → Err NoMessage ≡ picked p s
    picked-past fit past = sym (simp (fit, le-ltb p s.waiting past))

    pub picked-found : (o : Option (Message C)) → tables_fit s ≡ true → p < s.waiting → o ≡ slice_get s.messages p → found o ≡ picked p s
    picked-found o fit inside e = ap found e ∙ sym (simp (fit, lt-ltb p s.waiting inside))

    -- a message that was picked stands in the pool
    pub picked-inside : (m : Message C) → Ok m ≡ picked p s → (p < s.waiting) × (length s.messages ≡ pool_size)
    picked-inside m e = grind (arith, nat_tests)

  module _ (m : Message C) where
    pub arrived-far : s.size ≤ m.from.0 → s ≡ arrived m s
    arrived-far far = sym (simp (le-ltb m.from.0 s.size far))

    module _ (near : m.from.0 < s.size) where
      arrives : (o : Option (Replica C)) → o ≡ slice_get s.replicas m.to.0 → reaching m o s ≡ arrived m s
      arrives o e = ap (λ o. reaching m o s) e ∙ sym (simp (lt-ltb m.from.0 s.size near))

      pub arrived-nowhere : None ≡ slice_get s.replicas m.to.0 → s ≡ arrived m s
      arrived-nowhere e = arrives None e

      module _ (t : Replica C) (there : Some t ≡ slice_get s.replicas m.to.0) where
        pub arrived-deaf : listens t ≡ false → s ≡ arrived m s
        arrived-deaf deaf = sym (simp deaf) ∙ arrives (Some t) there

        pub arrived-taken : (u : Replica C) → listens t ≡ true → u ≡ taken m.from m.body t → seated m.to u s ≡ arrived m s
        arrived-taken u heard e = ap (λ u. seated m.to u s) e ∙ sym (simp heard) ∙ arrives (Some t) there
