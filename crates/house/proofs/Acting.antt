-- Each way through the causes that every call looks at first.
use Rattle.std.proofs.Common.{◌≡◌, ◌<◌, ◌≤◌, true, Err, sym}
use Rattle.std.specs.List.{slice_get}
use Rattle.std.proofs.lemmas.Bool.{lt-ltb, le-ltb}
use Rattle.parts.specs.declared.counts.Terminal.{Terminal}
use Rattle.replica.specs.declared.refusals.Refusal.TheVariants.{NoTerminal}
use Rattle.house.specs.declared.guarding.Need.{Need}
use Rattle.house.specs.Guards.{ready, acting}
use Rattle.house.specs.States.{State, tables_fit}

module _ {B C : Type 0} (n : Need) (i j : Terminal) (s : State B C) (fit : tables_fit s ≡ true) where
  pub acting-far : s.size ≤ j.0 → Err NoTerminal ≡ acting n i j s
  acting-far far = sym (simp (fit, le-ltb j.0 s.size far))

  pub acting-near : j.0 < s.size → ready n (slice_get s.replicas i.0) ≡ acting n i j s
  acting-near near = sym (simp (fit, lt-ltb j.0 s.size near))
