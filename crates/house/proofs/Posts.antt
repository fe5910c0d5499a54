-- Each way through the calls that put a message into the pool.
use Rattle.std.proofs.Common.{◌≡◌, ◌+◌, ◌<◌, ◌≤◌, List, set, Ok, Err, sym}
use Rattle.std.proofs.lemmas.Bool.{lt-ltb, le-ltb}
use Rattle.parts.specs.Limits.{messages as pool_size}
use Rattle.replica.specs.declared.messages.Message.{Message}
use Rattle.replica.specs.declared.refusals.Refusal.TheVariants.{PoolFull}
use Rattle.house.specs.States.{State, pooled}
use Rattle.house.specs.Steps.{posted}

module _ {B C : Type 0} (s : State B C) where
  pub post-full : (m : Message C) → pool_size ≤ s.waiting → (Err PoolFull, s) ≡ posted m s
  post-full m full = sym (simp (le-ltb s.waiting pool_size full))

  pub post-done :
      (m : Message C) (ms : List (Message C)) → s.waiting < pool_size → ms ≡ set s.messages s.waiting m →
      (Ok tt, pooled (s.waiting + 1) ms s) ≡ posted m s
  post-done m ms room e = rw e (sym (simp (lt-ltb s.waiting pool_size room)))
