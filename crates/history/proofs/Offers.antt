-- What an offered call leaves as it was: the number of terminals, and everything where the tables have another length.
use Rattle.std.proofs.Common.{◌≡◌, ℕ, false, ◌&&◌, eqb, ltb, List, length, Some, None, Ok, Err, Option, Result, refl, ap, ◌∙◌}
use Rattle.std.specs.List.{slice_get}
use Rattle.std.proofs.lemmas.Bool.{cond_both}
use Rattle.parts.specs.declared.calls.Call.{Call}
use Rattle.parts.specs.declared.calls.Call.TheVariants.{Enter, Knock, Send, Deliver, Lose, Crash, Read, Write, Settle, Confirm, Collect, Appoint, Tell, Retire, RetireSettle, RetireConfirm, RetireClose}
use Rattle.parts.specs.declared.counts.Group.{Group}
use Rattle.parts.specs.declared.counts.Place.{Place}
use Rattle.parts.specs.declared.counts.Terminal.{Terminal}
use Rattle.parts.specs.declared.sets.TerminalSet.{TerminalSet}
use Rattle.parts.specs.Limits.{messages as pool_size}
use Rattle.parts.specs.Sets.{has}
use Rattle.replica.specs.declared.messages.Message.{Message}
use Rattle.replica.specs.declared.operations.Kind.TheVariants.{Read as Reading, Write as Writing}
use Rattle.replica.specs.declared.operations.Move.{Move}
use Rattle.replica.specs.declared.operations.Move.TheVariants.{Begin, Settle as SettleMove, Confirm as ConfirmMove, Collect as CollectMove}
use Rattle.replica.specs.declared.refusals.Refusal.{Refusal}
use Rattle.replica.specs.declared.refusals.Refusal.TheVariants.{WrongTables}
use Rattle.replica.specs.declared.replicas.Replica.{Replica}
use Rattle.replica.specs.declared.retirements.Retiring.{Retiring}
use Rattle.replica.specs.declared.retirements.Retiring.TheVariants.{Begin as BeginRetiring, Settle as SettleRetiring, Confirm as ConfirmRetiring, Close as CloseRetiring}
use Rattle.house.specs.declared.guarding.Need.TheVariants.{ToBeActive}
use Rattle.house.specs.Appointing.{appointing, learning, telling}
use Rattle.house.specs.Calls.{Outcome, step}
use Rattle.house.specs.Guards.{kept, acting}
use Rattle.house.specs.Retiring.{retiring, retiring_step}
use Rattle.house.specs.States.{State, tables_fit}
use Rattle.house.specs.Steps.{Rule, listens, entering, crashing, posted, knocking, sending, picked, leaving, take_step, reaching, arrived, delivering, operating, operate_step}
use Rattle.history.specs.Offers.{strange, fitting, lent, offer_step}

module _ {B C : Type 0} (count : B → ℕ) (members : B → Group → TerminalSet) (reads writes : Rule B) where
  -- every call declines tables that do not fit, and changes nothing
  wrong-tables : (call : Call C) (s : State B C) → tables_fit s ≡ false → step count members reads writes call s ≡ (Err WrongTables, s)
  unfolding step
  wrong-tables (Enter i) s e = rw e refl
  wrong-tables (Knock i j) s e = rw e refl
  wrong-tables (Send i j) s e = rw e refl
  wrong-tables (Deliver p) s e = rw e refl
  wrong-tables (Lose p) s e = rw e refl
  wrong-tables (Crash i) s e = rw e refl
  wrong-tables (Read i) s e = rw e refl
  wrong-tables (Write i c) s e = rw e refl
  wrong-tables (Settle i) s e = rw e refl
  wrong-tables (Confirm i) s e = rw e refl
  wrong-tables (Collect i) s e = rw e refl
  wrong-tables (Appoint c) s e = rw e refl
  wrong-tables (Tell i k) s e = rw e refl
  wrong-tables (Retire i k) s e = rw e refl
  wrong-tables (RetireSettle i) s e = rw e refl
  wrong-tables (RetireConfirm i) s e = rw e refl
  wrong-tables (RetireClose i) s e = rw e refl

  -- so an offer with tables of another length is declined by 18, and leaves the house and its own tables as they were
  pub strange-declined : (n : ℕ) (call : Call C) (rs : List (Replica C)) (ms : List (Message C)) (f : fitting n rs ms ≡ false) (s : State B C) → s.size ≡ n →
      offer_step count members reads writes (strange call rs ms f) s ≡ (Err WrongTables, s)
  strange-declined n call rs ms f s e =
      ap (λ (o : Outcome C × State B C). (o.0, lent s.replicas s.messages o.1))
      (wrong-tables call (lent rs ms s) (ap (λ (m : ℕ). eqb (length rs) m && eqb (length ms) pool_size) e ∙ f))

-- the number of terminals never changes
module _ {B C : Type 0} where
  size-kept : {A : Type 0} (i : Terminal) (o : Result A Refusal × Replica C) (s : State B C) → (kept i o s).1.size ≡ s.size
  size-kept i (Ok a, t) s = refl
  size-kept i (Err e, t) s = refl

  size-entering : (i : Terminal) (r : Result (Replica C) Refusal) (s : State B C) → (entering i r s).1.size ≡ s.size
  size-entering i (Err e) s = refl
  size-entering i (Ok t) s = refl

  size-crashing : (i : Terminal) (r : Result (Replica C) Refusal) (s : State B C) → (crashing i r s).1.size ≡ s.size
  size-crashing i (Err e) s = refl
  size-crashing i (Ok t) s = refl

  size-posted : (m : Message C) (s : State B C) → (posted m s).1.size ≡ s.size
  size-posted m s = cond_both (ltb s.waiting pool_size) _ _ (λ (o : Result (Unit {0}) Refusal × State B C). o.1.size ≡ s.size) (λ _. refl) (λ _. refl)

  size-knocking : (i j : Terminal) (r : Result (Replica C) Refusal) (s : State B C) → (knocking i j r s).1.size ≡ s.size
  size-knocking i j (Err e) s = refl
  size-knocking i j (Ok t) s =
      cond_both (eqb i.0 j.0) _ _ (λ (o : Result (Unit {0}) Refusal × State B C). o.1.size ≡ s.size) (λ _. refl) (λ _. size-posted _ s)

  size-sending : (i j : Terminal) (r : Result (Replica C) Refusal) (s : State B C) → (sending i j r s).1.size ≡ s.size
  size-sending i j (Err e) s = refl
  size-sending i j (Ok t) s =
      cond_both (has t.known j) _ _ (λ (o : Result (Unit {0}) Refusal × State B C). o.1.size ≡ s.size) (λ _. size-posted _ s) (λ _. refl)

  size-leaving : (p : ℕ) (r : Result (Message C) Refusal) (s : State B C) → (leaving p r s).1.size ≡ s.size
  size-leaving p (Err e) s = refl
  size-leaving p (Ok m) s = refl

  size-reaching : (m : Message C) (r : Option (Replica C)) (s : State B C) → (reaching m r s).size ≡ s.size
  size-reaching m None s = refl
  size-reaching m (Some t) s = cond_both (listens t) _ _ (λ (z : State B C). z.size ≡ s.size) (λ _. refl) (λ _. refl)

  size-arrived : (m : Message C) (s : State B C) → (arrived m s).size ≡ s.size
  size-arrived m s =
      cond_both (ltb m.from.0 s.size) _ _ (λ (z : State B C). z.size ≡ s.size) (λ _. size-reaching m (slice_get s.replicas m.to.0) s) (λ _. refl)

  size-delivering : (o : Result (Message C) Refusal × State B C) → (delivering o).1.size ≡ o.1.size
  size-delivering (Err e, s) = refl
  size-delivering (Ok m, s) = size-arrived m s

  size-appointing : (c : Group) (r : Option Refusal) (s : State B C) → (appointing c r s).1.size ≡ s.size
  size-appointing c (Some e) s = refl
  size-appointing c None s = refl

  size-learning : (i : Terminal) (k : Place) (r : Option Group) (t : Replica C) (s : State B C) → (learning i k r t s).1.size ≡ s.size
  size-learning i k None t s = refl
  size-learning i k (Some c) t s = refl

  size-telling : (i : Terminal) (k : Place) (r : Result (Replica C) Refusal) (s : State B C) → (telling i k r s).1.size ≡ s.size
  size-telling i k (Err e) s = refl
  size-telling i k (Ok t) s = size-learning i k _ t s

module _ {B C : Type 0} (reads writes : Rule B) where
  size-operating : (m : Move C) (i : Terminal) (r : Result (Replica C) Refusal) (s : State B C) → (operating reads writes m i r s).1.size ≡ s.size
  size-operating m i (Err e) s = refl
  size-operating m i (Ok t) s = size-kept i _ s

  size-operated : (m : Move C) (i : Terminal) (s : State B C) → (operate_step reads writes m i s).1.size ≡ s.size
  size-operated m i s = size-operating m i (acting ToBeActive i i s) s

  size-retiring : (m : Retiring) (i : Terminal) (r : Result (Replica C) Refusal) (s : State B C) → (retiring reads writes m i r s).1.size ≡ s.size
  size-retiring m i (Err e) s = refl
  size-retiring m i (Ok t) s = size-kept i _ s

  size-retired : (m : Retiring) (i : Terminal) (s : State B C) → (retiring_step reads writes m i s).1.size ≡ s.size
  size-retired m i s = size-retiring m i (acting ToBeActive i i s) s

module _ {B C : Type 0} (count : B → ℕ) (members : B → Group → TerminalSet) (reads writes : Rule B) where
  pub size_step : (call : Call C) (s : State B C) → (step count members reads writes call s).1.size ≡ s.size
  unfolding step
  size_step (Enter i) s = size-entering i _ s
  size_step (Knock i j) s = size-knocking i j _ s
  size_step (Send i j) s = size-sending i j _ s
  size_step (Deliver p) s = size-delivering (take_step p s) ∙ size-leaving p (picked p s) s
  size_step (Lose p) s = size-leaving p _ s
  size_step (Crash i) s = size-crashing i _ s
  size_step (Read i) s = size-operated reads writes (Begin Reading) i s
  size_step (Write i c) s = size-operated reads writes (Begin (Writing c)) i s
  size_step (Settle i) s = size-operated reads writes SettleMove i s
  size_step (Confirm i) s = size-operated reads writes ConfirmMove i s
  size_step (Collect i) s = size-operated reads writes CollectMove i s
  size_step (Appoint c) s = size-appointing c _ s
  size_step (Tell i k) s = size-telling i k _ s
  size_step (Retire i k) s = size-retired reads writes (BeginRetiring k) i s
  size_step (RetireSettle i) s = size-retired reads writes SettleRetiring i s
  size_step (RetireConfirm i) s = size-retired reads writes ConfirmRetiring i s
  size_step (RetireClose i) s = size-retired reads writes CloseRetiring i s
