-- Lose and deliver keep the invariant.
use Rattle.std.proofs.Common.{◌≡◌, ℕ, ◌<◌, ltb, length, take, Some, None, Ok, Err, Option, Result, refl, ap, subst}
use mathlib.Core.List.{Memᴰ}
use Rattle.std.specs.List.{slice_get}
use Rattle.std.proofs.lemmas.Bool.{cond_both, ltb-true}
use Rattle.replica.specs.declared.messages.Body.{Body}
use Rattle.replica.specs.declared.messages.Body.TheVariants.{Knock, News as Told}
use Rattle.replica.specs.declared.messages.Message.{Message}
use Rattle.replica.specs.declared.refusals.Refusal.{Refusal}
use Rattle.replica.specs.declared.refusals.Refusal.TheVariants.{NoMessage, WrongTables}
use Rattle.replica.specs.declared.replicas.Replica.{Replica}
use Rattle.replica.specs.Receiving.{taken}
use Rattle.replica.specs.Replicas.{fresh}
use Rattle.house.specs.States.{State, seated, tables_fit}
use Rattle.house.specs.Steps.{Rule, deliver_step, delivering, found, leaving, listens, lose_step, picked, reaching, without}
use Rattle.invariants.proofs.Acting.{not-ok, same_ok, when}
use Rattle.invariants.proofs.CallMoves.{move-standing}
use Rattle.invariants.proofs.Days.{Day, day_on}
use Rattle.invariants.proofs.Fine.{Fine, answers_of, fine-calm, fine-quiet, fine-same, fine-ticks, world}
use Rattle.invariants.proofs.Invariant.{Inv}
use Rattle.invariants.proofs.Quiet.{sound-received}
use Rattle.invariants.proofs.Seen.{calm-without, puts-without, seen}
use Rattle.invariants.proofs.Tables.{mem-nth, nth_here}
use Rattle.invariants.proofs.Views.{row}

found-message : {C : Type 0} (o : Option (Message C)) (m : Message C) → found o ≡ Ok m → o ≡ Some m
found-message None m e = absurd (not-ok e)
found-message (Some n) m e = ap Some (same_ok n m e)

module _ {B C : Type 0} (p : ℕ) (s : State B C) where
  -- a call that takes message p: it is declined, or the message waits at p
  picked-cases : {A : Type 0} (run : Result (Message C) Refusal → A) (P : A → Type 0) → ((e : Refusal) → P (run (Err e))) →
      ((m : Message C) → p < s.waiting → slice_get s.messages p ≡ Some m → P (run (Ok m))) → P (run (picked p s))
  picked-cases run P fails waits = go (picked p s) refl
    where
      go : (r : Result (Message C) Refusal) → picked p s ≡ r → P (run r)
      go (Err e) q = fails e
      go (Ok m) q = let a = when (tables_fit s) _ WrongTables m q in let b = when (ltb p s.waiting) (found (slice_get s.messages p)) NoMessage m a.1 in
          waits m (ltb-true _ _ b.0) (found-message _ m b.1)

module _ {B C : Type 0} {reads writes : Rule B} {first : C} {founder : ℕ} (d : Day B C) (f : Fine reads writes first founder d) where
  v : Inv (answers_of reads writes d.now.book) (seen first d.now) f.ghost.entry
  v = f.sound.inv

  -- the invariant holds after a call that left this state, and in which no operation is moved
  abbrev Left : State B C → Type 0
  Left s = Fine reads writes first founder (day_on s d)

  gone : (p : ℕ) → p < d.now.waiting → Left (without p d.now)
  gone p h = fine-calm d f _ 0 refl (calm-without first d.now p h 0)

  pub fine-lose : (p : ℕ) → Fine reads writes first founder (day_on (lose_step p d.now).1 d)
  fine-lose p = picked-cases p d.now (λ r. leaving p r d.now) (λ r. Left r.1) (λ e. fine-ticks d f) (λ m h _. gone p h)

  -- the message m, which waits at p, is taken in by its receiver
  module _ (p : ℕ) (m : Message C) (h : p < d.now.waiting) (there : slice_get d.now.messages p ≡ Some m)
      (l : m.to.0 < length d.now.replicas) where
    took : (b : Body C) → m.body ≡ b → Left (seated m.to (taken m.from b (row (seen first d.now) m.to.0)) (without p d.now))
    took Knock e = let q = puts-without first d.now p h m.to (taken m.from Knock (row (seen first d.now) m.to.0)) l in
        fine-same d f _ m.to.0 _ refl q (move-standing v _ _ _ q) refl refl refl
    took (Told b) e = fine-quiet d f _ refl (sound-received (world first d f.ghost) f.sound _ m.to.0 m.from.0 b
        (unfold seen in subst (λ x. Memᴰ (record { from = m.from; to = m.to; body = x }) (take d.now.waiting d.now.messages)) e
        (mem-nth d.now.messages p d.now.waiting m h there))
        (puts-without first d.now p h m.to _ l))

  -- it comes to the receiver's row, if there is one
  reached : (p : ℕ) (m : Message C) → p < d.now.waiting → slice_get d.now.messages p ≡ Some m → (o : Option (Replica C)) →
      slice_get d.now.replicas m.to.0 ≡ o → Left (reaching m o (without p d.now))
  reached p m h there None e = gone p h
  reached p m h there (Some t) e = let r = nth_here d.now.replicas m.to.0 t (fresh first d.now.founder) e in
      let q : row (seen first d.now) m.to.0 ≡ t = (unfold seen in r.1) in
      cond_both (listens t) _ _ Left
      (λ _. subst (λ t. Left (seated m.to (taken m.from m.body t) (without p d.now))) q (took p m h there r.0 m.body refl))
      (λ _. gone p h)

  pub fine-deliver : (p : ℕ) → Fine reads writes first founder (day_on (deliver_step p d.now).1 d)
  fine-deliver p = picked-cases p d.now (λ r. delivering (leaving p r d.now)) (λ r. Left r.1) (λ e. fine-ticks d f)
      (λ m h there. cond_both (ltb m.from.0 d.now.size) _ _ Left (λ _. reached p m h there _ refl) (λ _. gone p h))
