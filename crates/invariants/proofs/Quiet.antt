-- Calls in which no operation is begun, settled, confirmed or collected.
use Rattle.std.proofs.Common.{◌≡◌, ℕ, Bool, true, false, sym, refl, ap, ◌∙◌}
use Rattle.parts.specs.Charts.{join}
use Rattle.parts.specs.Stamps.{below}
use Rattle.replica.specs.declared.messages.News.{News}
use Rattle.replica.specs.declared.replicas.Replica.{Replica}
use Rattle.replica.specs.Receiving.{received}
use Rattle.invariants.proofs.Books.{Book}
use Rattle.invariants.proofs.Moves.{Move}
use Rattle.invariants.proofs.Operations.{heard-of, places_of, put_same}
use Rattle.invariants.proofs.OpsQuiet.{quiet, sound-quiet}
use Rattle.invariants.proofs.Puts.{Calm, Puts, move-calm}
use Rattle.invariants.proofs.Receiving.{heard-put, move-received}
use Rattle.invariants.proofs.Sets.{terminal}
use Rattle.invariants.proofs.Views.{Sent, View, op, row}
use Rattle.invariants.proofs.World.{Sound, ValueMove, World, v-news, v-same}

module _ {C : Type 0} {B : Book} {first : C} {founder : ℕ} (w : World C) (v : Sound B first founder w) where
  -- a row is put, and its operation, card and stamp stay
  pub sound-same : (s' : View C) (i : ℕ) (t : Replica C) → Puts w.s s' i t → Move B w.s w.E s' i → t.operation ≡ op w.s i →
      t.card ≡ (row w.s i).card → t.stamp ≡ (row w.s i).stamp →
      Sound B first founder (quiet w s')
  unfolding quiet
  sound-same s' i t p mv o c st = sound-quiet w s' i v mv (places_of (op w.s i)) (heard-of (op w.s i))
      (ap (λ (t : Replica C). t.operation) p.here ∙ o ∙ sym (put_same _))
      (v-same (ap (λ (t : Replica C). t.card) p.here ∙ c) (ap (λ (t : Replica C). t.stamp) p.here ∙ st))

  -- no row is put
  pub sound-calm : (s' : View C) (i : ℕ) → Calm w.s s' i → Sound B first founder (quiet w s')
  unfolding quiet
  sound-calm s' i c = sound-quiet w s' i v (move-calm v.inv c) (places_of (op w.s i)) (heard-of (op w.s i))
      (ap (λ (t : Replica C). t.operation) (c.same i) ∙ sym (put_same _))
      (v-same (ap (λ (t : Replica C). t.card) (c.same i)) (ap (λ (t : Replica C). t.stamp) (c.same i)))

  -- news arrives
  module _ (s' : View C) (i j : ℕ) (b : News C) (snt : Sent w.s j i b) (p : Puts w.s s' i (received (terminal j) b (row w.s i))) where
    news-value : (z : Bool) → below (row w.s i).stamp b.stamp ≡ z → ValueMove first founder w (quiet w s') i
    unfolding quiet
    news-value true q = v-news j b snt (rw (p.here, q) refl) (rw (p.here, q) refl)
    news-value false q = v-same (rw (p.here, q) refl) (rw (p.here, q) refl)

    pub sound-received : Sound B first founder (quiet w s')
    sound-received = sound-quiet w s' i v (move-received w.s i j b v.inv snt p) _ _
        (ap (λ (t : Replica C). t.operation) p.here ∙ heard-put (terminal j) b.pnr b.chart (join (row w.s i).chart b.chart) (op w.s i))
        (news-value _ refl)
