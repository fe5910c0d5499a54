-- What the proof looks at of a state, and what the calls change of it.
use Rattle.std.proofs.Common.{◌≡◌, ℕ, ◌+◌, ◌<◌, ◌⊎◌, [], ◌∷◌, ◌++◌, length, get_or, take, set, sym, refl, ap, ◌∙◌, subst, inl, inr, arith}
use mathlib.Core.List.{Memᴰ}
use Rattle.std.proofs.lemmas.List.{get_or_append_left, get_or-set_other, get_or-set_same, length_push, take_more_set}
use Rattle.parts.specs.declared.counts.Group.{Group as GroupNumber}
use Rattle.parts.specs.declared.counts.Terminal.{Terminal}
use Rattle.replica.specs.declared.messages.Body.TheVariants.{Knock, News as Told}
use Rattle.replica.specs.declared.messages.Message.{Message}
use Rattle.replica.specs.declared.messages.News.{News}
use Rattle.replica.specs.declared.replicas.Replica.{Replica}
use Rattle.replica.specs.Replicas.{fresh, news_for}
use Rattle.house.specs.States.{State, pooled, relisted, seated}
use Rattle.house.specs.Steps.{message, without}
use Rattle.invariants.proofs.Lists.{mem-push}
use Rattle.invariants.proofs.Puts.{Calm, Puts}
use Rattle.invariants.proofs.Sets.{terminal}
use Rattle.invariants.proofs.Tables.{mem-closed}
use Rattle.invariants.proofs.Views.{Sent, View, row}

module _ {B C : Type 0} where
  -- the terminals' rows, the groups listed, and as many messages as wait; past the end of the table a row is as at the opening
  unfoldable pub seen : C → State B C → View C
  seen first s = record {
    rows = λ j. get_or s.replicas j (fresh first s.founder);
    listed = s.listed;
    pool = take s.waiting s.messages;
  }

  module _ (first : C) (s : State B C) where
    -- a row is put
    pub puts-seated : (i : Terminal) (t : Replica C) → i.0 < length s.replicas → Puts (seen first s) (seen first (seated i t s)) i.0 t
    unfolding seen
    puts-seated i t h = record {
      here = get_or-set_same s.replicas i.0 t _ h;
      there = λ j n. get_or-set_other s.replicas i.0 j t _ n;
      pool = λ f to b m. m;
      listed = refl;
    }

    -- a message leaves the pool
    module _ (p : ℕ) (h : p < s.waiting) where
      fewer : (f t : ℕ) (b : News C) → Sent (seen first (without p s)) f t b → Sent (seen first s) f t b
      unfolding seen
      fewer f t b m = mem-closed _ s.messages p s.waiting h m

      pub calm-without : (i : ℕ) → Calm (seen first s) (seen first (without p s)) i
      calm-without i = record { same = λ j. (unfold seen in refl); pool = λ f t b m. inl (fewer f t b m); listed = λ k l. (unfold seen in (l, refl)) }

      -- and a row is put
      pub puts-without : (i : Terminal) (t : Replica C) → i.0 < length s.replicas →
          Puts (seen first s) (seen first (seated i t (without p s))) i.0 t
      puts-without i t l = let q = puts-seated i t l in record {
        here = (unfold seen in q.here);
        there = (unfold seen in q.there);
        pool = λ f to b m. fewer f to b (unfold seen in m);
        listed = (unfold seen in refl);
      }

    -- a message joins the pool
    module _ (room : s.waiting < length s.messages) where
      joins : (m : Message C) (f t : ℕ) (b : News C) → Sent (seen first (pooled (s.waiting + 1) (set s.messages s.waiting m) s)) f t b →
          Sent (seen first s) f t b ⊎ (record { from = terminal f; to = terminal t; body = Told b } ≡ m)
      unfolding seen
      joins m f t b h = mem-push _ (take s.waiting s.messages) m (subst (Memᴰ _) (take_more_set s.messages s.waiting m room) h)

      pub calm-knock : (i j : Terminal) →
          Calm (seen first s) (seen first (pooled (s.waiting + 1) (set s.messages s.waiting (message i j Knock)) s)) i.0
      calm-knock i j = record {
        same = λ x. (unfold seen in refl);
        pool = λ f t b h. elim (joins (message i j Knock) f t b h) [ inl o ↦ inl o | inr e ↦ absurd (not-knock e) ];
        listed = λ k l. (unfold seen in (l, refl));
      }
        where
          not-knock : {f t : ℕ} {b : News C} →
              ◌≡◌ {A = Message C} (record { from = terminal f; to = terminal t; body = Told b }) (message i j Knock) → ⊥
          not-knock {b = b} e = let g : Told b ≡ Knock = ap (λ (m : Message C). m.body) e in let z : ◌≡◌ {A = ℕ} 0 1 = cc in omega arith

      pub calm-news : (i j : Terminal) →
          Calm (seen first s) (seen first (pooled (s.waiting + 1) (set s.messages s.waiting (message i j (Told (news_for (row (seen first s) i.0) j)))) s)) i.0
      unfolding seen
      calm-news i j = record {
        same = λ x. refl;
        pool = λ f t b h. elim (joins _ f t b h) [
          | inl o ↦ inl o
          | inr e ↦ inr (ap (λ (m : Message C). m.from.0) e, told b _ (ap (λ (m : Message C). m.body) e) ∙ ap (news_for (row (seen first s) i.0)) (sym (ap (λ (m : Message C). m.to) e)))
        ];
        listed = λ k l. (l, refl);
      }
        where
          told : (b c : News C) → Told b ≡ Told c → b ≡ c
          told b c e = cc

    -- a group is listed
    pub calm-relisted : (c : GroupNumber) (i : ℕ) → Calm (seen first s) (seen first (relisted (s.listed ++ c ∷ []) s)) i
    unfolding seen
    calm-relisted c i = record {
      same = λ j. refl;
      pool = λ f t b m. inl m;
      listed = λ k l. let n = length_push s.listed c in (omega arith, get_or_append_left s.listed (c ∷ []) _ k l);
    }
