-- A call in which no operation is begun, settled, confirmed or collected.
use Rattle.std.proofs.Common.{◌≡◌, ℕ, suc, List, sym, refl, ap, ◌∙◌, subst, inl}
use Rattle.std.proofs.lemmas.Bool.{false≢true}
use Rattle.parts.specs.declared.entries.Entry.{Entry}
use Rattle.parts.specs.declared.sets.TerminalSet.{TerminalSet}
use Rattle.invariants.proofs.Books.{Book}
use Rattle.invariants.proofs.Currents.{current-put}
use Rattle.invariants.proofs.Entries.{entered_at}
use Rattle.invariants.proofs.KeepQueries.{b-same}
use Rattle.invariants.proofs.KeepRecs.{keep-sound}
use Rattle.invariants.proofs.Moves.{Move}
use Rattle.invariants.proofs.Operations.{is_kept, put-card, put-kept, put-op, put-stamp}
use Rattle.invariants.proofs.Views.{View, op}
use Rattle.invariants.proofs.World.{Current, Inside, Sound, ValueMove, World, c-same, p-same}

-- the world after a call in which no operation is begun, settled, confirmed or collected
unfoldable pub quiet : {C : Type 0} → World C → View C → World C
quiet w s' = record { s = s'; E = entered_at s' w.E; O = w.O; n = w.n; cur = w.cur; clock = suc w.clock; base = w.base; recs = w.recs }

module _ {C : Type 0} {B : Book} {first : C} {founder : ℕ} (w : World C) (s' : View C) (i : ℕ) (v : Sound B first founder w)
    (mv : Move B w.s w.E s' i)
    (a : List Entry) (h : TerminalSet) (e : op s' i ≡ put-op (op w.s i) a h) where
  pub sound-quiet : ValueMove first founder w (quiet w s') i → Sound B first founder (quiet w s')
  unfolding quiet
  sound-quiet val = keep-sound v (record {
    move = mv;
    entry = refl;
    base = b-same (λ x. refl);
    begun = λ x. inl refl;
    clock = refl;
    pull = λ x. p-same refl;
    rec = λ x. c-same refl;
    value = val;
    kept = λ k. rw (e, put-stamp, put-card) (v.vals.kept i (sym (put-kept a h (op w.s i)) ∙ sym (ap is_kept e) ∙ k));
    here = current-put a h e (v.now i);
    there = λ x ne. subst (λ t. Current first t x (w.O (w.cur x)) (Inside w.O w.n (w.cur x) x) (w.base x) (w.recs (w.cur x)))
        (sym (mv.step.others x ne)) (v.now x);
  }) (λ x y a b c d. absurd (false≢true (sym a ∙ b)))
