-- A day that is being played: one more call, and each way through the whole.
use Rattle.std.proofs.Common.{◌≡◌, ℕ, ◌+◌, ◌<◌, ◌≤◌, List, [], ◌∷◌, ◌++◌, length, get_or, take, drop, set, Ok, Err, Result, sym, ap, ◌∙◌, arith}
use Rattle.std.proofs.lemmas.List.{append_assoc, append-nil, drop_more, drop-drop, at_drop_all, take_more_set, drop-set-lt, take-append-drop, length-set}
use Rattle.std.proofs.lemmas.Bool.{lt-ltb, le-ltb}
use Rattle.parts.specs.declared.calls.Call.{Call}
use Rattle.parts.specs.declared.counts.Group.{Group}
use Rattle.parts.specs.declared.counts.Terminal.{Terminal}
use Rattle.parts.specs.declared.sets.TerminalSet.{TerminalSet}
use Rattle.replica.specs.declared.messages.Message.{Message}
use Rattle.replica.specs.declared.refusals.Refusal.{Refusal}
use Rattle.replica.specs.declared.replicas.Replica.{Replica}
use Rattle.house.specs.Calls.{Outcome, step}
use Rattle.house.specs.Opening.{open_step}
use Rattle.house.specs.States.{State}
use Rattle.house.specs.Steps.{Rule}
use Rattle.line.specs.declared.days.NotPlayed.TheVariants.{NoRoom, Declined}
use Rattle.line.specs.Runs.{outcomes_of, state_after, playing, play_day}

module _ {B C : Type 0} (size : B → ℕ) (members : B → Group → TerminalSet) (reads writes : Rule B) (calls : List (Call C)) (first : State B C) (before : List (Outcome C)) where
  -- what is noted so far and what is left to play give what the whole list gives; the list of outcomes behind is as it was
  pub record PlayLeft (noted : List (Outcome C)) (s : State B C) (i : ℕ) : Type 0 where
    pub outcomes : take i noted ++ outcomes_of size members reads writes s (drop i calls) ≡ outcomes_of size members reads writes first calls
    pub behind : drop i noted ≡ drop i before
    pub long : length noted ≡ length before
    pub left : state_after size members reads writes s (drop i calls) ≡ state_after size members reads writes first calls

  pub left-more :
      (noted more : List (Outcome C)) (s t : State B C) (i : ℕ) (c : Call C) (r : Outcome C) → PlayLeft noted s i →
      i < length calls → length calls ≤ length before → c ≡ get_or calls i c → (r, t) ≡ step size members reads writes c s → more ≡ set noted i r → PlayLeft more t (i + 1)
  left-more noted more s t i c r inv h room read stepped pushed =
      let rest = drop (i + 1) calls in
      let inside : i < length noted = omega (arith, inv.long) in
      let next : drop i calls ≡ c ∷ rest = drop_more calls i c h ∙ ap (λ (x : Call C). x ∷ rest) (sym read) in
      let outs : outcomes_of size members reads writes s (drop i calls) ≡ r ∷ outcomes_of size members reads writes t rest
      = ap (outcomes_of size members reads writes s) next ∙ ap (λ (x : Outcome C × State B C). x.0 ∷ outcomes_of size members reads writes x.1 rest) (sym stepped) in
      let ends : state_after size members reads writes s (drop i calls) ≡ state_after size members reads writes t rest
      = ap (state_after size members reads writes s) next ∙ ap (λ (x : Outcome C × State B C). state_after size members reads writes x.1 rest) (sym stepped) in
      let front : take (i + 1) more ≡ take i noted ++ r ∷ [] = ap (take (i + 1)) pushed ∙ take_more_set noted i r inside in
      record {
        outcomes = ap (λ os. os ++ outcomes_of size members reads writes t rest) front
            ∙ append_assoc (take i noted) (r ∷ []) (outcomes_of size members reads writes t rest)
            ∙ ap (λ os. take i noted ++ os) (sym outs) ∙ inv.outcomes;
        behind = ap (drop (i + 1)) pushed ∙ drop-set-lt (i + 1) noted i r (omega arith) ∙ sym (drop-drop 1 i noted) ∙ ap (drop 1) inv.behind ∙ drop-drop 1 i before;
        long = ap length pushed ∙ length-set noted i r ∙ inv.long;
        left = sym ends ∙ inv.left;
      }

  module _ (noted : List (Outcome C)) (s : State B C) (i : ℕ) (inv : PlayLeft noted s i) (h : length calls ≤ i) (l : i ≤ length calls) where
    pub all_noted : noted ≡ outcomes_of size members reads writes first calls ++ drop (length calls) before
    all_noted =
        let same : i ≡ length calls = omega arith in
        let front : take i noted ≡ outcomes_of size members reads writes first calls
        = sym (append-nil (take i noted)) ∙ sym (at_drop_all (λ cs. take i noted ++ outcomes_of size members reads writes s cs) calls i h) ∙ inv.outcomes in
        sym (take-append-drop i noted) ∙ ap (λ os. os ++ drop i noted) front
        ∙ ap (λ os. outcomes_of size members reads writes first calls ++ os) (inv.behind ∙ ap (λ (n : ℕ). drop n before) same)

    pub all-played : s ≡ state_after size members reads writes first calls
    all-played = sym (at_drop_all (state_after size members reads writes s) calls i h) ∙ inv.left

-- each way through a whole day
module _ {B C : Type 0} (size : B → ℕ) (members : B → Group → TerminalSet) (reads writes : Rule B) (b : B) (n : ℕ) (f : Terminal) (c : C)
    (rs : List (Replica C)) (ms : List (Message C)) (cs : List (Call C)) (os : List (Outcome C)) where
  pub day-short : length os < length cs → (Err (NoRoom b), os, rs, ms) ≡ play_day size members reads writes b n f c rs ms cs os
  day-short h = sym (simp (lt-ltb (length os) (length cs) h))

  module _ (room : length cs ≤ length os) where
    as-day : (o : Result (State B C) (Refusal × B) × List (Replica C)) → o ≡ open_step members b n f c rs ms → playing size members reads writes cs os o ms ≡ play_day size members reads writes b n f c rs ms cs os
    as-day o e = ap (λ x. playing size members reads writes cs os x ms) e ∙ sym (simp (le-ltb (length os) (length cs) room))

    pub day-declined : (e : Refusal) (b' : B) (rs' : List (Replica C)) → (Err (e, b'), rs') ≡ open_step members b n f c rs ms →
        (Err (Declined e b'), os, rs', ms) ≡ play_day size members reads writes b n f c rs ms cs os
    day-declined e b' rs' opened = as-day (Err (e, b'), rs') opened

    pub day-done : (s t : State B C) (rs' : List (Replica C)) (os' : List (Outcome C)) → (Ok s, rs') ≡ open_step members b n f c rs ms →
        t ≡ state_after size members reads writes s cs → os' ≡ outcomes_of size members reads writes s cs ++ drop (length cs) os →
        (Ok t, os', t.replicas, t.messages) ≡ play_day size members reads writes b n f c rs ms cs os
    day-done s t rs' os' opened left noted =
        ap (λ (x : State B C). (Ok x, os', x.replicas, x.messages)) left
        ∙ ap (λ (ys : List (Outcome C)). (Ok (state_after size members reads writes s cs), ys, (state_after size members reads writes s cs).replicas, (state_after size members reads writes s cs).messages)) noted
        ∙ as-day (Ok s, rs') opened
