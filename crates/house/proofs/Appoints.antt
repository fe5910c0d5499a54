-- A walk along the list of places, a walk along the members, and an appointment.
use Rattle.std.proofs.Common.{◌≡◌, ℕ, zero, suc, ◌+◌, ◌<◌, ◌≤◌, Bool, true, false, ◌&&◌, ◌||◌, eqb, List, [], ◌∷◌, ◌++◌, length, map, take, set, Some, None, Ok, sym, refl, ap, ◌∙◌, add-one, arith}
use Rattle.std.proofs.lemmas.List.{length-take-le, take_more_set}
use Rattle.std.proofs.lemmas.List.Folds.{list_all-append, list_all-map}
use Rattle.std.proofs.lemmas.List.FromFn.{map-range_with_len_more}
use Rattle.std.proofs.lemmas.Bool.{lt-ltb, le-ltb}
use Rattle.std.proofs.lemmas.Bool.Decides.{nat_tests}
use Rattle.std.specs.List.{slice_get, list_all, list_any, range_with_len}
use Rattle.parts.specs.declared.counts.Group.{Group}
use Rattle.parts.specs.declared.sets.TerminalSet.{TerminalSet}
use Rattle.parts.specs.Limits.{terminals, places}
use Rattle.replica.specs.declared.refusals.Refusal.TheVariants.{NotInBook, AlreadyListed, ListFull, NeverActive}
use Rattle.replica.specs.declared.replicas.Replica.{Replica}
use Rattle.house.specs.Appointing.{is_listed, active_if_member, members_active, why_not_appoint, appointing, appoint_step}
use Rattle.house.specs.States.{State, tables_fit, relisted}

-- the group is one of the list, as std's word for lists says it
pub listed-any : (c : Group) (ds : List Group) → list_any (λ d. eqb d.0 c.0) ds ≡ is_listed ds c
unfolding is_listed
listed-any c [] = refl
listed-any c (d ∷ ds) = ap (λ b. eqb d.0 c.0 || b) (listed-any c ds)

module _ {C : Type 0} (m : TerminalSet) (rs : List (Replica C)) where
  -- terminal k is active if it is a member
  abbrev pub stands : ℕ → Bool
  stands k = active_if_member m (record { 0 = k }) (slice_get rs k)

  -- each terminal below n does, as std's word for lists says it
  pub active-range : (n : ℕ) → list_all stands (range_with_len 0 n) ≡ members_active m rs n
  unfolding members_active
  active-range zero = refl
  active-range (suc n) =
      sym (list_all-map (λ b. b) stands (range_with_len 0 (suc n)))
      ∙ ap (λ k. list_all (λ b. b) (map stands (range_with_len 0 k))) (sym (add-one n))
      ∙ ap (list_all (λ b. b)) (map-range_with_len_more stands 0 n n (omega arith))
      ∙ list_all-append (λ b. b) (map stands (range_with_len 0 n)) (stands n ∷ [])
      ∙ last (list_all-map (λ b. b) stands (range_with_len 0 n) ∙ active-range n)
    where
      last : {p q : Bool} → p ≡ q → (p && (stands n && true)) ≡ (q && stands n)
      last e = grind (arith, e)

-- as many groups are listed as there are places
pub listed-length : (n : ℕ) (gs : List Group) → n ≤ places → length gs ≡ places → length (take n gs) ≡ n
listed-length n gs within long = length-take-le n gs (omega (arith, within, long))

-- each way through the causes for which a group is not appointed
module _ {B C : Type 0} (size : B → ℕ) (members : B → Group → TerminalSet) (c : Group) (s : State B C) (fit : tables_fit s ≡ true) where
  pub why-not-in-book : size s.book ≤ c.0 → Some NotInBook ≡ why_not_appoint size members c s
  why-not-in-book far = sym (simp (fit, le-ltb c.0 (size s.book) far))

  module _ (there : c.0 < size s.book) where
    pub why-listed : true ≡ is_listed s.listed c → Some AlreadyListed ≡ why_not_appoint size members c s
    why-listed e = sym (simp (fit, lt-ltb c.0 (size s.book) there, sym e))

    module _ (new : false ≡ is_listed s.listed c) where
      pub why-full : places ≤ length s.listed → Some ListFull ≡ why_not_appoint size members c s
      why-full full = sym (simp (fit, lt-ltb c.0 (size s.book) there, sym new, le-ltb (length s.listed) places full))

      module _ (room : length s.listed < places) where
        pub why-never : false ≡ members_active (members s.book c) s.replicas terminals → Some NeverActive ≡ why_not_appoint size members c s
        why-never e = sym (simp (fit, lt-ltb c.0 (size s.book) there, sym new, lt-ltb (length s.listed) places room, sym e))

        pub why-none : true ≡ members_active (members s.book c) s.replicas terminals → None ≡ why_not_appoint size members c s
        why-none e = sym (simp (fit, lt-ltb c.0 (size s.book) there, sym new, lt-ltb (length s.listed) places room, sym e))

module _ {B C : Type 0} (size : B → ℕ) (members : B → Group → TerminalSet) (c : Group) (s : State B C) (none : None ≡ why_not_appoint size members c s) where
  -- where a group is appointed there is room for it
  pub appoint-room : length s.listed < places
  appoint-room = grind (arith, nat_tests)

  pub appoint-done : (gs gs' : List Group) (n : ℕ) → s.listed ≡ take n gs → n < length gs → gs' ≡ set gs n c →
      (Ok tt, relisted (take (n + 1) gs') s) ≡ appoint_step size members c s
  appoint-done gs gs' n is inside e =
      ap (λ (ds : List Group). (Ok tt, relisted ds s)) (ap (take (n + 1)) e ∙ take_more_set gs n c inside ∙ ap (λ (ds : List Group). ds ++ c ∷ []) (sym is))
      ∙ ap (λ why. appointing c why s) none
