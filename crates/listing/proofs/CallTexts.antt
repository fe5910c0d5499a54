-- The lines of the calls, written one by one.
use Rattle.std.proofs.Common.{◌≡◌, ℕ, ◌+◌, ◌⊎◌, List, [], ◌∷◌, ◌++◌, inl, inr, sym, refl, ◌∙◌}
use Rattle.std.proofs.lemmas.List.{append_assoc, append-nil}
use Rattle.parts.specs.declared.calls.Call.{Call}
use Rattle.house.specs.Calls.{Outcome}
use Rattle.listing.specs.Lines.{call_line}
use Rattle.listing.specs.Listings.{call_lines}

module _ {C : Type 0} (shape : C → List ℕ) (whole done : List ℕ) (n : ℕ) (cs : List (Call C)) (os : List (Outcome C)) (inv : done ++ call_lines shape n cs os ≡ whole) where
  -- the line of the next call, written behind those that are done
  pub lines_more :
      (i m : ℕ) (c : Call C) (o : Outcome C) (cs' : List (Call C)) (os' : List (Outcome C)) → cs ≡ c ∷ cs' → os ≡ o ∷ os' → i ≡ n → m ≡ n + 1 →
      (done ++ call_line shape i c o) ++ call_lines shape m cs' os' ≡ whole
  lines_more i m c o cs' os' first second here next =
      let so_far = rw (first, second) at inv in rw (here, next) (append_assoc done (call_line shape n c o) (call_lines shape (n + 1) cs' os') ∙ so_far)

  no_outcomes : (xs : List (Call C)) → call_lines shape n xs [] ≡ []
  no_outcomes [] = refl
  no_outcomes (x ∷ xs) = refl

  -- where the calls or the outcomes are at their end, all lines are done
  pub lines_all : (cs ≡ []) ⊎ (os ≡ []) → done ≡ whole
  lines_all (inl none) = let so_far = rw none at inv in sym (append-nil done) ∙ so_far
  lines_all (inr none) = let so_far = rw (none, no_outcomes cs) at inv in sym (append-nil done) ∙ so_far
