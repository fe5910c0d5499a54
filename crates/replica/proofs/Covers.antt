-- Whether the entries of a chart are covered, as std's word for lists says it.
use Rattle.std.proofs.Common.{◌≡◌, Bool, true, ◌&&◌, List, [], ◌∷◌, refl, ap}
use Rattle.std.specs.List.{list_all}
use Rattle.parts.specs.declared.entries.Entry.{Entry}
use Rattle.parts.specs.declared.entries.Entry.TheVariants.{Unknown, Group, Retired}
use Rattle.parts.specs.declared.sets.TerminalSet.{TerminalSet}
use Rattle.replica.specs.Covering.{Answer, covered_list}

module _ (sets : Answer) (h : TerminalSet) where
  -- one entry is covered
  abbrev pub covered_entry : Entry → Bool
  covered_entry Unknown = true
  covered_entry (Group c) = sets c h
  covered_entry Retired = true

  pub all-covered : (es : List Entry) → list_all covered_entry es ≡ covered_list sets es h
  unfolding covered_list
  all-covered [] = refl
  all-covered (Unknown ∷ es) = all-covered es
  all-covered (Group c ∷ es) = ap (λ b. sets c h && b) (all-covered es)
  all-covered (Retired ∷ es) = all-covered es
