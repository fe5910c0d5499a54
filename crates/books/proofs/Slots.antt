-- slots that list a set
use Rattle.std.proofs.Common.{◌≡◌, suc, sym, arith, Bool, true, false, List, [], ◌∷◌, length, refl}
use Rattle.std.specs.Prelude.{filter, nat_lt}
use Rattle.std.specs.List.{list_any}
use Rattle.std.proofs.lemmas.Bool.{lt-ltb}

-- one that passes is there where a test finds one
pub any-filtered : {X : Type 0} (test : X → Bool) (xs : List X) → list_any test xs ≡ nat_lt 0 (length (filter test xs))
any-filtered test [] = refl
any-filtered test (x ∷ xs) = by_test (test x) refl (any-filtered test xs) where
  by_test : (b : Bool) → test x ≡ b → list_any test xs ≡ nat_lt 0 (length (filter test xs)) → list_any test (x ∷ xs) ≡ nat_lt 0 (length (filter test (x ∷ xs)))
  by_test true e rest = rw e (sym (lt-ltb 0 (suc (length (filter test xs))) (omega arith)))
  by_test false e rest = rw e rest
