-- a reading where the book asks for the rule, and one that asks itself
use Rattle.std.proofs.Common.{◌≡◌, Bool, true, false, List, Some, None, Option, refl, ◌∙◌}
use Rattle.books.specs.Tables.{add_step, add_read}
use Rattle.callfile.specs.Tables.{ruled}

module _ {G : Type 0} (rule keeps : G → Bool) where
  pub reads_ruled : (o e : Option G) → e ≡ ruled rule o → ((g : G) → e ≡ Some g → keeps g ≡ true) → (groups : List G) → add_read rule o groups ≡ add_read keeps e groups
  reads_ruled None e is kept groups = rw is refl
  reads_ruled (Some g) e is kept groups = by_rule (rule g) refl where
    by_rule : (fine : Bool) → rule g ≡ fine → add_step rule g groups ≡ add_read keeps e groups
    by_rule true f = let s : e ≡ Some g = is ∙ rw f refl in let k = kept g s in rw (s, f, k) refl
    by_rule false f = let s : e ≡ None = is ∙ rw f refl in rw (s, f) refl
