-- what bytes with a form stand for, once the rule has been asked
use Rattle.std.specs.Prelude.{◌≡◌, Bool, true, false, cond, ◌&&◌, Some, None, refl}
use Rattle.callfile.specs.Tables.{ruled}

pub ruled_form : {G : Type 0} (rule : G → Bool) (g : G) (form : Bool) → cond (form && rule g) (Some g) None ≡ ruled rule (cond form (Some g) None)
ruled_form rule g true = refl
ruled_form rule g false = refl
