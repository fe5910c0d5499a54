-- what a reading without a fault says of its steps
use Rattle.std.proofs.Common.{◌≡◌, ℕ, List, ◌∷◌, Some, None, Ok, Err, Option, Result, sym, refl, ap, ◌∙◌, arith}
use Rattle.std.specs.Result.{IsErrAnd}
use Rattle.std.specs.Option.{ok_or}
use Rattle.std.proofs.lemmas.Result.{err_from_is_err_and}
use Rattle.callfile.specs.declared.faults.Fault.{Fault}
use Rattle.callfile.specs.Faults.{ok_unless, or_else, unless, and_then, fault_in, or_fault}
use Rattle.callfile.specs.Filling.{gained}

pub never : {X : Type 0} → ◌≡◌ {A = ℕ} 0 1 → X
never z = absurd (omega arith)

-- a check that is done has found no fault, and one that is not has found it
pub unfaulted : (o : Option Fault) (u : Unit {0}) → Ok u ≡ ok_unless o → None ≡ o
unfaulted None u e = refl
unfaulted (Some f) u e = never (cc)

pub faulted : (o : Option Fault) (f : Fault) → Err f ≡ ok_unless o → o ≡ Some f
faulted None f e = never (cc)
faulted (Some g) f e = cc

-- the fault that `?` hands on
pub handed-on : {A : Type 0} (r : Result A Fault) (f : Fault) (s : Result A Fault) → IsErrAnd r (λ y. y ≡ f) → Err f ≡ s → r ≡ s
handed-on r f s q e = let p = err_from_is_err_and r q in p.1 ∙ (ap Err p.2 ∙ e)

-- a value that is not there
pub nothing-there : {A : Type 0} (o : Option A) (g f : Fault) → Err f ≡ ok_or o g → (o ≡ None) × (f ≡ g)
nothing-there None g f e = (refl, cc)
nothing-there (Some a) g f e = never (cc)

-- a step that only adds to what is read keeps the fault
pub fault-then : {A B : Type 0} (r : Result A Fault) (f : A → B) → fault_in (and_then r (λ a. Ok (f a))) ≡ fault_in r
fault-then (Ok a) f = refl
fault-then (Err e) f = refl

gained-then : {A : Type 0} (r : Result (List A) Fault) (a : A) → fault_in r ≡ None → gained (and_then r (λ more. Ok (a ∷ more))) ≡ a ∷ gained r
gained-then (Ok x) a e = refl
gained-then (Err f) a e = never (cc)

-- what is behind the first of a list that was read without a fault
pub read_next :
    {A : Type 0} (whole r : Result (List A) Fault) (a : A) → whole ≡ and_then r (λ more. Ok (a ∷ more)) → fault_in whole ≡ None →
    (fault_in r ≡ None) × (gained whole ≡ a ∷ gained r)
read_next whole r a is f =
    let fine : fault_in r ≡ None = sym (fault-then r (λ more. a ∷ more)) ∙ (sym (ap fault_in is) ∙ f) in
    (fine, ap gained is ∙ gained-then r a fine)

pub ok-then : {A B : Type 0} (r : Result A Fault) (k : A → Result B Fault) (b : B) → and_then r k ≡ Ok b → (a : A) × (r ≡ Ok a) × (k a ≡ Ok b)
ok-then (Ok a) k b e = (a, refl, e)
ok-then (Err f) k b e = never (cc)

pub no-fault : {A : Type 0} (r : Result A Fault) → fault_in r ≡ None → (a : A) × (r ≡ Ok a)
no-fault (Ok a) e = (a, refl)
no-fault (Err f) e = never (cc)

pub or_fault-ok : {A : Type 0} (o : Option A) (f : Fault) (a : A) → or_fault o f ≡ Ok a → o ≡ Some a
or_fault-ok None f a e = never (cc)
or_fault-ok (Some b) f a e = cc

pub both-none : (o p : Option Fault) → or_else o p ≡ None → (o ≡ None) × (p ≡ None)
both-none None p e = (refl, e)
both-none (Some f) p e = never (cc)

pub unless-ok : {A : Type 0} (o : Option Fault) (r : Result A Fault) (a : A) → unless o r ≡ Ok a → (o ≡ None) × (r ≡ Ok a)
unless-ok None r a e = (refl, e)
unless-ok (Some f) r a e = never (cc)
