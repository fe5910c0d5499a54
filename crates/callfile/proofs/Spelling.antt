-- the two tables of letters agree, and what a call is spelled as has its bytes
use Rattle.std.proofs.Common.{◌≡◌, ℕ, ◌≤◌, List, length, Some, refl, arith}
use Rattle.std.proofs.lemmas.Bool.Decides.{nat_tests}
use Rattle.parts.specs.declared.calls.Call.{Call}
use Rattle.callfile.specs.Letters.{Spelled, plain, carrying, spelled, short_of, spelled_size, size_of}
use Rattle.callfile.specs.Format.{spelled_bytes, call_bytes}

-- a call that was read is spelled as what it was read from
pub short-spelled : {C : Type 0} (l x y : ℕ) (c : Call C) → short_of l x y ≡ Some c → spelled c ≡ plain l x y
short-spelled l x y c e = grind (arith, nat_tests)

module _ {C : Type 0} (span : ℕ) (card_bytes : C → List ℕ) (wide : (c : C) → length (card_bytes c) ≡ span) where
  length-spelled : (s : Spelled C) → length (spelled_bytes card_bytes s) ≡ spelled_size span s
  length-spelled (plain l x y) = refl
  length-spelled (carrying l x y c) = let w = wide c in omega arith

  pub length-call : (c : Call C) → length (call_bytes card_bytes c) ≡ size_of span c
  length-call c = length-spelled (spelled c)

  some-spelled : (s : Spelled C) → 1 ≤ spelled_size span s
  some-spelled (plain l x y) = omega arith
  some-spelled (carrying l x y c) = omega arith

  -- no call is without bytes
  pub some_bytes : (c : Call C) → 1 ≤ length (call_bytes card_bytes c)
  some_bytes c = let s = some-spelled (spelled c) in let l = length-call c in omega arith
