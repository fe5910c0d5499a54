-- walks over the calls of a day that is written
use Rattle.std.proofs.Common.{◌≡◌, ℕ, ◌+◌, ◌≤◌, Bool, true, false, cond, List, [], ◌∷◌, length, drop, Some, None, Option, refl, arith, length-append}
use Rattle.std.specs.List.{flat_map, AllByRecursion}
use Rattle.parts.specs.declared.calls.Call.{Call}
use Rattle.books.specs.declared.causes.Cause.TheVariants.{BadCall}
use Rattle.callfile.specs.declared.faults.Part.TheVariants.{Call as CallPart}
use Rattle.callfile.specs.Faults.{at}
use Rattle.callfile.specs.Letters.{narrow, size_of}
use Rattle.callfile.specs.Format.{call_bytes}
use Rattle.callfile.specs.Writing.{wide_fault}
use Rattle.callfile.proofs.Results.{never}
use Rattle.callfile.proofs.Spelling.{some_bytes}

narrow-first : {A : Type 0} (b : Bool) (o : Option A) (f : A) → cond b o (Some f) ≡ None → (b ≡ true) × (o ≡ None)
narrow-first true o f e = (refl, e)
narrow-first false o f e = never (cc)

module _ {C : Type 0} (span : ℕ) (card_bytes : C → List ℕ) (wide : (c : C) → length (card_bytes c) ≡ span) where
  -- no fault for a wide call: every call is narrow
  pub all-narrow : (b : ℕ) (cs : List (Call C)) → wide_fault span b cs ≡ None → AllByRecursion (λ c. narrow c ≡ true) cs
  all-narrow b [] e = tt
  all-narrow b (c ∷ cs) e =
      let n = narrow-first (narrow c) (wide_fault span (b + size_of span c) cs) (at BadCall CallPart b) e in
      (n.0, all-narrow (b + size_of span c) cs n.1)

  -- there are at least as many bytes as calls
  pub few_calls : (cs : List (Call C)) → length cs ≤ length (flat_map (call_bytes card_bytes) cs)
  few_calls [] = omega arith
  few_calls (c ∷ cs) = let a = some_bytes span card_bytes wide c in let b = few_calls cs in simp length-append (omega arith)

  abbrev bytes_from : List (Call C) → ℕ → List ℕ
  bytes_from calls i = flat_map (call_bytes card_bytes) (drop i calls)

  -- what is counted, and what is left to count
  abbrev pub CountLeft : (start : ℕ) (calls : List (Call C)) (byte i : ℕ) → Type 0
  CountLeft start calls byte i = byte + length (bytes_from calls i) ≡ start + length (flat_map (call_bytes card_bytes) calls)

  -- the first wide call from here on is that of the whole
  abbrev pub WideLeft : (start : ℕ) (calls : List (Call C)) (byte i : ℕ) → Type 0
  WideLeft start calls byte i = (wide_fault span byte (drop i calls) ≡ wide_fault span start calls) × CountLeft start calls byte i
