-- a day that has a file is written into a buffer of the file's length
use Rattle.std.proofs.Common.{◌≡◌, ℕ, ◌+◌, ◌<◌, ◌≤◌, Bool, true, cond, ltb, List, [], ◌∷◌, ◌++◌, length, Some, None, Ok, Option, refl, ap, ◌∙◌, arith}
use Rattle.std.specs.List.{AllByRecursion}
use Rattle.std.proofs.lemmas.List.{append-nil, drop_all}
use Rattle.std.proofs.lemmas.Bool.Decides.{nat_tests}
use Rattle.parts.specs.declared.calls.Call.{Call}
use Rattle.parts.specs.Limits.{terminals}
use Rattle.books.specs.Books.{table_groups}
use Rattle.books.specs.declared.causes.Cause.TheVariants.{Size, NoRoom, BadCall}
use Rattle.callfile.specs.declared.faults.Fault.{Fault}
use Rattle.callfile.specs.declared.faults.Part.TheVariants.{File, Call as CallPart}
use Rattle.callfile.specs.Limits.{longest, card_from}
use Rattle.callfile.specs.Faults.{at, first_of, or_else}
use Rattle.callfile.specs.Days.{Day}
use Rattle.callfile.specs.Letters.{narrow, size_of}
use Rattle.callfile.specs.Format.{render}
use Rattle.callfile.specs.Reading.{limit_fault}
use Rattle.callfile.specs.Filling.{laid}
use Rattle.callfile.specs.Laws.{Valid}
use Rattle.callfile.specs.Writing.{wide_fault, write_fault, outcome, written}

none-limit : (n f g : ℕ) → 1 ≤ n → n ≤ terminals → f < n → 1 ≤ g → g ≤ table_groups → limit_fault n f g ≡ None
none-limit n f g a b c d e = grind (arith, nat_tests)

none_over : (limit n : ℕ) (f : Fault) → n ≤ limit → first_of ((ltb limit n, f) ∷ []) ≡ None
none_over limit n f h = grind (arith, nat_tests)

none-wide : {C : Type 0} (span b : ℕ) (cs : List (Call C)) → AllByRecursion (λ c. narrow c ≡ true) cs → wide_fault span b cs ≡ None
none-wide span b [] a = refl
none-wide span b (c ∷ cs) a =
    ap (λ (t : Bool). cond t (wide_fault span (b + size_of span c) cs) (Some (at BadCall CallPart b))) a.0 ∙ none-wide span (b + size_of span c) cs a.1

none-either : (o p : Option Fault) → o ≡ None → p ≡ None → or_else o p ≡ None
none-either o p a b = ap (λ (x : Option Fault). or_else x p) a ∙ b

module _ {C G : Type 0} (k b span : ℕ) (card_bytes : C → List ℕ) (entry_bytes : G → List ℕ) (keeps : G → Bool)
    (d : Day C G) (v : Valid k b span card_bytes entry_bytes keeps d) (out : List ℕ) (long : length out ≡ length (render k b span card_bytes entry_bytes d)) where
  abbrev file : List ℕ
  file = render k b span card_bytes entry_bytes d

  no-fault : write_fault k b span card_bytes entry_bytes d (length out) ≡ None
  no-fault =
      none-either _ _ (none_over longest (length file) (at Size File 0) v.short)
      (none-either _ _ (none-limit d.terminals d.founder.0 (length d.groups) v.some v.few v.founded v.some-groups v.few-groups)
      (none-either _ _ (none-wide span (card_from (length d.groups) + span) d.calls v.small)
      (none_over (length out) (length file) (at NoRoom File 0) (omega arith))))

  pub writes_again : written k b span card_bytes entry_bytes d out ≡ (Ok (length file), file)
  writes_again =
      let all : laid file out ≡ file = ap (λ ys. file ++ ys) (drop_all (length file) out (omega arith)) ∙ append-nil file in
      ap (λ (o : Option Fault). outcome k b span card_bytes entry_bytes o d out) no-fault ∙ ap (λ (ys : List ℕ). (Ok (length file), ys)) all
