-- What reading a whole file into a list that is just long enough leaves.
use Rattle.std.proofs.Common.{◌≡◌, ◌≤◌, List, ◌++◌, length, Ok, Err, Result, ap, ◌∙◌, arith, rules, refl}
use Rattle.std.proofs.lemmas.List.{append-nil, drop_all}
use Rattle.std.proofs.lemmas.Bool.{le-ltb}
use Rattle.parts.specs.declared.calls.Call.{Call}
use Rattle.callfile.specs.declared.faults.Fault.{Fault}
use Rattle.callfile.specs.declared.summary.Summary.{Summary}
use Rattle.callfile.specs.Days.{Day, summary, summed}
use Rattle.callfile.specs.Filling.{laid, placed}
use Rattle.listing.specs.Reports.{day_from}

module _ {C G : Type 0} where
  -- a list with room for just the calls of the day gets all of them
  all_placed :
      (d : Day C G) (sum : Summary C) (gs : List G) (list : List (Call C)) → Ok sum ≡ summed (Ok d) → length list ≡ sum.calls →
      placed (Ok d) gs list ≡ (Ok (summary d), d.groups, d.calls)
  all_placed d sum gs list e l =
      let same : sum ≡ summary d = cc in
      let n : length list ≡ length d.calls = l ∙ ap (λ (s : Summary C). s.calls) same in
      let room : length d.calls ≤ length list = omega arith in
      let rest : laid d.calls list ≡ d.calls = ap (λ zs. d.calls ++ zs) (drop_all (length d.calls) list (omega arith)) ∙ append-nil d.calls in
      let there : placed (Ok d) gs list ≡ (Ok (summary d), d.groups, laid d.calls list) = simp (le-ltb (length list) (length d.calls) room) in
      there ∙ ap (λ (cs : List (Call C)). (Ok (summary d), d.groups, cs)) rest

  -- what was read is the day
  pub day-read :
      (r : Result (Day C G) Fault) (sum day : Summary C) (gs gs' : List G) (list list' : List (Call C)) → Ok sum ≡ summed r → length list ≡ sum.calls →
      (Ok day, gs', list') ≡ placed r gs list → r ≡ Ok (day_from day gs' list')
  day-read (Err f) sum day gs gs' list list' e l p = search rules
  day-read (Ok d) sum day gs gs' list list' e l p =
      let q : (Ok day, gs', list') ≡ (Ok (summary d), d.groups, d.calls) = p ∙ all_placed d sum gs list e l in
      let first : Ok day ≡ Ok (summary d) = ap (λ (x : Result (Summary C) Fault × List G × List (Call C)). x.0) q in
      let same : day ≡ summary d = search rules in
      let groups : gs' ≡ d.groups = ap (λ (x : Result (Summary C) Fault × List G × List (Call C)). x.1) q in
      let calls : list' ≡ d.calls = ap (λ (x : Result (Summary C) Fault × List G × List (Call C)). x.2) q in
      rw (same, groups, calls) refl

  pub never-declined :
      {X : Type 0} (r : Result (Day C G) Fault) (sum : Summary C) (f : Fault) (gs gs' : List G) (list list' : List (Call C)) → Ok sum ≡ summed r → length list ≡ sum.calls →
      (Err f, gs', list') ≡ placed r gs list → X
  never-declined (Err f') sum f gs gs' list list' e l p = search rules
  never-declined (Ok d) sum f gs gs' list list' e l p =
      let q : (Err f, gs', list') ≡ (Ok (summary d), d.groups, d.calls) = p ∙ all_placed d sum gs list e l in
      let r : Err f ≡ Ok (summary d) = ap (λ (x : Result (Summary C) Fault × List G × List (Call C)). x.0) q in
      search rules
