-- a written file: its parts one behind another, its faults, and what it reads as
use Rattle.std.proofs.Common.{◌≡◌, ℕ, ◌+◌, ◌≤◌, Bool, true, ltb, List, [], ◌∷◌, ◌++◌, length, take, drop, Some, None, Ok, Err, Option, Result, sym, refl, ap, ◌∙◌, arith, length-append}
use Rattle.std.specs.Result.{IsErrAnd}
use Rattle.std.specs.List.{AllByRecursion}
use Rattle.std.proofs.lemmas.List.{take_at}
use Rattle.std.proofs.lemmas.Bool.Decides.{nat_tests}
use Rattle.books.specs.declared.causes.Cause.TheVariants.{Size, NoRoom}
use Rattle.callfile.specs.declared.faults.Fault.{Fault}
use Rattle.callfile.specs.declared.faults.Part.TheVariants.{File}
use Rattle.callfile.specs.Limits.{entry_width, longest, card_from}
use Rattle.callfile.specs.Faults.{at, first_of, unless}
use Rattle.callfile.specs.Days.{Day}
use Rattle.callfile.specs.Letters.{narrow}
use Rattle.callfile.specs.Format.{render}
use Rattle.callfile.specs.Reading.{limit_fault, day_of}
use Rattle.callfile.specs.Laws.{Valid}
use Rattle.callfile.specs.Writing.{wide_fault, total_of, write_faults, write_fault, outcome, written}
use Rattle.callfile.proofs.Results.{never, handed-on, both-none}
use Rattle.callfile.proofs.Headers.{limit_none}
use Rattle.callfile.proofs.There.{length_groups, day-there}
use Rattle.callfile.proofs.CallPuts.{all-narrow}

unless-err : {A : Type 0} (o : Option Fault) (a : A) (f : Fault) → Err f ≡ unless o (Ok a) → o ≡ Some f
unless-err None a f e = never (cc)
unless-err (Some g) a f e = cc

unless-done : {A : Type 0} (o : Option Fault) (a b : A) → Ok b ≡ unless o (Ok a) → (o ≡ None) × (b ≡ a)
unless-done None a b e = (refl, cc)
unless-done (Some g) a b e = never (cc)

size-fine : (n : ℕ) (f : Fault) → first_of ((ltb longest n, f) ∷ []) ≡ None → n ≤ longest
size-fine n f e = grind (arith, nat_tests)

room-fine : (n room : ℕ) (f : Fault) → first_of ((ltb room n, f) ∷ []) ≡ None → n ≤ room
room-fine n room f e = grind (arith, nat_tests)

module _ {C G : Type 0} (k b span : ℕ) (card_bytes : C → List ℕ) (card_of : List ℕ → Option C)
    (wide : (c : C) → length (card_bytes c) ≡ span) (round : (c : C) → card_of (card_bytes c) ≡ Some c)
    (entry_bytes : G → List ℕ) (entry_of : List ℕ → Option G) (keeps : G → Bool)
    (entry-wide : (g : G) → keeps g ≡ true → length (entry_bytes g) ≡ entry_width) (entry-round : (g : G) → keeps g ≡ true → entry_of (entry_bytes g) ≡ Some g)
    (d : Day C G) (kept : AllByRecursion (λ g. keeps g ≡ true) d.groups) (n : ℕ) (is : n ≡ length d.groups) where
  abbrev file : List ℕ
  file = render k b span card_bytes entry_bytes d

  abbrev total : ℕ → ℕ
  total m = total_of span card_bytes m d.calls

  length-file : length file ≡ total n
  length-file =
      let g = length_groups entry_bytes entry_of keeps entry-wide entry-round d.groups kept in
      let w = wide d.first in
      simp length-append (omega arith)

  abbrev faults : ℕ → ℕ → Option Fault
  faults m room = write_faults span (total m) d.terminals d.founder.0 m d.calls room

  faults-are : (room : ℕ) → write_fault k b span card_bytes entry_bytes d room ≡ faults n room
  faults-are room =
      ap (λ (t : ℕ). write_faults span t d.terminals d.founder.0 (length d.groups) d.calls room) length-file
      ∙ ap (λ (m : ℕ). write_faults span (total n) d.terminals d.founder.0 m d.calls room) (sym is)

  -- the answer with a fault, as `?` hands it on
  pub exit-written :
      (r : Result ℕ Fault) (f : Fault) (out : List ℕ) → IsErrAnd r (λ y. y ≡ f) → Err f ≡ unless (faults n (length out)) (Ok (total n)) → (r, out) ≡ written k b span card_bytes entry_bytes d out
  exit-written r f out q h =
      let o : write_fault k b span card_bytes entry_bytes d (length out) ≡ Some f = faults-are (length out) ∙ unless-err (faults n (length out)) (total n) f h in
      ap (λ (x : Result ℕ Fault). (x, out)) (handed-on r f (Err f) q refl) ∙ sym (ap (λ (x : Option Fault). outcome k b span card_bytes entry_bytes x d out) o)

  module _ (t : ℕ) (out : List ℕ) (e : Ok t ≡ unless (faults n (length out)) (Ok (total n))) where
    -- what a day that can be written keeps
    pub record Writable : Type 0 where
      pub exact : t ≡ total n
      pub short : t ≤ longest
      pub limits : limit_fault d.terminals d.founder.0 n ≡ None
      pub small : AllByRecursion (λ c. narrow c ≡ true) d.calls
      pub room : t ≤ length out

    pub writable : Writable
    writable =
        let u = unless-done (faults n (length out)) (total n) t e in
        let p = both-none _ _ u.0 in
        let q = both-none (limit_fault d.terminals d.founder.0 n) _ p.1 in
        let r = both-none (wide_fault span (card_from n + span) d.calls) _ q.1 in
        let s = size-fine (total n) (at Size File 0) p.0 in
        let m = room-fine (total n) (length out) (at NoRoom File 0) r.1 in
        record {
          exact = u.1;
          short = omega (arith, u.1);
          limits = q.0;
          small = all-narrow span card_bytes wide (card_from n + span) d.calls r.0;
          room = omega (arith, u.1);
        }

    module _ (part : List ℕ) (ip : part ≡ file) where
      long : t ≡ length file
      long = writable.exact ∙ sym length-file

      valid : Valid k b span card_bytes entry_bytes keeps d
      valid =
          let w = writable in
          let l = limit_none d.terminals d.founder.0 n w.limits in
          let f = length-file in
          record {
            some = l.0;
            few = l.1;
            founded = l.2;
            some-groups = omega (arith, l.3);
            few-groups = omega (arith, l.4);
            kept = kept;
            small = w.small;
            short = omega (arith, w.exact, w.short);
          }

      pub reads-again : day_of span card_of entry_of k b (take t (part ++ drop t out)) ≡ Ok d
      reads-again =
          let front : take t (part ++ drop t out) ≡ file = take_at part (drop t out) t (ap length ip ∙ sym long) ∙ ip in
          ap (day_of span card_of entry_of k b) front ∙ day-there span card_bytes card_of wide round entry_bytes entry_of keeps entry-wide entry-round k b d valid
