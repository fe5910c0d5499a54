-- every day that has a file reads back from it
use Rattle.std.proofs.Common.{◌≡◌, ℕ, ◌+◌, ◌*◌, ◌≤◌, Bool, true, false, ltb, List, [], ◌∷◌, ◌++◌, length, take, drop, Some, Ok, Option, sym, refl, ap, ◌∙◌, arith, length-append}
use Rattle.std.specs.List.{flat_map, AllByRecursion}
use Rattle.std.proofs.lemmas.List.{append_assoc, take_at, drop_at, drop-drop}
use Rattle.std.proofs.lemmas.Bool.{le-ltb}
use Rattle.parts.specs.declared.calls.Call.{Call}
use Rattle.parts.specs.declared.calls.Call.TheVariants.{Enter, Knock, Send, Deliver, Lose, Crash, Read, Write, Settle, Confirm, Collect, Appoint, Tell, Retire, RetireSettle, RetireConfirm, RetireClose}
use Rattle.cards.specs.Words.{word_at}
use Rattle.books.specs.declared.causes.Cause.TheVariants.{BadEntry}
use Rattle.callfile.specs.declared.faults.Fault.{Fault}
use Rattle.callfile.specs.declared.faults.Part.TheVariants.{Entry}
use Rattle.callfile.specs.Limits.{head_length, entry_width, terminals_at, founder_at, groups_at, card_offset_at, calls_at, calls_offset_at, card_from}
use Rattle.callfile.specs.Faults.{at, or_fault, unless}
use Rattle.callfile.specs.Days.{Day}
use Rattle.callfile.specs.Letters.{size_of}
use Rattle.callfile.specs.Format.{call_bytes, render}
use Rattle.callfile.specs.Reading.{group_at, groups_of, call_at, calls_of, body_of, day_of}
use Rattle.callfile.specs.Laws.{Valid}
use Rattle.callfile.specs.Words.{word-there}
use Rattle.callfile.proofs.Spelling.{length-call}
use Rattle.callfile.proofs.Headers.{Head, none-head}

-- the groups

module _ {G : Type 0} (entry_bytes : G → List ℕ) (entry_of : List ℕ → Option G) (keeps : G → Bool)
    (wide : (g : G) → keeps g ≡ true → length (entry_bytes g) ≡ entry_width) (round : (g : G) → keeps g ≡ true → entry_of (entry_bytes g) ≡ Some g) where
  pub length_groups : (gs : List G) → AllByRecursion (λ g. keeps g ≡ true) gs → length (flat_map entry_bytes gs) ≡ entry_width * length gs
  length_groups [] h = refl
  length_groups (g ∷ gs) h =
      let a = wide g h.0 in
      let b = length_groups gs h.1 in
      simp length-append (omega arith)

  pub groups-there : (b : ℕ) (gs : List G) (rest : List ℕ) → AllByRecursion (λ g. keeps g ≡ true) gs → groups_of entry_of b (length gs) (flat_map entry_bytes gs ++ rest) ≡ Ok gs
  groups-there b [] rest h = refl
  groups-there b (g ∷ gs) rest h =
      let l = wide g h.0 in
      let more = flat_map entry_bytes gs ++ rest in
      let split : flat_map entry_bytes (g ∷ gs) ++ rest ≡ entry_bytes g ++ more = append_assoc (entry_bytes g) (flat_map entry_bytes gs) rest in
      let front : take entry_width (entry_bytes g ++ more) ≡ entry_bytes g = take_at (entry_bytes g) more entry_width l in
      let behind : drop entry_width (entry_bytes g ++ more) ≡ more = drop_at (entry_bytes g) more entry_width l in
      let is : entry_of (take entry_width (entry_bytes g ++ more)) ≡ Some g = ap entry_of front ∙ round g h.0 in
      let one : group_at entry_of b (entry_bytes g ++ more) ≡ Ok g = ap (λ (o : Option G). or_fault o (at BadEntry Entry b)) is in
      let ih = groups-there (b + entry_width) gs rest h.1 in
      rw (split, one, behind, ih) refl

-- the calls

module _ {C : Type 0} (span : ℕ) (card_bytes : C → List ℕ) (card_of : List ℕ → Option C)
    (wide : (c : C) → length (card_bytes c) ≡ span) (round : (c : C) → card_of (card_bytes c) ≡ Some c) where
  call-there : (b : ℕ) (c : Call C) (rest : List ℕ) → call_at span card_of b (call_bytes card_bytes c ++ rest) ≡ Ok c
  call-there b (Enter i) rest = refl
  call-there b (Knock i j) rest = refl
  call-there b (Send i j) rest = refl
  call-there b (Deliver p) rest = refl
  call-there b (Lose p) rest = refl
  call-there b (Crash i) rest = refl
  call-there b (Read i) rest = refl
  call-there b (Write i c) rest =
      let w = wide c in
      let l : ltb (length (card_bytes c ++ rest)) span ≡ false = le-ltb _ _ (simp length-append (omega arith)) in
      let t : take span (card_bytes c ++ rest) ≡ card_bytes c = take_at (card_bytes c) rest span w in
      rw (l, t, round c) refl
  call-there b (Settle i) rest = refl
  call-there b (Confirm i) rest = refl
  call-there b (Collect i) rest = refl
  call-there b (Appoint c) rest = refl
  call-there b (Tell i k) rest = refl
  call-there b (Retire i k) rest = refl
  call-there b (RetireSettle i) rest = refl
  call-there b (RetireConfirm i) rest = refl
  call-there b (RetireClose i) rest = refl

  pub calls-there : (b : ℕ) (cs : List (Call C)) → calls_of span card_of b (length cs) (flat_map (call_bytes card_bytes) cs) ≡ Ok cs
  calls-there b [] = refl
  calls-there b (c ∷ cs) =
      let more = flat_map (call_bytes card_bytes) cs in
      let one : call_at span card_of b (call_bytes card_bytes c ++ more) ≡ Ok c = call-there b c more in
      let behind : drop (size_of span c) (call_bytes card_bytes c ++ more) ≡ more = drop_at (call_bytes card_bytes c) more (size_of span c) (length-call span card_bytes wide c) in
      let ih = calls-there (b + size_of span c) cs in
      rw (one, behind, ih) refl

-- the whole file

module _ {C G : Type 0} (span : ℕ) (card_bytes : C → List ℕ) (card_of : List ℕ → Option C)
    (wide : (c : C) → length (card_bytes c) ≡ span) (round : (c : C) → card_of (card_bytes c) ≡ Some c)
    (entry_bytes : G → List ℕ) (entry_of : List ℕ → Option G) (keeps : G → Bool)
    (entry-wide : (g : G) → keeps g ≡ true → length (entry_bytes g) ≡ entry_width) (entry-round : (g : G) → keeps g ≡ true → entry_of (entry_bytes g) ≡ Some g) where
  body-there :
      (xs : List ℕ) (d : Day C G) → word_at xs terminals_at ≡ d.terminals → word_at xs founder_at ≡ d.founder.0 →
      groups_of entry_of head_length (word_at xs groups_at) (drop head_length xs) ≡ Ok d.groups → card_of (take span (drop (word_at xs card_offset_at) xs)) ≡ Some d.first →
      calls_of span card_of (word_at xs calls_offset_at) (word_at xs calls_at) (drop (word_at xs calls_offset_at) xs) ≡ Ok d.calls → body_of span card_of entry_of xs ≡ Ok d
  body-there xs d t f g k c = rw (g, k, c, t, f) refl

  module _ (k b : ℕ) (d : Day C G) (v : Valid k b span card_bytes entry_bytes keeps d) where
    abbrev xs : List ℕ
    xs = render k b span card_bytes entry_bytes d

    abbrev cards : List ℕ
    cards = card_bytes d.first ++ flat_map (call_bytes card_bytes) d.calls

    abbrev card-from : ℕ
    card-from = card_from (length d.groups)

    groups-are : word_at xs groups_at ≡ length d.groups
    groups-are = word-there (length d.groups)

    card-at : word_at xs card_offset_at ≡ card-from
    card-at = word-there card-from

    calls_are : word_at xs calls_at ≡ length d.calls
    calls_are = word-there (length d.calls)

    calls-at : word_at xs calls_offset_at ≡ card-from + span
    calls-at = word-there (card-from + span)

    groups-wide : length (flat_map entry_bytes d.groups) ≡ entry_width * length d.groups
    groups-wide = length_groups entry_bytes entry_of keeps entry-wide entry-round d.groups v.kept

    behind-groups : drop card-from xs ≡ cards
    behind-groups =
        sym (drop-drop (entry_width * length d.groups) head_length xs) ∙ drop_at (flat_map entry_bytes d.groups) cards (entry_width * length d.groups) groups-wide

    behind-card : drop (card-from + span) xs ≡ flat_map (call_bytes card_bytes) d.calls
    behind-card = sym (drop-drop span card-from xs) ∙ (ap (drop span) behind-groups ∙ drop_at (card_bytes d.first) _ span (wide d.first))

    long-enough : card-from + span ≤ length xs
    long-enough = let a = groups-wide in let w = wide d.first in simp length-append (omega arith)

    head-there : Head k b span xs
    head-there =
        let a = word-there d.terminals in let f = word-there d.founder.0 in
        let g = groups-are in let c = card-at in let o = calls-at in let l = long-enough in
        record {
          long = omega arith;
          short = v.short;
          card-kind = refl;
          book-kind = refl;
          some = omega (arith, v.some);
          few = omega (arith, v.few);
          founded = omega (arith, v.founded);
          some-groups = omega (arith, v.some-groups);
          few-groups = omega (arith, v.few-groups);
          groups-at = refl;
          card-at = omega arith;
          calls-at = omega arith;
          inside = omega arith;
        }

    pub day-there : day_of span card_of entry_of k b xs ≡ Ok d
    day-there =
        let n = none-head k b span xs head-there in
        let g : groups_of entry_of head_length (word_at xs groups_at) (drop head_length xs) ≡ Ok d.groups
        = ap (λ (m : ℕ). groups_of entry_of head_length m (drop head_length xs)) groups-are ∙ groups-there entry_bytes entry_of keeps entry-wide entry-round head_length d.groups cards v.kept in
        let from : drop (word_at xs card_offset_at) xs ≡ cards = ap (λ (m : ℕ). drop m xs) card-at ∙ behind-groups in
        let front : take span cards ≡ card_bytes d.first = take_at (card_bytes d.first) _ span (wide d.first) in
        let c : card_of (take span (drop (word_at xs card_offset_at) xs)) ≡ Some d.first = ap (λ (ys : List ℕ). card_of (take span ys)) from ∙ (ap card_of front ∙ round d.first) in
        let rest : drop (word_at xs calls_offset_at) xs ≡ flat_map (call_bytes card_bytes) d.calls = ap (λ (m : ℕ). drop m xs) calls-at ∙ behind-card in
        let o : calls_of span card_of (word_at xs calls_offset_at) (word_at xs calls_at) (drop (word_at xs calls_offset_at) xs) ≡ Ok d.calls
        = ap (λ (m : ℕ). calls_of span card_of (word_at xs calls_offset_at) m (drop (word_at xs calls_offset_at) xs)) calls_are
        ∙ (ap (calls_of span card_of (word_at xs calls_offset_at) (length d.calls)) rest ∙ calls-there span card_bytes card_of wide round (word_at xs calls_offset_at) d.calls) in
        ap (λ (f : Option Fault). unless f (body_of span card_of entry_of xs)) n ∙ body-there xs d (word-there d.terminals) (word-there d.founder.0) g c o
