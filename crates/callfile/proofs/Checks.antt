-- the outcomes of a reading, one lemma for each way out
use Rattle.std.proofs.Common.{◌≡◌, ℕ, ◌-◌, ◌*◌, ◌/◌, List, length, take, drop, Some, None, Ok, Err, Option, sym, ap, ◌∙◌, arith, length-drop}
use Rattle.std.specs.Option.{ok_or}
use Rattle.std.proofs.lemmas.List.{length-take-le}
use Rattle.cards.specs.Words.{word_at}
use Rattle.books.specs.declared.causes.Cause.TheVariants.{BadCard}
use Rattle.callfile.specs.declared.faults.Fault.{Fault}
use Rattle.callfile.specs.declared.faults.Part.TheVariants.{Card}
use Rattle.callfile.specs.declared.summary.Summary.{Summary}
use Rattle.callfile.specs.Limits.{head_length, entry_width, groups_at, card_offset_at, calls_at, calls_offset_at}
use Rattle.callfile.specs.Faults.{at, ok_unless, unless, fault_in}
use Rattle.callfile.specs.Days.{summed}
use Rattle.callfile.specs.Reading.{head_summary, groups_of, calls_of, head_fault, body_of, day_of}
use Rattle.callfile.proofs.Results.{no-fault, unfaulted, faulted, nothing-there}
use Rattle.callfile.proofs.Headers.{Head, head-none}
use Rattle.callfile.proofs.EntryWalks.{groups-part, groups-length}
use Rattle.callfile.proofs.CallWalks.{calls-length}

-- the bytes between the header and the first card, which begins at byte a
abbrev pub entries : (xs : List ℕ) (a : ℕ) → List ℕ
entries xs a = take (a - head_length) (drop head_length xs)

-- they are the entries
module _ (k b span : ℕ) (xs : List ℕ) (h : Head k b span xs) (a : ℕ) (ia : a ≡ word_at xs card_offset_at) where
  pub entries-count : length (entries xs a) / entry_width ≡ word_at xs groups_at
  entries-count =
      let l : length (entries xs a) ≡ a - head_length = length-take-le (a - head_length) (drop head_length xs) (simp length-drop (omega (arith, h.inside, h.calls-at, h.card-at))) in
      omega (arith, h.card-at)

  pub entries-are : {G : Type 0} (entry_of : List ℕ → Option G) → groups_of entry_of head_length (length (entries xs a) / entry_width) (entries xs a) ≡ groups_of entry_of head_length (word_at xs groups_at) (drop head_length xs)
  entries-are entry_of =
      let n = word_at xs groups_at in
      let m : a - head_length ≡ entry_width * n = omega (arith, h.card-at) in
      ap (λ (i : ℕ). groups_of entry_of head_length i (entries xs a)) entries-count
      ∙ (ap (λ (i : ℕ). groups_of entry_of head_length n (take i (drop head_length xs))) m ∙ groups-part entry_of head_length n (drop head_length xs))

module _ {C G : Type 0} (span : ℕ) (card_of : List ℕ → Option C) (entry_of : List ℕ → Option G) (k b : ℕ) (xs : List ℕ) where
  pub day-head : (f : Fault) → Err f ≡ ok_unless (head_fault k b span xs) → Err f ≡ summed (day_of span card_of entry_of k b xs)
  day-head f e = ap (λ (o : Option Fault). summed (unless o (body_of span card_of entry_of xs))) (sym (faulted (head_fault k b span xs) f e))

module _ {C G : Type 0} (span : ℕ) (card_of : List ℕ → Option C) (entry_of : List ℕ → Option G) (k b : ℕ) (xs : List ℕ) (v : Unit {0}) (fine : Ok v ≡ ok_unless (head_fault k b span xs)) (a : ℕ) (ia : a ≡ word_at xs card_offset_at) where
  h : None ≡ head_fault k b span xs
  h = unfaulted (head_fault k b span xs) v fine

  head : Head k b span xs
  head = head-none k b span xs (sym h)

  -- as the code has them: the groups' fault, the first card, the calls' fault
  abbrev found : Option Fault
  found = fault_in (groups_of entry_of head_length (length (entries xs a) / entry_width) (entries xs a))

  found-is : found ≡ fault_in (groups_of entry_of head_length (word_at xs groups_at) (drop head_length xs))
  found-is = ap fault_in (entries-are k b span xs head a ia entry_of)

  pub day-entry : (f : Fault) → Err f ≡ ok_unless found → Err f ≡ summed (day_of span card_of entry_of k b xs)
  day-entry f e = let m = found-is in let n = faulted found f e in let g = h in grind arith

  module _ (u : Unit {0}) (none : Ok u ≡ ok_unless found) (t : ℕ) (it : t ≡ word_at xs calls_offset_at) (co : Option C) (ic : co ≡ card_of (take (t - a) (drop a xs))) where
    groups-fine : None ≡ fault_in (groups_of entry_of head_length (word_at xs groups_at) (drop head_length xs))
    groups-fine = unfaulted found u none ∙ found-is

    card-is : co ≡ card_of (take span (drop (word_at xs card_offset_at) xs))
    card-is =
        let p = head in
        let d : t - a ≡ span = omega arith in
        ic ∙ ap (λ (m : ℕ). card_of (take m (drop a xs))) d ∙ ap (λ (m : ℕ). card_of (take span (drop m xs))) ia

    pub day-card : (f g : Fault) → Err f ≡ ok_or co g → g ≡ at BadCard Card a → Err f ≡ summed (day_of span card_of entry_of k b xs)
    day-card f g e i =
        let n = nothing-there co g f e in
        let w : Err (at BadCard Card a) ≡ summed (day_of span card_of entry_of k b xs) = (let m = groups-fine in let o = card-is in let z = n.0 in let i = h in grind arith) in
        ap Err (n.1 ∙ i) ∙ w

    module _ (c : C) (some : co ≡ Some c) (d : Summary C) (id : d ≡ head_summary xs c) (byte : ℕ) (ib : byte ≡ t) (rest : List ℕ) (ir : rest ≡ drop t xs) where
      abbrev wrong : Option Fault
      wrong = fault_in (calls_of span card_of byte d.calls rest)

      wrong-is : wrong ≡ fault_in (calls_of span card_of (word_at xs calls_offset_at) (word_at xs calls_at) (drop (word_at xs calls_offset_at) xs))
      wrong-is = simp (ir, ib, id, it)

      pub day-call : (f : Fault) → Err f ≡ ok_unless wrong → Err f ≡ summed (day_of span card_of entry_of k b xs)
      day-call f e = let m = groups-fine in let o = card-is in let q = wrong-is in let n = faulted wrong f e in let g = h in grind arith

      pub day-read : (w : Unit {0}) → Ok w ≡ ok_unless wrong → Ok d ≡ summed (day_of span card_of entry_of k b xs)
      day-read w e =
          let p = no-fault (groups_of entry_of head_length (word_at xs groups_at) (drop head_length xs)) (sym groups-fine) in
          let q = no-fault (calls_of span card_of (word_at xs calls_offset_at) (word_at xs calls_at) (drop (word_at xs calls_offset_at) xs)) (sym (unfaulted wrong w e ∙ wrong-is)) in
          let r = groups-length entry_of head_length (word_at xs groups_at) (drop head_length xs) p.0 p.1 in
          let s = calls-length span card_of (word_at xs calls_offset_at) (word_at xs calls_at) (drop (word_at xs calls_offset_at) xs) q.0 q.1 in
          let m = card-is in
          let g = h in
          ap Ok id ∙ grind arith
