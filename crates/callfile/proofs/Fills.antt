-- what a checked file holds, and what a reading leaves of it
use Rattle.std.proofs.Common.{◌≡◌, ℕ, ◌/◌, ◌≤◌, false, ltb, List, ◌++◌, length, take, drop, None, Ok, Err, Option, Result, sym, refl, ap, ◌∙◌, arith}
use Rattle.std.specs.Result.{IsErrAnd}
use Rattle.std.proofs.lemmas.List.{length-take-le}
use Rattle.std.proofs.lemmas.Bool.{le-ltb}
use Rattle.parts.specs.declared.calls.Call.{Call}
use Rattle.cards.specs.Words.{word_at}
use Rattle.books.specs.Books.{table_groups}
use Rattle.callfile.specs.declared.faults.Fault.{Fault}
use Rattle.callfile.specs.declared.summary.Summary.{Summary}
use Rattle.callfile.specs.Limits.{head_length, entry_width, longest, terminals_at, founder_at, groups_at, card_offset_at, calls_at, calls_offset_at}
use Rattle.callfile.specs.Faults.{fault_in, or_fault}
use Rattle.callfile.specs.Days.{Day, summary, summed}
use Rattle.callfile.specs.Letters.{terminal}
use Rattle.callfile.specs.Reading.{groups_of, calls_of, head_fault, body_of, day_of}
use Rattle.callfile.specs.Filling.{gained, placed}
use Rattle.callfile.proofs.Results.{never, handed-on, ok-then, unless-ok}
use Rattle.callfile.proofs.Headers.{Head, head-none}
use Rattle.callfile.proofs.EntryWalks.{groups-length}
use Rattle.callfile.proofs.Checks.{entries, entries-count, entries-are}
use Rattle.callfile.proofs.CallWalks.{calls-length}

module _ {C G : Type 0} (span : ℕ) (card_of : List ℕ → Option C) (entry_of : List ℕ → Option G) (k b : ℕ) (xs : List ℕ) where
  pub fault-placed : (f : Fault) (groups : List G) (list : List (Call C)) → Err f ≡ summed (day_of span card_of entry_of k b xs) → (Err f, groups, list) ≡ placed (day_of span card_of entry_of k b xs) groups list
  fault-placed f groups list e = by-day (day_of span card_of entry_of k b xs) e where
    by-day : (r : Result (Day C G) Fault) → Err f ≡ summed r → (Err f, groups, list) ≡ placed r groups list
    by-day (Ok d) q = never (cc)
    by-day (Err h) q = let z : f ≡ h = cc in rw z refl

  -- the same where `?` hands the fault on
  pub exit-placed : (r : Result (Summary C) Fault) (f : Fault) (groups : List G) (list : List (Call C)) → IsErrAnd r (λ y. y ≡ f) → Err f ≡ summed (day_of span card_of entry_of k b xs) → (r, groups, list) ≡ placed (day_of span card_of entry_of k b xs) groups list
  exit-placed r f groups list q h = ap (λ (x : Result (Summary C) Fault). (x, groups, list)) (handed-on r f (Err f) q refl) ∙ fault-placed f groups list h

  -- a file without a fault, with the day that it holds
  pub record Held (s : Summary C) : Type 0 where
    pub head : Head k b span xs
    pub day : Day C G
    pub is : day_of span card_of entry_of k b xs ≡ Ok day
    pub same : s ≡ summary day
    pub count : s.groups ≡ word_at xs groups_at
    pub groups : groups_of entry_of head_length s.groups (drop head_length xs) ≡ Ok day.groups
    pub calls : calls_of span card_of (word_at xs calls_offset_at) s.calls (drop (word_at xs calls_offset_at) xs) ≡ Ok day.calls

  pub held : (s : Summary C) → Ok s ≡ summed (day_of span card_of entry_of k b xs) → Held s
  held s e =
      let a = ok-then (day_of span card_of entry_of k b xs) (λ d. Ok (summary d)) s (sym e) in
      let d = a.0 in
      let u = unless-ok (head_fault k b span xs) (body_of span card_of entry_of xs) d a.1 in
      let p = ok-then (groups_of entry_of head_length (word_at xs groups_at) (drop head_length xs)) _ d u.1 in
      let q = ok-then (or_fault (card_of (take span (drop (word_at xs card_offset_at) xs))) _) _ d p.2 in
      let r = ok-then (calls_of span card_of (word_at xs calls_offset_at) (word_at xs calls_at) (drop (word_at xs calls_offset_at) xs))
      (λ cs. Ok (record { terminals = word_at xs terminals_at; founder = terminal (word_at xs founder_at); groups = p.0; first = q.0; calls = cs })) d q.2 in
      let same : s ≡ summary d = (let w = a.2 in cc) in
      let gs : d.groups ≡ p.0 = (let w = r.2 in cc) in
      let cs : d.calls ≡ r.0 = (let w = r.2 in cc) in
      let m : s.groups ≡ word_at xs groups_at = ap (λ (t : Summary C). t.groups) same ∙ (ap length gs ∙ groups-length entry_of head_length (word_at xs groups_at) (drop head_length xs) p.0 p.1) in
      let n : s.calls ≡ word_at xs calls_at = ap (λ (t : Summary C). t.calls) same ∙ (ap length cs ∙ calls-length span card_of (word_at xs calls_offset_at) (word_at xs calls_at) (drop (word_at xs calls_offset_at) xs) r.0 r.1) in
      record {
        head = head-none k b span xs u.0;
        day = d;
        is = a.1;
        same = same;
        count = m;
        groups = ap (λ (i : ℕ). groups_of entry_of head_length i (drop head_length xs)) m ∙ (p.1 ∙ ap Ok (sym gs));
        calls = ap (λ (i : ℕ). calls_of span card_of (word_at xs calls_offset_at) i (drop (word_at xs calls_offset_at) xs)) n ∙ (r.1 ∙ ap Ok (sym cs));
      }

  module _ (s : Summary C) (h : Held s) (a : ℕ) (ia : a ≡ word_at xs card_offset_at) where
    abbrev read : Result (List G) Fault
    read = groups_of entry_of head_length (length (entries xs a) / entry_width) (entries xs a)

    groups-here : read ≡ Ok h.day.groups
    groups-here = entries-are k b span xs h.head a ia entry_of ∙ (ap (λ (n : ℕ). groups_of entry_of head_length n (drop head_length xs)) (sym h.count) ∙ h.groups)

    -- what filling the book asks
    pub groups-fit : (length (entries xs a) / entry_width ≤ table_groups) × (fault_in read ≡ None)
    groups-fit = let n = entries-count k b span xs h.head a ia in let f = h.head.few-groups in (omega arith, ap fault_in groups-here)

    -- where the calls begin, within the file
    pub calls-inside : (t : ℕ) → t ≡ word_at xs calls_offset_at → (t ≤ length xs) × (length xs ≤ longest)
    calls-inside t it = let i = h.head.inside in (omega arith, h.head.short)

    module _ (byte t : ℕ) (ib : byte ≡ t) (it : t ≡ word_at xs calls_offset_at) (rest : List ℕ) (ir : rest ≡ drop t xs) (old : List (Call C)) (room : s.calls ≤ length old) where
      abbrev taken : Result (List (Call C)) Fault
      taken = calls_of span card_of byte (length (take s.calls old)) rest

      calls-here : taken ≡ Ok h.day.calls
      calls-here =
          let l : length (take s.calls old) ≡ s.calls = length-take-le s.calls old room in
          simp (ir, ib, it, l) h.calls

      -- what filling the list asks
      pub calls-fit : fault_in taken ≡ None
      calls-fit = ap fault_in calls-here

      pub placed-here : (groups filled : List G) (front : List (Call C)) → filled ≡ gained read → front ≡ gained taken → (Ok s, filled, front ++ drop s.calls old) ≡ placed (day_of span card_of entry_of k b xs) groups old
      placed-here groups filled front f e =
          let d = h.day in
          let n : s.calls ≡ length d.calls = ap (λ (u : Summary C). u.calls) h.same in
          let lt : ltb (length old) (length d.calls) ≡ false = le-ltb _ _ (omega arith) in
          let g : filled ≡ d.groups = f ∙ ap gained groups-here in
          let c : front ++ drop s.calls old ≡ d.calls ++ drop (length d.calls) old = ap (λ (cs : List (Call C)). cs ++ drop s.calls old) (e ∙ ap gained calls-here) ∙ ap (λ (m : ℕ). d.calls ++ drop m old) n in
          let p : placed (Ok d) groups old ≡ (Ok (summary d), d.groups, d.calls ++ drop (length d.calls) old) = rw lt refl in
          let i = h.is in let u = h.same in
          sym (ap (λ (r : Result (Day C G) Fault). placed r groups old) i ∙ (p ∙ cc))
