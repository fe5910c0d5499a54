-- a walk over the entries
use Rattle.std.proofs.Common.{◌≡◌, ℕ, zero, suc, ◌+◌, ◌-◌, ◌*◌, ◌<◌, ◌≤◌, true, List, [], ◌∷◌, length, get_or, take, drop, Some, None, Ok, Err, Option, Result, sym, refl, ap, ◌∙◌, arith}
use Rattle.std.specs.Option.{is_some}
use Rattle.std.specs.Simd.{first_chunks}
use Rattle.std.proofs.lemmas.List.{drop-drop, take-take, drop-take}
use Rattle.books.specs.declared.causes.Cause.TheVariants.{BadEntry}
use Rattle.callfile.specs.declared.faults.Fault.{Fault}
use Rattle.callfile.specs.declared.faults.Part.TheVariants.{Entry}
use Rattle.callfile.specs.Limits.{head_length, entry_width}
use Rattle.callfile.specs.Faults.{at, ok_unless, and_then, fault_in, or_fault}
use Rattle.callfile.specs.Reading.{group_at, groups_of}
use Rattle.callfile.proofs.Results.{never, fault-then, ok-then}

-- chunk i of a list that is cut into chunks
pub chunk_at : (w n : ℕ) (xs : List ℕ) (i : ℕ) (d : List ℕ) → i < n → get_or (first_chunks w n xs) i d ≡ take w (drop (w * i) xs)
chunk_at w zero xs i d h = absurd (omega arith)
chunk_at w (suc n) xs zero d h = (let z : w * 0 ≡ 0 = omega arith in ap (λ (k : ℕ). take w (drop k xs)) (sym z))
chunk_at w (suc n) xs (suc i) d h =
    let s : w + w * i ≡ w * suc i = omega arith in
    chunk_at w n (drop w xs) i d (omega arith) ∙ ap (take w) (drop-drop (w * i) w xs ∙ ap (λ (k : ℕ). drop k xs) s)

module _ {G : Type 0} (entry_of : List ℕ → Option G) where
  -- the groups of n entries, and those behind the first i of them
  abbrev pub whole : (n : ℕ) (xs : List ℕ) → Result (List G) Fault
  whole n xs = groups_of entry_of head_length n xs

  abbrev pub behind : (n : ℕ) (xs : List ℕ) (i : ℕ) → Result (List G) Fault
  behind n xs i = groups_of entry_of (head_length + entry_width * i) (n - i) (drop (entry_width * i) xs)

  abbrev pub entry : (xs : List ℕ) (i : ℕ) → Option G
  entry xs i = entry_of (take entry_width (drop (entry_width * i) xs))

  pub behind_next : (n : ℕ) (xs : List ℕ) (i : ℕ) → i < n →
      behind n xs i ≡ and_then (group_at entry_of (head_length + entry_width * i) (drop (entry_width * i) xs)) (λ g. and_then (behind n xs (i + 1)) (λ gs. Ok (g ∷ gs)))
  behind_next n xs i h =
      let s : n - i ≡ suc (n - (i + 1)) = omega arith in
      let b : head_length + entry_width * i + entry_width ≡ head_length + entry_width * (i + 1) = omega arith in
      let m : entry_width * i + entry_width ≡ entry_width * (i + 1) = omega arith in
      let d : drop entry_width (drop (entry_width * i) xs) ≡ drop (entry_width * (i + 1)) xs = drop-drop entry_width (entry_width * i) xs ∙ ap (λ (k : ℕ). drop k xs) m in
      rw (s, ← b, ← d) refl

  -- the groups of n entries stand in the bytes of these alone
  pub groups-part : (b n : ℕ) (xs : List ℕ) → groups_of entry_of b n (take (entry_width * n) xs) ≡ groups_of entry_of b n xs
  groups-part b zero xs = refl
  groups-part b (suc n) xs =
      let s : entry_width * suc n ≡ entry_width + entry_width * n = omega arith in
      let t : take entry_width (take (entry_width + entry_width * n) xs) ≡ take entry_width xs = take-take entry_width (entry_width + entry_width * n) xs (omega arith) in
      let d : drop entry_width (take (entry_width + entry_width * n) xs) ≡ take (entry_width * n) (drop entry_width xs) = drop-take entry_width (entry_width * n) xs in
      rw (s, t, d, groups-part (b + entry_width) n (drop entry_width xs)) refl

  -- what is left gives the fault of the whole
  abbrev pub EntriesLeft : (n : ℕ) (xs : List ℕ) (i : ℕ) → Type 0
  EntriesLeft n xs i = fault_in (behind n xs i) ≡ fault_in (whole n xs)

  module _ (n : ℕ) (xs : List ℕ) (i : ℕ) (inv : EntriesLeft n xs i) where
    pub entries_again : i < n → is_some (entry xs i) ≡ true → EntriesLeft n xs (i + 1)
    entries_again h e = sym (ap fault_in (behind_next n xs i h) ∙ by_entry (entry xs i) e) ∙ inv where
      by_entry : (o : Option G) → is_some o ≡ true →
          fault_in (and_then (or_fault o (at BadEntry Entry (head_length + entry_width * i))) (λ g. and_then (behind n xs (i + 1)) (λ gs. Ok (g ∷ gs)))) ≡ fault_in (behind n xs (i + 1))
      by_entry (Some g) e = fault-then (behind n xs (i + 1)) (λ gs. g ∷ gs)
      by_entry None e = never (cc)

    pub entries_wrong : i < n → entry xs i ≡ None → Err (at BadEntry Entry (head_length + entry_width * i)) ≡ ok_unless (fault_in (whole n xs))
    entries_wrong h e =
        let r : fault_in (behind n xs i) ≡ Some (at BadEntry Entry (head_length + entry_width * i)) = ap fault_in (behind_next n xs i h) ∙ rw e refl in
        ap ok_unless (sym r ∙ inv)

    pub entries_end : n ≤ i → Ok tt ≡ ok_unless (fault_in (whole n xs))
    entries_end h = let z : n - i ≡ 0 = omega arith in ap ok_unless (ap (λ (k : ℕ). fault_in (groups_of entry_of (head_length + entry_width * i) k (drop (entry_width * i) xs))) (sym z) ∙ inv)

  pub groups-length : (b n : ℕ) (xs : List ℕ) (gs : List G) → groups_of entry_of b n xs ≡ Ok gs → length gs ≡ n
  groups-length b zero xs gs e = let z : gs ≡ [] = cc in ap length z
  groups-length b (suc n) xs gs e =
      let p = ok-then (group_at entry_of b xs) _ gs e in
      let q = ok-then (groups_of entry_of (b + entry_width) n (drop entry_width xs)) (λ hs. Ok (p.0 ∷ hs)) gs p.2 in
      let ih : length q.0 ≡ n = groups-length (b + entry_width) n (drop entry_width xs) q.0 q.1 in
      let z : gs ≡ p.0 ∷ q.0 = (let w = q.2 in cc) in ap length z ∙ ap suc ih
