-- a walk over the entries that fills a book
use Rattle.std.proofs.Common.{◌≡◌, ℕ, ◌+◌, ◌-◌, ◌*◌, ◌<◌, ◌≤◌, Bool, true, ltb, List, [], ◌∷◌, ◌++◌, length, get_or, take, drop, Some, None, Ok, Option, Result, sym, refl, ap, ◌∙◌, arith, length-append}
use Rattle.std.specs.Result.{is_ok}
use Rattle.std.specs.Simd.{first_chunks}
use Rattle.std.proofs.lemmas.List.{append_assoc, append-nil}
use Rattle.std.proofs.lemmas.Bool.{lt-ltb}
use Rattle.books.specs.Books.{table_groups}
use Rattle.books.specs.declared.causes.Cause.{Cause}
use Rattle.books.specs.declared.causes.Cause.TheVariants.{BadEntry}
use Rattle.callfile.specs.declared.faults.Part.TheVariants.{Entry}
use Rattle.callfile.specs.Limits.{head_length, entry_width}
use Rattle.callfile.specs.Faults.{at, and_then, fault_in, or_fault}
use Rattle.callfile.specs.Reading.{groups_of}
use Rattle.books.specs.Tables.{add_step, add_read}
use Rattle.callfile.specs.Filling.{gained}
use Rattle.callfile.proofs.Results.{never, read_next}
use Rattle.callfile.proofs.EntryWalks.{chunk_at, whole, behind, entry, behind_next}

module _ {G : Type 0} (entry_of : List ℕ → Option G) where
  -- what is left is without fault, and goes behind the groups added so far
  abbrev pub GroupsLeft : (n : ℕ) (xs : List ℕ) (i : ℕ) (groups : List G) → Type 0
  GroupsLeft n xs i groups =
      (fault_in (behind entry_of n xs i) ≡ None) × (groups ++ gained (behind entry_of n xs i) ≡ gained (whole entry_of n xs)) × (length groups ≡ i)

  pub groups_begin : (n : ℕ) (xs : List ℕ) (groups : List G) → groups ≡ [] → fault_in (whole entry_of n xs) ≡ None → GroupsLeft n xs 0 groups
  groups_begin n xs groups e f = let z : n - 0 ≡ n = omega arith in rw (e, z) (f, refl, refl)

  module _ (n : ℕ) (xs : List ℕ) (i : ℕ) (groups : List G) (inv : GroupsLeft n xs i groups) where
    -- there is a group in each entry
    some_there : i < n → (g : G) × (entry entry_of xs i ≡ Some g)
    some_there h = by_entry (entry entry_of xs i) (sym (ap fault_in (behind_next entry_of n xs i h)) ∙ inv.0) where
      by_entry : (o : Option G) → fault_in (and_then (or_fault o (at BadEntry Entry (head_length + entry_width * i))) (λ g. and_then (behind entry_of n xs (i + 1)) (λ gs. Ok (g ∷ gs)))) ≡ None → (g : G) × (o ≡ Some g)
      by_entry (Some g) e = (g, refl)
      by_entry None e = never (cc)

    pub groups_end : n ≤ i → groups ≡ gained (whole entry_of n xs)
    groups_end h =
        let z : n - i ≡ 0 = omega arith in
        let none : gained (behind entry_of n xs i) ≡ [] = ap (λ (k : ℕ). gained (groups_of entry_of (head_length + entry_width * i) k (drop (entry_width * i) xs))) z in
        sym (append-nil groups) ∙ (ap (λ (gs : List G). groups ++ gs) (sym none) ∙ inv.1)

  module _ (keeps : G → Bool) (kept : (xs : List ℕ) (g : G) → entry_of xs ≡ Some g → keeps g ≡ true) where
    -- a group that is kept goes in where there is room
    goes_in : (g : G) (gs after : List G) (r : Result (Unit {0}) Cause) → keeps g ≡ true → length gs < table_groups → (r, after) ≡ add_step keeps g gs → (r ≡ Ok tt) × (after ≡ gs ++ (g ∷ []))
    goes_in g gs after r k l e =
        let t : ltb (length gs) table_groups ≡ true = lt-ltb _ _ l in
        let w : add_step keeps g gs ≡ (Ok tt, gs ++ (g ∷ [])) = rw (k, t) refl in
        (ap (λ (p : Result (Unit {0}) Cause × List G). p.0) (e ∙ w), ap (λ (p : Result (Unit {0}) Cause × List G). p.1) (e ∙ w))

    module _ (n : ℕ) (xs : List ℕ) (i : ℕ) (groups : List G) (inv : GroupsLeft n xs i groups) (h : i < n) (few : n ≤ table_groups)
        (rows : List (List ℕ)) (is : rows ≡ first_chunks entry_width n xs) (r : Result (Unit {0}) Cause) (after : List G) (a : (r, after) ≡ add_read keeps (entry_of (get_or rows i [])) groups) where
      abbrev next : (g : G) × (entry entry_of xs i ≡ Some g)
      next = some_there n xs i groups inv h

      read : get_or rows i [] ≡ take entry_width (drop (entry_width * i) xs)
      read = ap (λ (ys : List (List ℕ)). get_or ys i []) is ∙ chunk_at entry_width n xs i [] h

      in_there : (r ≡ Ok tt) × (after ≡ groups ++ (next.0 ∷ []))
      in_there = goes_in next.0 groups after r (kept _ next.0 next.1) (omega (arith, inv.2)) (a ∙ ap (λ (o : Option G). add_read keeps o groups) (ap entry_of read ∙ next.1))

      pub room_there : is_ok r ≡ true
      room_there = ap is_ok in_there.0

      pub groups_again : GroupsLeft n xs (i + 1) after
      groups_again =
          let g = next.0 in
          let s : behind entry_of n xs i ≡ and_then (behind entry_of n xs (i + 1)) (λ gs. Ok (g ∷ gs)) = behind_next entry_of n xs i h ∙ rw next.1 refl in
          let t = read_next (behind entry_of n xs i) (behind entry_of n xs (i + 1)) g s inv.0 in
          let more = gained (behind entry_of n xs (i + 1)) in (
            t.0,
            ap (λ (gs : List G). gs ++ more) in_there.1 ∙ (append_assoc groups (g ∷ []) more ∙ (ap (λ (gs : List G). groups ++ gs) (sym t.1) ∙ inv.1)),
            (let l : length after ≡ length groups + 1 = ap length in_there.1 ∙ length-append groups (g ∷ []) in omega (arith, inv.2)),
          )
