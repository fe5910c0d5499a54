-- The entries of a book's table, of which those past the last group are blank.
use Rattle.std.proofs.Common.{◌≡◌, ℕ, suc, ◌+◌, ◌-◌, ◌<◌, ◌≢◌, List, ◌++◌, length, get_or, drop, set, replicate, sym, subst, ap, ◌∙◌, arith, below_more}
use Rattle.std.proofs.lemmas.List.{length-take-le, take-append-drop, get_or-drop, get_or-replicate, get_or-set_same, get_or-set_other, set-get_or, drop-drop, drop-set-lt}
use Rattle.books.specs.Books.{table_groups}
use Rattle.books.specs.declared.table.Table.{Table}
use Rattle.books.specs.Tables.{booked}

module _ {G : Type 0} where
  -- one entry fewer is blank once it has a group
  pub rest_more : (blank : G) (n m : ℕ) (entries : List G) (g : G) → n < m → drop n entries ≡ replicate (m - n) blank → drop (n + 1) (set entries n g) ≡ replicate (m - (n + 1)) blank
  rest_more blank n m entries g h e =
      let k : m - n ≡ suc (m - (n + 1)) = omega arith in
      drop-set-lt (n + 1) entries n g (omega arith) ∙ sym (drop-drop 1 n entries) ∙ ap (drop 1) e ∙ ap (λ i. drop 1 (replicate i blank)) k

  -- what holds of the first n entries and of a group holds of the first n + 1 once the group is set there
  pub each_more : (P : G → Type 0) (d : G) (n : ℕ) (entries : List G) (g : G) → n < length entries → ((k : ℕ) → k < n → P (get_or entries k d)) → P g →
      (k : ℕ) → k < n + 1 → P (get_or (set entries n g) k d)
  each_more P d n entries g l below at =
      below_more (λ k. P (get_or (set entries n g) k d)) n
      (λ k h. let ne : k ≢ n = omega arith in subst P (sym (get_or-set_other entries n k g d ne)) (below k h))
      (subst P (sym (get_or-set_same entries n g d l)) at)

  -- an entry that gets what it had leaves the table as it was
  pub set_back : (d : G) (n : ℕ) (entries : List G) (e : G) → e ≡ get_or entries n d → set entries n e ≡ entries
  set_back d n entries e is = ap (set entries n) is ∙ set-get_or entries n d

  -- the entry behind the last group is blank
  pub blank-next : (blank : G) (n m : ℕ) (entries : List G) → n < m → drop n entries ≡ replicate (m - n) blank → blank ≡ get_or entries n blank
  blank-next blank n m entries h e =
      let at : n + 0 ≡ n = omega arith in
      sym (ap (λ i. get_or entries i blank) (sym at) ∙ sym (get_or-drop n entries 0 blank) ∙ ap (λ xs. get_or xs 0 blank) e ∙ get_or-replicate (m - n) 0 blank blank (omega arith))

-- the groups of a book determine it
module _ {G : Type 0} {kind : _} where
  laid_out : (b : Table G kind) → b.entries ≡ booked b ++ replicate (table_groups - b.count) kind.blank
  laid_out b = sym (take-append-drop b.count b.entries) ∙ ap (λ xs. booked b ++ xs) b.rest

  counted : (b : Table G kind) → b.count ≡ length (booked b)
  counted b = sym (length-take-le b.count b.entries (omega arith))

  pub same-book : (a b : Table G kind) → booked a ≡ booked b → (a.count ≡ b.count) × (a.entries ≡ b.entries)
  same-book a b e =
      let n : a.count ≡ b.count = counted a ∙ ap length e ∙ sym (counted b) in
      (n, laid_out a ∙ ap (λ xs. xs ++ replicate (table_groups - a.count) kind.blank) e ∙ ap (λ k. booked b ++ replicate (table_groups - k) kind.blank) n ∙ sym (laid_out b))
