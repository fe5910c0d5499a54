-- What cutting, extending and retiring keep.
use Rattle.std.proofs.Common.{◌≡◌, ℕ, suc, ◌<◌, ◌≤◌, max, ◌≢◌, List, length, set, sym, ◌∙◌, inl, inr, arith}
use Rattle.std.proofs.lemmas.Bool.{cases_lt, cases_eq}
use Rattle.std.proofs.lemmas.List.{ext_get_or, get_or-set_same, get_or-set_other, get_or_past}
use Rattle.parts.specs.declared.counts.Group.{Group as GroupNumber}
use Rattle.parts.specs.declared.entries.Entry.{Entry}
use Rattle.parts.specs.declared.entries.Entry.TheVariants.{Unknown, Group, Retired}
use Rattle.parts.specs.Charts.{extend_entry, cut_list, length_list}
use Rattle.parts.specs.ChartLaws.{entry_in, extended, UsableAt, Usable, Agrees}
use Rattle.parts.proofs.Walks.{length_cut, cut-unknown}
use Rattle.parts.proofs.Places.{extend-cases, extend-at, known-before, length_from, length-upto, cut-known, cut-cases}

pub length-of-cut : (a : List Entry) → length_list (cut_list a) ≡ length_list a
length-of-cut a =
    let u = length-upto (cut_list a) (length_list a) (cut-unknown a (length_list a) (omega arith)) in
    let l = length_from (cut_list a) (length_list a) (λ k h e. known-before a k h (cc (cut-known a k h))) in
    omega arith

pub agrees-cut : (f : ℕ → GroupNumber) (a : List Entry) → Agrees f a → Agrees f (cut_list a)
agrees-cut f a ha k c e = let g = ha k c in grind (arith, cut-cases)

pub cut_twice : (a : List Entry) → cut_list (cut_list a) ≡ cut_list a
cut_twice a = ext_get_or Unknown _ _ (length_cut (cut_list a)) (λ k _. let l = length-of-cut a in grind (arith, cut-cases (cut_list a) k, cut-cases a k))

-- the places up to the first in use are known
pub usable-length : (a : List Entry) (m : ℕ) (c : GroupNumber) → UsableAt a m c → m < length_list a
usable-length a m c u =
    length_from a (suc m) (λ k h e. let g = u.below k in let g' = u.here in elim (cases_eq k m) [ inl p ↦ grind arith | inr p ↦ grind arith ])

pub usable-cut : (a : List Entry) → Usable a → Usable (cut_list a)
usable-cut a (m, c, u) = let l = usable-length a m c u in (
  m,
  c,
  record {
    below = λ k h. let g = u.below k h in grind (arith, cut-known);
    here = let g = u.here in grind (arith, cut-known);
    above = λ k h e. let g = u.above k h in grind (arith, cut-cases);
  },
)

-- a row that is its own cut knows nothing from there on
nothing-behind : (a : List Entry) → cut_list a ≡ a → (k : ℕ) → length_list a ≤ k → entry_in a k ≡ Unknown
nothing-behind a e k h = let g = cut-unknown a k h in cc

pub usable-extended : (a b : List Entry) → Usable a → Usable (extended a b)
usable-extended a b (m, c, u) = (
  m,
  c,
  record {
    below = λ k h. let g = u.below k h in grind (arith, extend-cases a b k);
    here = let g = u.here in grind (arith, extend-cases a b m);
    above = λ k h e. let g = u.above k h in grind (arith, extend-cases a b k);
  },
)

pub agrees-extended : (f : ℕ → GroupNumber) (a b : List Entry) → Agrees f a → Agrees f b → Agrees f (extended a b)
agrees-extended f a b ha hb k c e = let g = ha k c in let g' = hb k c in grind (arith, extend-cases a b k)

module _ (a b : List Entry) (same : length a ≡ length b) (whole : cut_list a ≡ a) where
  at_both : (k : ℕ) → entry_in (extended a (cut_list b)) k ≡ extend_entry (entry_in a k) (entry_in (cut_list b) k)
  at_both k = extend-at a (cut_list b) k (same ∙ sym (length_cut b))

  extended-upto : length_list (extended a (cut_list b)) ≤ max (length_list a) (length_list b)
  extended-upto =
      let n = max (length_list a) (length_list b) in
      let p = nothing-behind a whole n (omega arith) in
      let q = cut-unknown b n (omega arith) in
      length-upto (extended a (cut_list b)) n (grind (arith, at_both n))

  module _ (n : ℕ) (c : GroupNumber) (u : UsableAt b n c) (still : cut_list (extended a (cut_list b)) ≡ extended a (cut_list b)) where
    -- a retired place of b lies below its group at n, and unless a knows it, what a gets at n stands behind a gap
    known-extended : (k : ℕ) → k < max (length_list a) (length_list b) → entry_in (extended a (cut_list b)) k ≢ Unknown
    known-extended k h e = elim (cases_lt k (length_list a)) [
      | inl l ↦ (let g = known-before a k l in grind (arith, at_both k))
      | inr l ↦ (let g = cut-known b k (omega arith) in
          let g' = known-before b k (omega arith) in
          let above = u.above k in
          let inside = usable-length b n c u in
          let behind = nothing-behind (extended a (cut_list b)) still n in
          let upto = length-upto (extended a (cut_list b)) k e in
          let here = u.here in
          let at_n = cut-known b n inside in
          let none = nothing-behind a whole n in
          grind (arith, at_both k, at_both n))
    ]

  pub length-extended : Usable b → cut_list (extended a (cut_list b)) ≡ extended a (cut_list b) → length_list (extended a (cut_list b)) ≡ max (length_list a) (length_list b)
  length-extended (n, c, u) still =
      let up = extended-upto in
      let from = length_from (extended a (cut_list b)) (max (length_list a) (length_list b)) (known-extended n c u still) in
      omega arith

-- a group stands inside its row
inside : (a : List Entry) (m : ℕ) (c : GroupNumber) → entry_in a m ≡ Group c → m < length a
inside a m c e = let p = get_or_past a m Unknown in elim (cases_lt m (length a)) [ inl h ↦ h | inr h ↦ grind arith ]

pub usable-retired : (a : List Entry) (m : ℕ) (c d : GroupNumber) → UsableAt a m c → entry_in a (suc m) ≡ Group d → UsableAt (set a m Retired) (suc m) d
usable-retired a m c d u e =
    let same = get_or-set_same a m Retired Unknown (inside a m c u.here) in
    let other : (k : ℕ) → k ≢ m → entry_in (set a m Retired) k ≡ entry_in a k = λ k. get_or-set_other a m k Retired Unknown in
    record {
      below = λ k h. elim (cases_eq k m) [ inl p ↦ cc | inr p ↦ (let g = u.below k in let g' = other k p in grind arith) ];
      here = other (suc m) (omega arith) ∙ e;
      above = λ k h e'. let g = u.above k (omega arith) in let g' = other k (omega arith) in grind arith;
    }
