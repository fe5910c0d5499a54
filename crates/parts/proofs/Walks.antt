-- What the walks along a row of entries come to, as std's words for lists say it.
use Rattle.std.proofs.Common.{◌≡◌, Some, None, ℕ, zero, suc, ◌+◌, ◌≤◌, Bool, true, false, cond, List, [], ◌∷◌, ◌++◌, length, take, drop, get_or, replicate, refl, ap, ◌∙◌, arith, append-nil, length-drop, length-take-le}
use borrow.Rule.Slice.PartMut.{put_mid}
use Rattle.std.proofs.lemmas.List.{drop_all}
use lib.Dec.{ltb}
use Rattle.std.specs.Option.{unwrap_or}
use Rattle.std.specs.List.{position_or_len, list_any}
use Rattle.parts.specs.declared.entries.Entry.{Entry}
use Rattle.parts.specs.declared.entries.Entry.TheVariants.{Unknown, Group, Retired}
use Rattle.parts.specs.Charts.{is_group, blank, cut_list, length_list, any_group, gap_list}

abbrev pub is_unknown : Entry → Bool
is_unknown Unknown = true
is_unknown (Group c) = false
is_unknown Retired = false

-- the known entries stand before the first unknown one
length-position : (xs : List Entry) → position_or_len is_unknown xs ≡ length_list xs
unfolding length_list
length-position [] = refl
length-position (Unknown ∷ es) = refl
length-position (Group c ∷ es) = grind (arith, length-position es)
length-position (Retired ∷ es) = grind (arith, length-position es)

-- they fit the row
within : (xs : List Entry) → length_list xs ≤ length xs
unfolding length_list
within [] = omega arith
within (Unknown ∷ es) = omega arith
within (Group c ∷ es) = omega (arith, within es)
within (Retired ∷ es) = omega (arith, within es)

found_or : (k n : ℕ) → k ≤ n → unwrap_or (cond (ltb k n) (Some k) None) n ≡ k
found_or k n h = grind arith

-- and where none is unknown, they are all
pub length-found : (xs : List Entry) → unwrap_or (cond (ltb (position_or_len is_unknown xs) (length xs)) (Some (position_or_len is_unknown xs)) None) (length xs) ≡ length_list xs
length-found xs = let h : position_or_len is_unknown xs ≤ length xs = omega (arith, length-position xs, within xs) in found_or _ _ h ∙ length-position xs

any-group : (xs : List Entry) → list_any is_group xs ≡ any_group xs
unfolding any_group
any-group [] = refl
any-group (Unknown ∷ es) = any-group es
any-group (Group c ∷ es) = refl
any-group (Retired ∷ es) = any-group es

-- a gap is a group behind them
pub gap-any : (xs : List Entry) → list_any is_group (drop (length_list xs) xs) ≡ gap_list xs
unfolding length_list gap_list
gap-any [] = refl
gap-any (Unknown ∷ es) = any-group es
gap-any (Group c ∷ es) = gap-any es
gap-any (Retired ∷ es) = gap-any es

blank-replicate : (xs : List Entry) → replicate (length xs) Unknown ≡ blank xs
unfolding blank
blank-replicate [] = refl
blank-replicate (e ∷ es) = ap (λ zs. Unknown ∷ zs) (blank-replicate es)

-- the cut keeps them, and is unknown from there on
cut-fills : (xs : List Entry) (n : ℕ) → n + length_list xs ≡ length xs → take (length_list xs) xs ++ replicate n Unknown ≡ cut_list xs
unfolding length_list cut_list
cut-fills [] n h = let e : n ≡ 0 = omega (arith, h) in rw e refl
cut-fills (Unknown ∷ es) n h = let e : n ≡ suc (length es) = omega (arith, h) in rw e (ap (λ zs. Unknown ∷ zs) (blank-replicate es))
cut-fills (Group c ∷ es) n h = ap (λ zs. Group c ∷ zs) (cut-fills es n (omega (arith, h)))
cut-fills (Retired ∷ es) n h = ap (λ zs. Retired ∷ zs) (cut-fills es n (omega (arith, h)))

-- so it is the row with its part from there on written over
pub cut-put : (xs ys : List Entry) (k n : ℕ) → k ≡ length_list xs → n + k ≡ length xs → ys ≡ replicate (length (take n (drop k xs))) Unknown → put_mid k n xs ys ≡ cut_list xs
cut-put xs ys k n here all filled =
    let long : length (drop k xs) ≡ n = omega (arith, length-drop k xs) in
    let part : length (take n (drop k xs)) ≡ n = length-take-le n (drop k xs) (omega (arith, long)) in
    let none : drop n (drop k xs) ≡ [] = drop_all n (drop k xs) (omega (arith, long)) in
    let most : n + length_list xs ≡ length xs = omega (arith, here, all) in
    ap (λ zs. take k xs ++ (ys ++ zs)) none ∙ ap (λ zs. take k xs ++ zs) (append-nil ys ∙ filled ∙ ap (λ m. replicate m Unknown) part)
    ∙ ap (λ m. take m xs ++ replicate n Unknown) here ∙ cut-fills xs n most

-- the cut row, place by place

length-blank : (es : List Entry) → length (blank es) ≡ length es
unfolding blank
length-blank [] = refl
length-blank (e ∷ es) = ap suc (length-blank es)

pub length_cut : (xs : List Entry) → length (cut_list xs) ≡ length xs
unfolding cut_list
length_cut [] = refl
length_cut (Unknown ∷ es) = ap suc (length-blank es)
length_cut (Group c ∷ es) = ap suc (length_cut es)
length_cut (Retired ∷ es) = ap suc (length_cut es)

blank-at : (es : List Entry) (k : ℕ) → get_or (blank es) k Unknown ≡ Unknown
unfolding blank
blank-at [] k = refl
blank-at (e ∷ es) zero = refl
blank-at (e ∷ es) (suc k) = blank-at es k

-- from its first unknown entry on it is unknown
pub cut-unknown : (xs : List Entry) (k : ℕ) → length_list xs ≤ k → get_or (cut_list xs) k Unknown ≡ Unknown
unfolding cut_list length_list
cut-unknown [] k h = refl
cut-unknown (Unknown ∷ es) zero h = refl
cut-unknown (Unknown ∷ es) (suc k) h = blank-at es k
cut-unknown (Group c ∷ es) zero h = absurd (omega arith)
cut-unknown (Group c ∷ es) (suc k) h = cut-unknown es k (omega arith)
cut-unknown (Retired ∷ es) zero h = absurd (omega arith)
cut-unknown (Retired ∷ es) (suc k) h = cut-unknown es k (omega arith)
