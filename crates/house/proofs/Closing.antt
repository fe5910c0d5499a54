-- A table whose part from p on moved up by one.
use Rattle.std.proofs.Common.{◌≡◌, ℕ, zero, suc, ◌+◌, ◌-◌, ◌<◌, ◌≤◌, List, [], ◌∷◌, ◌++◌, length, get_or, take, drop, set, sym, ap, ◌∙◌, arith}
use Rattle.std.proofs.lemmas.List.{length-drop, length-take-le, drop-drop, drop-append-le, take-append-drop, append_assoc}
use Rattle.std.proofs.lemmas.Slice.{between_is}
use borrow.Rule.Slice.PartMut.{put_mid}
use Rattle.house.specs.Tables.{moved_up, closed_up}

-- the whole list, after its part from p to len was closed up
pub closed-up : {X : Type 0} (xs ys : List X) (p len : ℕ) → p < len → len ≤ length xs
    → ys ≡ moved_up (take (len - p) (drop p xs))
    → put_mid p (len - p) xs ys ≡ closed_up p len xs
closed-up {X} xs ys p len h l e =
    let k : ℕ = len - p in
    let zs : List X = drop p xs in
    let long : k ≤ length zs = simp length-drop (omega arith) in
    let size : length (take k zs) ≡ k = length-take-le k zs long in
    let front : drop 1 (take k zs) ≡ drop (p + 1) (take len xs) = ap (λ s. drop 1 s) (between_is xs p len) ∙ drop-drop 1 p (take len xs) in
    let one : length (take k zs) - 1 ≤ length (take k zs) = omega arith in
    let back : drop (length (take k zs) - 1) (take k zs) ++ drop k zs ≡ drop (length (take k zs) - 1) zs =
    sym (drop-append-le (length (take k zs) - 1) (take k zs) (drop k zs) one) ∙ ap (drop (length (take k zs) - 1)) (take-append-drop k zs) in
    let place : p + (length (take k zs) - 1) ≡ len - 1 = omega arith in
    let end : drop (length (take k zs) - 1) zs ≡ drop (len - 1) xs = drop-drop (length (take k zs) - 1) p xs ∙ ap (λ n. drop n xs) place in
    ap (λ s. take p xs ++ (s ++ drop k zs)) e
    ∙ ap (λ s. take p xs ++ s) (append_assoc (drop 1 (take k zs)) (drop (length (take k zs) - 1) (take k zs)) (drop k zs))
    ∙ ap (λ s. take p xs ++ (drop 1 (take k zs) ++ s)) (back ∙ end)
    ∙ ap (λ s. take p xs ++ (s ++ drop (len - 1) xs)) front
