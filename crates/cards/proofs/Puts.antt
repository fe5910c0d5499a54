-- numbers written one behind the other
use Rattle.std.proofs.Common.{◌≡◌, ℕ, ◌+◌, ◌-◌, ◌*◌, ◌/◌, ◌%◌, ◌^◌, ◌<◌, List, [], ◌∷◌, ◌++◌, length, take, drop, slice_index, sym, refl, ap, ◌∙◌, arith, append_assoc}
use borrow.Rule.Slice.PartMut.{put_mid}
use Rattle.std.proofs.lemmas.List.{take_at, drop_at, drop-drop, take_more, length-take-le}
use Rattle.std.specs.Int.{w16, to_le_bytes}
use Rattle.cards.specs.Words.{low, high, words_bytes}

pub length_words_bytes : (ws : List ℕ) → length (words_bytes ws) ≡ 2 * length ws
length_words_bytes [] = refl
length_words_bytes (w ∷ ws) = let h = length_words_bytes ws in omega arith

words_bytes-append : (vs ws : List ℕ) → words_bytes (vs ++ ws) ≡ words_bytes vs ++ words_bytes ws
words_bytes-append [] ws = refl
words_bytes-append (v ∷ vs) ws = ap (λ (xs : List ℕ). low v ∷ high v ∷ xs) (words_bytes-append vs ws)

-- what stands in front grows by the piece that is written behind it
pub put_next :
    (front piece before out : List ℕ) (k m : ℕ) → length front ≡ k → out ≡ front ++ drop k before → put_mid k (k + m - k) out piece ≡ (front ++ piece) ++ drop (k + m) before
put_next front piece before out k m n e =
    let t : take k out ≡ front = ap (take k) e ∙ take_at front (drop k before) k n in
    let d : drop k out ≡ drop k before = ap (drop k) e ∙ drop_at front (drop k before) k n in
    let s : k + (k + m - k) ≡ k + m = omega arith in
    let r : drop (k + m - k) (drop k out) ≡ drop (k + m) before = ap (drop (k + m - k)) d ∙ (drop-drop (k + m - k) k before ∙ ap (λ (i : ℕ). drop i before) s) in
    let a : put_mid k (k + m - k) out piece ≡ front ++ (piece ++ drop (k + m) before) = cc in
    a ∙ sym (append_assoc front piece (drop (k + m) before))

-- the numbers before place i stand in front, and the next one is written behind them
pub put_again :
    (ws before out pair : List ℕ) (i : ℕ) → i < length ws → length before ≡ 2 * length ws → out ≡ words_bytes (take i ws) ++ drop (2 * i) before →
    pair ≡ low (slice_index ws i) ∷ high (slice_index ws i) ∷ [] → put_mid (2 * i) (2 * i + 2 - 2 * i) out pair ≡ words_bytes (take (i + 1) ws) ++ drop (2 * (i + 1)) before
put_again ws before out pair i h l e p =
    let front = words_bytes (take i ws) in
    let n : length front ≡ 2 * i = length_words_bytes (take i ws) ∙ (let t = length-take-le i ws (omega arith) in omega arith) in
    let m : words_bytes (take (i + 1) ws) ≡ front ++ pair = ap words_bytes (take_more ws i 0 h) ∙ (words_bytes-append (take i ws) (slice_index ws i ∷ []) ∙ ap (λ (xs : List ℕ). front ++ xs) (sym p)) in
    let s : 2 * i + 2 ≡ 2 * (i + 1) = omega arith in
    put_next front pair before out (2 * i) 2 n e ∙ (ap (λ (xs : List ℕ). xs ++ drop (2 * i + 2) before) (sym m) ∙ ap (λ (k : ℕ). words_bytes (take (i + 1) ws) ++ drop k before) s)

-- the two bytes of a number
pub two_bytes : (n : ℕ) → n < 2 ^ 16 → to_le_bytes w16 n ≡ words_bytes (n ∷ [])
two_bytes n h = let m : n / 256 ^ 1 % 256 ≡ n / 256 = omega arith in ap (λ (x : ℕ). n % 256 ∷ x ∷ []) m
