-- numbers of two bytes and their bytes, there and back
use Rattle.std.specs.Prelude.{◌≡◌, ℕ, zero, suc, ◌+◌, ◌*◌, ◌<◌, List, [], ◌∷◌, length, drop, slice_index_or}
use Rattle.std.proofs.Common.{sym, ap, ◌∙◌, arith}
use Rattle.std.proofs.lemmas.List.{drop_more, drop_all}
use Rattle.std.proofs.ByRecursion.{All-get_or}
use Rattle.cards.specs.Words.{low, high, words_bytes, word_at, Bytes}

-- two bytes are the bytes of their number
pub low-back : (a b : ℕ) → a < 256 → low (a + 256 * b) ≡ a
low-back a b h = omega arith

pub high-back : (a b : ℕ) → a < 256 → high (a + 256 * b) ≡ b
high-back a b h = omega arith

-- n numbers from place k on
abbrev pub words : ℕ → ℕ → List ℕ → List ℕ
words zero k xs = []
words (suc n) k xs = word_at xs k ∷ words n (k + 2) xs

-- bytes that are read as n numbers are the bytes of these
pub words_back : (n k : ℕ) (xs : List ℕ) → Bytes xs → length xs ≡ k + 2 * n → words_bytes (words n k xs) ≡ drop k xs
words_back zero k xs h l = sym (drop_all k xs (omega arith))
words_back (suc n) k xs h l =
    let a = slice_index_or xs k 0 in
    let b = slice_index_or xs (k + 1) 0 in
    let a_byte : a < 256 = All-get_or (λ x. x < 256) xs k 0 (omega arith) h in
    let rest : words_bytes (words n (k + 2) xs) ≡ drop (k + 2) xs = words_back n (k + 2) xs h (omega arith) in
    let s : k + 1 + 1 ≡ k + 2 = omega arith in
    let two : drop (k + 1) xs ≡ b ∷ drop (k + 2) xs = drop_more xs (k + 1) 0 (omega arith) ∙ ap (λ (m : ℕ). b ∷ drop m xs) s in
    let one : drop k xs ≡ a ∷ b ∷ drop (k + 2) xs = drop_more xs k 0 (omega arith) ∙ ap (λ (ys : List ℕ). a ∷ ys) two in
    ap (λ (x : ℕ). x ∷ high (a + 256 * b) ∷ words_bytes (words n (k + 2) xs)) (low-back a b a_byte)
    ∙ (ap (λ (x : ℕ). a ∷ x ∷ words_bytes (words n (k + 2) xs)) (high-back a b a_byte)
    ∙ (ap (λ (ys : List ℕ). a ∷ b ∷ ys) rest ∙ sym one))
