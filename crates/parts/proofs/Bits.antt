-- The bits of a number, as tests.
use Rattle.std.proofs.Common.{◌≡◌, ℕ, suc, ◌/◌, ◌^◌, ◌<◌, ◌≤◌, Bool, true, false, ◌||◌, eqb, sym, refl, ap, ◌∙◌, max, arith}
use lib.Bits.{bit_or}
use Rattle.std.specs.Int.{bit_at}
use Rattle.std.proofs.lemmas.Nat.{or_lt}
use Rattle.std.proofs.lemmas.Nat.Bits.{bit_at_or, bit_at-lt, bit_at-suc, bit_at-pow_same, bit_at-pow_other, bit_at_above, same_from_bits_below}
use Rattle.parts.specs.Sets.{bit_of}

one_bit : (x y : ℕ) → x < 2 → y < 2 → eqb (max x y) 1 ≡ (eqb x 1 || eqb y 1)
one_bit x y h l = grind arith

pub bit-or : (a b k : ℕ) → bit_of (bit_or a b) k ≡ (bit_of a k || bit_of b k)
bit-or a b k = ap (λ n. eqb n 1) (bit_at_or a b k) ∙ one_bit (bit_at a k) (bit_at b k) (bit_at-lt a k) (bit_at-lt b k)

-- a bit further up is that bit of the half
pub bit-suc : (a k : ℕ) → bit_of a (suc k) ≡ bit_of (a / 2) k
bit-suc a k = ap (λ n. eqb n 1) (bit_at-suc a k)

pub bit-one : (t k : ℕ) → bit_of (2 ^ t) k ≡ eqb k t
bit-one t k = let same = bit_at-pow_same t in let other = bit_at-pow_other t k in grind arith

same_digit : (x y : ℕ) → x < 2 → y < 2 → eqb x 1 ≡ eqb y 1 → x ≡ y
same_digit x y h l e = grind arith

-- numbers of n bits with the same bits are the same
bits-same : (n a b : ℕ) → a < 2 ^ n → b < 2 ^ n → ((k : ℕ) → k < n → bit_of a k ≡ bit_of b k) → a ≡ b
bits-same n a b h l f = same_from_bits_below n a b h l (λ k d. same_digit (bit_at a k) (bit_at b k) (bit_at-lt a k) (bit_at-lt b k) (f k d))

-- a number of n bits has none from n on
pub bit_past : (n a k : ℕ) → a < 2 ^ n → n ≤ k → bit_of a k ≡ false
bit_past n a k h l = ap (λ m. eqb m 1) (bit_at_above a n k h l)

or-both : (p q : Bool) → (p ≡ true → q ≡ true) → (p || q) ≡ q
or-both true true h = refl
or-both true false h = sym (h refl)
or-both false q h = refl

-- where each bit of a is one of b, a adds nothing to b
pub nothing-added : (n a b : ℕ) → a < 2 ^ n → b < 2 ^ n → ((k : ℕ) → bit_of a k ≡ true → bit_of b k ≡ true) → bit_or a b ≡ b
nothing-added n a b ha hb f = bits-same n (bit_or a b) b (or_lt n a b ha hb) hb (λ k h. bit-or a b k ∙ or-both (bit_of a k) (bit_of b k) (f k))

or-true : (p q : Bool) → p ≡ true → (p || q) ≡ true
or-true p q e = rw e refl

-- and the other way round
pub each-bit : (a b : ℕ) → bit_or a b ≡ b → (k : ℕ) → bit_of a k ≡ true → bit_of b k ≡ true
each-bit a b e k h = ap (λ n. bit_of n k) (sym e) ∙ bit-or a b k ∙ or-true (bit_of a k) (bit_of b k) h
