-- A call as bytes: its letter, its two numbers, and behind them the card of a write.
use Rattle.std.specs.Prelude.{ℕ, ◌+◌, Bool, cond, ◌&&◌, List, [], ◌∷◌, length, take, Some, None, Option, ◌==◌, nat_le, nat_lt}
use Rattle.parts.specs.declared.counts.Group.{Group}
use Rattle.parts.specs.declared.counts.Place.{Place}
use Rattle.parts.specs.declared.counts.Terminal.{Terminal}
use Rattle.parts.specs.declared.calls.Call.{Call}
use Rattle.parts.specs.declared.calls.Call.TheVariants.{Enter, Knock, Send, Deliver, Lose, Crash, Read, Write, Settle, Confirm, Collect, Appoint, Tell, Retire, RetireSettle, RetireConfirm, RetireClose}
use Rattle.callfile.specs.Limits.{call_width, largest}

-- the letters, each by its code
abbrev pub letter_e : ℕ
letter_e = 69

abbrev pub letter_k : ℕ
letter_k = 75

abbrev pub letter_s : ℕ
letter_s = 83

abbrev pub letter_d : ℕ
letter_d = 68

abbrev pub letter_l : ℕ
letter_l = 76

abbrev pub letter_x : ℕ
letter_x = 88

abbrev pub letter_r : ℕ
letter_r = 82

abbrev pub letter_w : ℕ
letter_w = 87

abbrev pub letter_q : ℕ
letter_q = 81

abbrev pub letter_p : ℕ
letter_p = 80

abbrev pub letter_a : ℕ
letter_a = 65

abbrev pub letter_n : ℕ
letter_n = 78

abbrev pub letter_t : ℕ
letter_t = 84

abbrev pub letter_g : ℕ
letter_g = 71

abbrev pub letter_h : ℕ
letter_h = 72

abbrev pub letter_j : ℕ
letter_j = 74

abbrev pub letter_z : ℕ
letter_z = 90

-- terminal i, group c, place k
abbrev pub terminal : ℕ → Terminal
terminal i = record { 0 = i }

abbrev pub group : ℕ → Group
group c = record { 0 = c }

abbrev pub place : ℕ → Place
place k = record { 0 = k }

-- a call spelled out: plain, or with a card behind
pub data Spelled (C : Type 0) : Type 0 where
  plain : (letter first second : ℕ) → Spelled C
  carrying : (letter first second : ℕ) → C → Spelled C

-- the letter and the numbers of each call; a number that is not used is 0
abbrev pub spelled : {C : Type 0} → Call C → Spelled C
spelled (Enter i) = plain letter_e i.0 0
spelled (Knock i j) = plain letter_k i.0 j.0
spelled (Send i j) = plain letter_s i.0 j.0
spelled (Deliver p) = plain letter_d p 0
spelled (Lose p) = plain letter_l p 0
spelled (Crash i) = plain letter_x i.0 0
spelled (Read i) = plain letter_r i.0 0
spelled (Write i c) = carrying letter_w i.0 0 c
spelled (Settle i) = plain letter_q i.0 0
spelled (Confirm i) = plain letter_p i.0 0
spelled (Collect i) = plain letter_a i.0 0
spelled (Appoint c) = plain letter_n c.0 0
spelled (Tell i k) = plain letter_t i.0 k.0
spelled (Retire i k) = plain letter_g i.0 k.0
spelled (RetireSettle i) = plain letter_h i.0 0
spelled (RetireConfirm i) = plain letter_j i.0 0
spelled (RetireClose i) = plain letter_z i.0 0

-- the letter and the two numbers alone
abbrev pub letters_of : {C : Type 0} → Spelled C → ℕ × ℕ × ℕ
letters_of (plain l x y) = (l, x, y)
letters_of (carrying l x y c) = (l, x, y)

abbrev pub spelling_of : {C : Type 0} → Call C → ℕ × ℕ × ℕ
spelling_of c = letters_of (spelled c)

-- the numbers of a call fit a byte each
abbrev pub narrow : {C : Type 0} → Call C → Bool
narrow c = nat_le (spelling_of c).1 largest && nat_le (spelling_of c).2 largest

-- a call that leaves its second number at 0
abbrev pub alone : {C : Type 0} → (second : ℕ) → Call C → Option (Call C)
alone b c = cond (b == 0) (Some c) None

-- the call without a card that a letter and two numbers spell; no other letter has one
abbrev pub short_of : {C : Type 0} → (letter first second : ℕ) → Option (Call C)
short_of l a b =
    cond (l == letter_e) (alone b (Enter (terminal a)))
    (cond (l == letter_k) (Some (Knock (terminal a) (terminal b)))
    (cond (l == letter_s) (Some (Send (terminal a) (terminal b)))
    (cond (l == letter_d) (alone b (Deliver a))
    (cond (l == letter_l) (alone b (Lose a))
    (cond (l == letter_x) (alone b (Crash (terminal a)))
    (cond (l == letter_r) (alone b (Read (terminal a)))
    (cond (l == letter_q) (alone b (Settle (terminal a)))
    (cond (l == letter_p) (alone b (Confirm (terminal a)))
    (cond (l == letter_a) (alone b (Collect (terminal a)))
    (cond (l == letter_n) (alone b (Appoint (group a)))
    (cond (l == letter_t) (Some (Tell (terminal a) (place b)))
    (cond (l == letter_g) (Some (Retire (terminal a) (place b)))
    (cond (l == letter_h) (alone b (RetireSettle (terminal a)))
    (cond (l == letter_j) (alone b (RetireConfirm (terminal a)))
    (cond (l == letter_z) (alone b (RetireClose (terminal a)))
    None)))))))))))))))

-- how many bytes a call takes, where a card takes `span`
abbrev pub spelled_size : {C : Type 0} → (span : ℕ) → Spelled C → ℕ
spelled_size span (plain l x y) = call_width
spelled_size span (carrying l x y c) = call_width + span

abbrev pub size_of : {C : Type 0} → (span : ℕ) → Call C → ℕ
size_of span c = spelled_size span (spelled c)

-- a call as the file has it: short, or long with the bytes of its card
pub data Parts : Type 0 where
  short : (letter first second : ℕ) → Parts
  long : (letter first second : ℕ) → List ℕ → Parts

-- the call at the front, where a card takes `width` bytes; nothing where it is cut off
abbrev pub split_of : (width : ℕ) → List ℕ → Option Parts
split_of w [] = None
split_of w (a ∷ []) = None
split_of w (a ∷ (b ∷ [])) = None
split_of w (a ∷ (b ∷ (c ∷ rest))) =
    cond (a == letter_w) (cond (nat_lt (length rest) w) None (Some (long a b c (take w rest)))) (Some (short a b c))
