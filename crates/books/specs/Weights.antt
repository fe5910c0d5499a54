-- Votes of sets, over any number of terminals.
use Rattle.std.specs.Prelude.{◌≡◌, ℕ, ◌+◌, ◌^◌, ◌<◌, ◌≤◌, Bool, true, false, cond, ◌⊎◌, List, [], ◌∷◌, nat_le, refl}
use Rattle.std.proofs.Common.{ap, ◌∙◌, inl, inr, ⊎_elim, arith}
use Rattle.std.proofs.lemmas.Bool.{le-leb, cases_lt, cond_both}
use Rattle.parts.specs.declared.sets.TerminalSet.{TerminalSet}
use Rattle.parts.specs.Sets.{bit_of, of_bits, nobody, union, Meet}
use Rattle.books.specs.Votes.{total, weight_from, weight, voters_from, voters}
use Rattle.books.specs.Common.{joined-has, joined_keeps}

-- every terminal with a vote is in the set, where the list begins with the votes of terminal t
abbrev pub Covers : ℕ → List ℕ → TerminalSet → Type 0
Covers t [] s = Unit {0}
Covers t (v ∷ votes) s = (1 ≤ v → bit_of s.bits t ≡ true) × Covers (t + 1) votes s

added-keeps : (v t : ℕ) (s : TerminalSet) (k : ℕ) → bit_of s.bits k ≡ true → bit_of (cond (nat_le 1 v) (union s (of_bits (2 ^ t))) s).bits k ≡ true
added-keeps v t s k h =
    cond_both (nat_le 1 v) (union s (of_bits (2 ^ t))) s (λ z. bit_of z.bits k ≡ true) (λ _. joined_keeps s (of_bits (2 ^ t)) k h) (λ _. h)

added-has : (v t : ℕ) (s : TerminalSet) → 1 ≤ v → bit_of (cond (nat_le 1 v) (union s (of_bits (2 ^ t))) s).bits t ≡ true
added-has v t s h = ap (λ b. bit_of (cond b (union s (of_bits (2 ^ t))) s).bits t) (le-leb 1 v h) ∙ joined-has s t

voters-keep : (votes : List ℕ) (t : ℕ) (s : TerminalSet) (k : ℕ) → bit_of s.bits k ≡ true → bit_of (voters_from t votes s).bits k ≡ true
voters-keep [] t s k h = h
voters-keep (v ∷ votes) t s k h = voters-keep votes (t + 1) (cond (nat_le 1 v) (union s (of_bits (2 ^ t))) s) k (added-keeps v t s k h)

voters-covered : (votes : List ℕ) (t : ℕ) (s : TerminalSet) → Covers t votes (voters_from t votes s)
voters-covered [] t s = tt
voters-covered (v ∷ votes) t s =
    let s' : TerminalSet = cond (nat_le 1 v) (union s (of_bits (2 ^ t))) s in
    (λ h. voters-keep votes (t + 1) s' t (added-has v t s h), voters-covered votes (t + 1) s')

-- the voters have all votes
total-covered : (votes : List ℕ) (t : ℕ) (s : TerminalSet) → Covers t votes s → total votes ≤ weight_from t votes s
total-covered [] t s c = omega arith
total-covered (v ∷ votes) t s (f, c) =
    let rest : total votes ≤ weight_from (t + 1) votes s = total-covered votes (t + 1) s c in
    let head : v ≤ cond (bit_of s.bits t) v 0 = ⊎_elim (λ (h : v < 1). omega arith) (λ (h : 1 ≤ v). rw (f h) (omega arith)) (cases_lt v 1) in
    omega arith

pub voters-total : (votes : List ℕ) → total votes ≤ weight votes (voters votes)
voters-total votes = total-covered votes 0 (voters votes) (voters-covered votes 0 nobody)

head-grows : (v : ℕ) (x y : Bool) → (1 ≤ v → x ≡ true → y ≡ true) → cond x v 0 ≤ cond y v 0
head-grows v x true f = cond_both x v 0 (λ n. n ≤ v) (λ _. omega arith) (λ _. omega arith)
head-grows v false false f = omega arith
head-grows v true false f =
    ⊎_elim (λ (h : v < 1). omega arith) (λ (h : 1 ≤ v). absurd (let e = f h refl in let z : ◌≡◌ {A = ℕ} 0 1 = cc in omega arith)) (cases_lt v 1)

-- a set has at least the votes of another if it has the voters among that one's terminals
grows : (votes : List ℕ) (t : ℕ) (m s q : TerminalSet) →
    Covers t votes m → ((k : ℕ) → bit_of s.bits k ≡ true → bit_of m.bits k ≡ true → bit_of q.bits k ≡ true) →
    weight_from t votes s ≤ weight_from t votes q
grows [] t m s q c f = omega arith
grows (v ∷ votes) t m s q (h, c) f =
    let rest : weight_from (t + 1) votes s ≤ weight_from (t + 1) votes q = grows votes (t + 1) m s q c f in
    let head = head-grows v (bit_of s.bits t) (bit_of q.bits t) (λ l e. f t e (h l)) in
    omega arith

pub weight-grows : (votes : List ℕ) (s q : TerminalSet) →
    ((k : ℕ) → bit_of s.bits k ≡ true → bit_of (voters votes).bits k ≡ true → bit_of q.bits k ≡ true) → weight votes s ≤ weight votes q
weight-grows votes s q f = grows votes 0 (voters votes) s q (voters-covered votes 0 nobody) f

both-or-less : (x y : Bool) (v n a b : ℕ) → v + n < (cond x v 0 + a) + (cond y v 0 + b) → ((x ≡ true) × (y ≡ true)) ⊎ (n < a + b)
both-or-less true true v n a b h = inl (refl, refl)
both-or-less true false v n a b h = inr (omega arith)
both-or-less false true v n a b h = inr (omega arith)
both-or-less false false v n a b h = inr (omega arith)

-- two sets whose votes exceed all votes share a terminal
share : (votes : List ℕ) (t : ℕ) (p q : TerminalSet) → total votes < weight_from t votes p + weight_from t votes q → Meet p q
share [] t p q h = absurd (omega arith)
share (v ∷ votes) t p q h =
    ⊎_elim
    (λ e. (record { 0 = t }, e.0, e.1))
    (λ l. share votes (t + 1) p q l)
    (both-or-less (bit_of p.bits t) (bit_of q.bits t) v (total votes) (weight_from (t + 1) votes p) (weight_from (t + 1) votes q) h)

pub weights-share : (votes : List ℕ) (p q : TerminalSet) → total votes < weight votes p + weight votes q → Meet p q
weights-share votes p q h = share votes 0 p q h
