-- The order of stamps (tags).
use Rattle.std.proofs.Common.{◌≡◌, ℕ, ◌+◌, ◌<◌, ◌≤◌, true, false, cond, ◌⊎◌, refl, ap, subst, inl, inr, arith}
use Rattle.std.proofs.lemmas.Bool.{cond_both}
use Rattle.std.proofs.lemmas.Bool.Decides.{nat_tests}
use Rattle.parts.specs.declared.stamps.Stamp.{Stamp}
use Rattle.parts.specs.Stamps.{below}
use Rattle.replica.specs.Replicas.{stamp_of}
use Rattle.invariants.proofs.Sets.{terminal}

-- a is b or smaller
pub data Le (a b : Stamp) : Type 0 where
  le-count : a.count < b.count → Le a b
  le-terminal : a.count ≡ b.count → a.terminal.0 ≤ b.terminal.0 → Le a b

-- a is smaller than b
pub data Lt (a b : Stamp) : Type 0 where
  lt-count : a.count < b.count → Lt a b
  lt-terminal : a.count ≡ b.count → a.terminal.0 < b.terminal.0 → Lt a b

pub le_same : (a : Stamp) → Le a a
le_same a = le-terminal refl (omega arith)

pub le-eq : {a b : Stamp} → a ≡ b → Le a b
le-eq {a} {b} e = subst (λ x. Le a x) e (le_same a)

pub le_then : {a b c : Stamp} → Le a b → Le b c → Le a c
le_then (le-count p) (le-count q) = le-count (omega arith)
le_then (le-count p) (le-terminal q r) = le-count (omega arith)
le_then (le-terminal p q) (le-count r) = le-count (omega arith)
le_then (le-terminal p q) (le-terminal r v) = le-terminal (omega arith) (omega arith)

le_from : (a b : Stamp) → (a.count < b.count) ⊎ ((a.count ≡ b.count) × (a.terminal.0 ≤ b.terminal.0)) → Le a b
le_from a b (inl p) = le-count p
le_from a b (inr p) = le-terminal p.0 p.1

-- the larger of two is at least each of them
pub larger-left : (a b : Stamp) → Le a (cond (below a b) b a)
larger-left a b = cond_both (below a b) b a (λ x. Le a x) (λ e. le_from a b (grind (arith, nat_tests))) (λ e. le_same _)

pub larger-right : (a b : Stamp) → Le b (cond (below a b) b a)
larger-right a b = cond_both (below a b) b a (λ x. Le b x) (λ e. le_same _) (λ e. le_from b a (grind (arith, nat_tests)))

-- a write's stamp is above what it follows
pub le_next : (a b : Stamp) (i : ℕ) → Le a b → Lt a (stamp_of (b.count + 1) (terminal i))
le_next a b i (le-count p) = lt-count (omega arith)
le_next a b i (le-terminal p q) = lt-count (omega arith)

pub lt-le : {a b : Stamp} → Lt a b → Le a b
lt-le (lt-count p) = le-count p
lt-le (lt-terminal p q) = le-terminal p (omega arith)

pub lt-not-eq : {a b : Stamp} → Lt a b → a ≡ b → ⊥
lt-not-eq (lt-count p) e = let q = ap (λ (x : Stamp). x.count) e in omega arith
lt-not-eq (lt-terminal r p) e = let q = ap (λ (x : Stamp). x.terminal.0) e in omega arith

-- the orders, as the test says them
pub not-below : {a b : Stamp} → Le a b → below b a ≡ false
not-below (le-count p) = grind (arith, nat_tests)
not-below (le-terminal p q) = grind (arith, nat_tests)

pub is_below : {a b : Stamp} → Lt a b → below a b ≡ true
is_below (lt-count p) = grind (arith, nat_tests)
is_below (lt-terminal p q) = grind (arith, nat_tests)
