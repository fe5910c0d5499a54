-- `ahead` is a strict order, and orders any two operations that were not begun at one position.
use Rattle.std.proofs.Common.{◌≡◌, ℕ, ◌<◌, ◌≤◌, true, false, ◌≢◌, ◌⊎◌, refl, inl, inr, arith}
use Rattle.std.proofs.lemmas.Bool.Decides.{nat_tests}
use Rattle.parts.specs.declared.stamps.Stamp.{Stamp}
use Rattle.parts.specs.Stamps.{below}
use Rattle.replica.specs.declared.operations.Kind.{Kind}
use Rattle.replica.specs.declared.operations.Kind.TheVariants.{Read, Write}
use Rattle.history.specs.Operations.{Operation}
use Rattle.history.specs.Lines.{settled_stamp, sooner, ahead}

-- s is before t, or not, by numbers
abbrev pub Before : Stamp → Stamp → Type 0
Before s t = (s.count < t.count) ⊎ ((s.count ≡ t.count) × (s.terminal.0 < t.terminal.0))

abbrev pub NotBefore : Stamp → Stamp → Type 0
NotBefore s t = (t.count < s.count) ⊎ ((s.count ≡ t.count) × (t.terminal.0 ≤ s.terminal.0))

pub below-tells : (s t : Stamp) → ((below s t ≡ true) × Before s t) ⊎ ((below s t ≡ false) × NotBefore s t)
below-tells s t = grind (arith, nat_tests)

-- writes before reads
abbrev pub rank : {C : Type 0} → Kind C → ℕ
rank Read = 1
rank (Write c) = 0

sooner-tells : {C : Type 0} (k l : Kind C) (m n : ℕ) →
    ((sooner k m l n ≡ true) × ((rank k < rank l) ⊎ ((rank k ≡ rank l) × (m < n)))) ⊎ ((sooner k m l n ≡ false) × ((rank l < rank k) ⊎ ((rank k ≡ rank l) × (n ≤ m))))
sooner-tells Read Read m n = grind (arith, nat_tests)
sooner-tells Read (Write d) m n = inr (refl, inl (omega arith))
sooner-tells (Write c) Read m n = inl (refl, inl (omega arith))
sooner-tells (Write c) (Write d) m n = grind (arith, nat_tests)

-- the order by numbers: the first four that differ decide
abbrev pub By : ℕ → ℕ → Type 0 → Type 0
By m n Rest = (m < n) ⊎ ((m ≡ n) × Rest)

abbrev pub Ranked : {C : Type 0} → Operation C → Operation C → Type 0 → Type 0
Ranked p q Rest =
    By (settled_stamp p).count (settled_stamp q).count (By (settled_stamp p).terminal.0 (settled_stamp q).terminal.0 (By (rank p.kind) (rank q.kind) Rest))

pub ahead-tells : {C : Type 0} (p q : Operation C) →
    ((ahead p q ≡ true) × Ranked p q (p.begun < q.begun)) ⊎ ((ahead p q ≡ false) × Ranked q p (q.begun ≤ p.begun))
unfolding ahead
ahead-tells p q =
    let u = below-tells (settled_stamp p) (settled_stamp q) in
    let v = below-tells (settled_stamp q) (settled_stamp p) in
    let w = sooner-tells p.kind q.kind p.begun q.begun in
    grind arith

pub irrefl : {C : Type 0} (p : Operation C) → ahead p p ≡ false
irrefl p = elim (ahead-tells p p) [ inl h ↦ absurd (omega arith) | inr h ↦ h.0 ]

pub trans : {C : Type 0} (p q r : Operation C) → ahead p q ≡ true → ahead q r ≡ true → ahead p r ≡ true
trans p q r h k = let u = ahead-tells p q in let v = ahead-tells q r in let w = ahead-tells p r in grind arith

pub total : {C : Type 0} (p q : Operation C) → p.begun ≢ q.begun → ahead p q ≡ false → ahead q p ≡ true
total p q ne h = let u = ahead-tells p q in let v = ahead-tells q p in grind arith
