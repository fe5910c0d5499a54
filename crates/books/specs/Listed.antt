-- The families of sets of a group of listed sets that keeps its rule.
use Rattle.std.specs.Prelude.{◌≡◌, ℕ, Bool, true, ◌&&◌, List, [], ◌∷◌, length, ◌==◌, nat_lt, refl}
use Rattle.std.specs.List.{list_any, list_all}
use Rattle.std.proofs.Common.{sym, ap, ◌∙◌, ⊎_elim, arith}
use Rattle.std.proofs.lemmas.Bool.{eqb-true, eq-eqb, ltb-true, and_parts, or_cases, or_left, or_right}
use Rattle.parts.specs.declared.sets.TerminalSet.{TerminalSet}
use Rattle.parts.specs.Sets.{of_bits, within, Within, Meet}
use Rattle.books.specs.declared.sets.SetsGroup.{SetsGroup}
use Rattle.books.specs.Sets.{family, share, family_within, families_meet, sound, one_of, holds_one}
use Rattle.books.specs.Common.{within-says, says-within, share-says}

abbrev same : TerminalSet → TerminalSet → Bool
same q p = p.bits == q.bits

same_set : (p q : TerminalSet) → same q p ≡ true → p ≡ q
same_set p q e = ap of_bits (eqb-true _ _ e)

-- a set of which each passes the test passes it
one_passes : (test : TerminalSet → Bool) (sets : List TerminalSet) (q : TerminalSet) → list_all test sets ≡ true → list_any (same q) sets ≡ true → test q ≡ true
one_passes test [] q h l = absurd (let z : ◌≡◌ {A = ℕ} 0 1 = cc in omega arith)
one_passes test (p ∷ sets) q h l =
    let both = and_parts (test p) (list_all test sets) h in
    ⊎_elim
    (λ e. ap test (sym (same_set p q e)) ∙ both.0)
    (λ e. one_passes test sets q both.1 e)
    (or_cases (same q p) (list_any (same q) sets) l)

found_in : (sets : List TerminalSet) (s : TerminalSet) → list_any (λ q. within q s) sets ≡ true → (q : TerminalSet) × (list_any (same q) sets ≡ true) × Within q s
found_in [] s h = absurd (let z : ◌≡◌ {A = ℕ} 0 1 = cc in omega arith)
found_in (p ∷ sets) s h =
    ⊎_elim
    (λ e. (p, or_left (same p p) (list_any (same p) sets) (eq-eqb _ _ refl), within-says p s e))
    (λ e. let f = found_in sets s e in (f.0, or_right (same f.0 p) (list_any (same f.0) sets) f.1, f.2))
    (or_cases (within p s) (list_any (λ q. within q s) sets) h)

given-in : (sets : List TerminalSet) (q s : TerminalSet) → list_any (same q) sets ≡ true → Within q s → list_any (λ p. within p s) sets ≡ true
given-in [] q s h w = absurd (let z : ◌≡◌ {A = ℕ} 0 1 = cc in omega arith)
given-in (p ∷ sets) q s h w =
    ⊎_elim
    (λ e. or_left (within p s) (list_any (λ p. within p s) sets) (ap (λ p. within p s) (same_set p q e) ∙ says-within q s w))
    (λ e. or_right (within p s) (list_any (λ p. within p s) sets) (given-in sets q s e w))
    (or_cases (same q p) (list_any (same q) sets) h)

some_in : (sets : List TerminalSet) → nat_lt 0 (length sets) ≡ true → (q : TerminalSet) × (list_any (same q) sets ≡ true)
some_in [] h = absurd (omega (arith, ltb-true 0 0 h))
some_in (p ∷ sets) h = (p, or_left (same p p) (list_any (same p) sets) (eq-eqb _ _ refl))

-- what the rule says
record Rule (g : SetsGroup) : Type 0 where
  reading : family_within g.members (family g.reads) ≡ true
  writing : family_within g.members (family g.writes) ≡ true
  meeting : families_meet (family g.reads) (family g.writes) ≡ true

rule : (g : SetsGroup) → sound g ≡ true → Rule g
rule g h =
    let w : Bool = family_within g.members (family g.writes) in
    let m : Bool = families_meet (family g.reads) (family g.writes) in
    let a = and_parts (family_within g.members (family g.reads)) (w && m) h in
    let b = and_parts w m a.1 in
    record { reading = a.0; writing = b.0; meeting = b.1 }

-- where the answer is yes, there is one of the family within the set
pub found : (slots : SetsGroup → List TerminalSet) (g : SetsGroup) (s : TerminalSet) → holds_one slots g s ≡ true → (q : TerminalSet) × (one_of slots g q ≡ true) × Within q s
found slots g s h = found_in (family (slots g)) s h

-- and where there is, the answer is yes
pub given : (slots : SetsGroup → List TerminalSet) (g : SetsGroup) (q s : TerminalSet) → one_of slots g q ≡ true → Within q s → holds_one slots g s ≡ true
given slots g q s h w = given-in (family (slots g)) q s h w

within-members : (m : TerminalSet) (sets : List TerminalSet) (q : TerminalSet) → family_within m sets ≡ true → list_any (same q) sets ≡ true → Within q m
within-members m sets q h l = within-says q m (one_passes (λ q. within q m) sets q (and_parts _ _ h).1 l)

-- each of the family lies within the members
pub reads-inside : (g : SetsGroup) → sound g ≡ true → (q : TerminalSet) → one_of (λ g. g.reads) g q ≡ true → Within q g.members
reads-inside g k q h = within-members g.members (family g.reads) q (rule g k).reading h

pub writes-inside : (g : SetsGroup) → sound g ≡ true → (q : TerminalSet) → one_of (λ g. g.writes) g q ≡ true → Within q g.members
writes-inside g k q h = within-members g.members (family g.writes) q (rule g k).writing h

pub some : (g : SetsGroup) → sound g ≡ true →
    ((q : TerminalSet) × (one_of (λ g. g.reads) g q ≡ true)) × ((q : TerminalSet) × (one_of (λ g. g.writes) g q ≡ true))
some g k =
    (some_in (family g.reads) (and_parts _ _ (rule g k).reading).0, some_in (family g.writes) (and_parts _ _ (rule g k).writing).0)

-- every read set and every write set share a terminal
pub meet : (g : SetsGroup) → sound g ≡ true → (p q : TerminalSet) → one_of (λ g. g.reads) g p ≡ true → one_of (λ g. g.writes) g q ≡ true → Meet p q
meet g k p q h l =
    let ws = family g.writes in
    let each = one_passes (λ p. list_all (λ q. share p q) ws) (family g.reads) p (rule g k).meeting h in
    share-says p q (one_passes (λ q. share p q) ws q each l)
