-- The families of sets of a group of votes that keeps its rule.
use Rattle.std.specs.Prelude.{◌≡◌, ℕ, ◌+◌, ◌<◌, ◌≤◌, Bool, true, ◌&&◌, ltb, nat_le, nat_lt}
use Rattle.std.proofs.Common.{arith}
use Rattle.std.proofs.lemmas.Bool.{leb-true, le-leb, ltb-true, and_parts, and_from}
use Rattle.parts.specs.declared.sets.TerminalSet.{TerminalSet}
use Rattle.parts.specs.Sets.{Within, Meet, within}
use Rattle.books.specs.declared.votes.VotesGroup.{VotesGroup}
use Rattle.books.specs.Votes.{total, sound, weight, voters, one_of, holds_one}
use Rattle.books.specs.Common.{within-says, says-within, common, common-left, common-right, common-both}
use Rattle.books.specs.Weights.{voters-total, weight-grows, weights-share}

-- what the rule says
pub record Rule (g : VotesGroup) : Type 0 where
  pub reading : g.r ≤ total g.votes
  pub writing : g.w ≤ total g.votes
  pub exceeding : total g.votes < g.r + g.w

pub rule : (g : VotesGroup) → sound g ≡ true → Rule g
rule g h =
    let all = total g.votes in
    let d : Bool = nat_le g.w all && ltb all (g.r + g.w) in
    let c : Bool = nat_le g.r all && d in
    let e = (and_parts (nat_le 1 g.w) c (and_parts (nat_le 1 g.r) (nat_le 1 g.w && c) h).1).1 in
    let f = and_parts (nat_le g.r all) d e in
    let i = and_parts (nat_le g.w all) (nat_lt all (g.r + g.w)) f.1 in
    record { reading = leb-true _ _ f.0; writing = leb-true _ _ i.0; exceeding = ltb-true _ _ i.1 }

-- one of the family has the votes that are needed
enough : (needed : VotesGroup → ℕ) (g : VotesGroup) (q : TerminalSet) → one_of needed g q ≡ true → needed g ≤ weight g.votes q
enough needed g q h = leb-true _ _ (and_parts (within q (voters g.votes)) (nat_le (needed g) (weight g.votes q)) h).1

-- where the answer is yes, there is one of the family within the set
pub found : (needed : VotesGroup → ℕ) (g : VotesGroup) (s : TerminalSet) → holds_one needed g s ≡ true → (q : TerminalSet) × (one_of needed g q ≡ true) × Within q s
found needed g s h =
    let m = voters g.votes in
    let q = common s m in
    let more = weight-grows g.votes s q (common-both s m) in
    let enough = le-leb (needed g) (weight g.votes q) (omega (arith, leb-true _ _ h)) in
    (q, and_from _ _ (says-within q m (common-right s m)) enough, common-left s m)

-- and where there is, the answer is yes
pub given : (needed : VotesGroup → ℕ) (g : VotesGroup) (q s : TerminalSet) → one_of needed g q ≡ true → Within q s → holds_one needed g s ≡ true
given needed g q s h f =
    let more = weight-grows g.votes q s (λ k e _. f (record { 0 = k }) e) in
    le-leb _ _ (omega (arith, enough needed g q h))

-- each of the family lies within the members
pub inside : (needed : VotesGroup → ℕ) (g : VotesGroup) (q : TerminalSet) → one_of needed g q ≡ true → Within q (voters g.votes)
inside needed g q h = within-says q (voters g.votes) (and_parts _ _ h).0

-- the members are one of the family
pub whole : (needed : VotesGroup → ℕ) (g : VotesGroup) → needed g ≤ total g.votes → one_of needed g (voters g.votes) ≡ true
whole needed g h =
    let m = voters g.votes in
    and_from _ _ (says-within m m (λ t e. e)) (le-leb _ _ (omega (arith, voters-total g.votes)))

pub some : (g : VotesGroup) → sound g ≡ true →
    ((q : TerminalSet) × (one_of (λ g. g.r) g q ≡ true)) × ((q : TerminalSet) × (one_of (λ g. g.w) g q ≡ true))
some g k =
    let m = voters g.votes in
    ((m, whole (λ g. g.r) g (rule g k).reading), (m, whole (λ g. g.w) g (rule g k).writing))

-- every read set and every write set share a terminal
pub meet : (g : VotesGroup) → sound g ≡ true → (p q : TerminalSet) → one_of (λ g. g.r) g p ≡ true → one_of (λ g. g.w) g q ≡ true → Meet p q
meet g k p q h l =
    let e = (rule g k).exceeding in
    weights-share g.votes p q (omega (arith, enough (λ g. g.r) g p h, enough (λ g. g.w) g q l))
