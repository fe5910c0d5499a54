-- Groups of listed sets: each read set and each write set is written out. A slot with the empty set lists none.
use Rattle.std.specs.Prelude.{Bool, not, ◌&&◌, List, length, replicate, filter, ◌==◌, bit_and, nat_eq, nat_lt}
use Rattle.std.specs.List.{list_any, list_all}
use Rattle.parts.specs.declared.sets.TerminalSet.{TerminalSet}
use Rattle.parts.specs.Sets.{nobody, within}
use Rattle.books.specs.declared.sets.SetsGroup.{SetsGroup}
use Rattle.books.specs.Books.{most_sets}

-- a slot lists a set if the set has a terminal
abbrev pub there : TerminalSet → Bool
there s = not (s.bits == 0)

-- the family of sets that some slots list
abbrev pub family : List TerminalSet → List TerminalSet
family slots = filter there slots

-- two sets share a terminal
abbrev pub share : TerminalSet → TerminalSet → Bool
share p q = not (bit_and p.bits q.bits == 0)

-- a family that is not empty and whose sets lie within the members
abbrev pub family_within : (members : TerminalSet) → List TerminalSet → Bool
family_within m sets = nat_lt 0 (length sets) && list_all (λ q. within q m) sets

-- each set of one family shares a terminal with each of the other
abbrev pub families_meet : List TerminalSet → List TerminalSet → Bool
families_meet ps qs = list_all (λ p. list_all (λ q. share p q) qs) ps

-- the rule of a group: both families have a set, all their sets lie within the members, and every read set meets every write set
abbrev pub sound : SetsGroup → Bool
sound g =
    family_within g.members (family g.reads) && (family_within g.members (family g.writes) && families_meet (family g.reads) (family g.writes))

-- an entry of the table that no group has yet
abbrev pub blank : SetsGroup
blank = record { members = nobody; reads = replicate most_sets nobody; writes = replicate most_sets nobody }

-- a set is one of a group's family if a slot lists it
abbrev pub one_of : (SetsGroup → List TerminalSet) → SetsGroup → TerminalSet → Bool
one_of slots g q = list_any (λ p. nat_eq p.bits q.bits) (family (slots g))

-- a set contains one of the family
abbrev pub holds_one : (SetsGroup → List TerminalSet) → SetsGroup → TerminalSet → Bool
holds_one slots g s = list_any (λ q. within q s) (family (slots g))
