-- A group of listed sets as an entry: its members, its read sets and its write sets, each a number of two bytes in which bit t is terminal t, and two bytes that are 0.
use Rattle.std.specs.Prelude.{ℕ, zero, suc, ◌+◌, Bool, cond, ◌&&◌, List, [], ◌∷◌, ◌++◌, map, length, Some, None, Option, ◌==◌}
use Rattle.parts.specs.declared.sets.TerminalSet.{TerminalSet}
use Rattle.parts.specs.Sets.{of_bits}
use Rattle.cards.specs.Words.{word_at, words_bytes}
use Rattle.books.specs.declared.sets.SetsGroup.{SetsGroup}
use Rattle.books.specs.Books.{most_sets}
use Rattle.books.specs.Sets.{sound}
use Rattle.callfile.specs.Limits.{entry_width}

-- the number of the kind of book in a file
abbrev pub sets_kind : ℕ
sets_kind = 2

-- how many bytes a set has
abbrev pub set_width : ℕ
set_width = 2

-- the byte of an entry where the members stand, the first read set, the first write set, and the two bytes that are 0
abbrev pub members_at : ℕ
members_at = 0

abbrev pub reads_at : ℕ
reads_at = 2

abbrev pub writes_at : ℕ
writes_at = 10

abbrev pub zeros_at : ℕ
zeros_at = 18

-- a group with all its slots that keeps its rule
abbrev pub sets_kept : SetsGroup → Bool
sets_kept g = (length g.reads == most_sets && length g.writes == most_sets) && sound g

-- the bits of sets
abbrev pub bits_of : List TerminalSet → List ℕ
bits_of sets = map (λ s. s.bits) sets

-- sets one behind the other; a slot without a set is 0
abbrev pub slot_bytes : List TerminalSet → List ℕ
slot_bytes sets = words_bytes (bits_of sets)

-- a group is written as its members, its read sets, its write sets and two bytes that are 0
abbrev pub sets_bytes : SetsGroup → List ℕ
sets_bytes g = slot_bytes (g.members ∷ []) ++ (slot_bytes g.reads ++ (slot_bytes g.writes ++ (0 ∷ 0 ∷ [])))

-- n sets, of which the first stands at byte k
abbrev pub slots_from : ℕ → ℕ → List ℕ → List TerminalSet
slots_from zero k xs = []
slots_from (suc n) k xs = of_bits (word_at xs k) ∷ slots_from n (k + set_width) xs

-- the group that bytes stand for, whether it keeps its rule or not
abbrev pub sets_in : List ℕ → SetsGroup
sets_in xs = record { members = of_bits (word_at xs members_at); reads = slots_from most_sets reads_at xs; writes = slots_from most_sets writes_at xs }

-- bytes have the form of an entry if they are as many as an entry has and the last two are 0
abbrev pub sets_form : List ℕ → Bool
sets_form xs = length xs == entry_width && word_at xs zeros_at == 0

-- the group that bytes with the form of an entry stand for
abbrev pub sets_read : List ℕ → Option SetsGroup
sets_read xs = cond (sets_form xs) (Some (sets_in xs)) None

-- bytes are a group if they have the form of an entry and the rule is kept
abbrev pub sets_of : List ℕ → Option SetsGroup
sets_of xs = cond (sets_form xs && sound (sets_in xs)) (Some (sets_in xs)) None
