-- The groups of a book's table one behind the other, whatever kind of group it is.
use Rattle.std.specs.Prelude.{Bool, false, cond, List, [], ◌∷◌, ◌++◌, length, take, Some, None, Ok, Err, Option, Result, nat_lt}
use Rattle.std.specs.List.{slice_get}
use Rattle.parts.specs.declared.counts.Group.{Group}
use Rattle.parts.specs.declared.sets.TerminalSet.{TerminalSet}
use Rattle.parts.specs.Sets.{nobody}
use Rattle.books.specs.declared.causes.Cause.{Cause}
use Rattle.books.specs.declared.causes.Cause.TheVariants.{Limit, BadEntry}
use Rattle.books.specs.declared.table.Table.{Table}
use Rattle.books.specs.Books.{table_groups}

-- the groups of a book, in the order in which they were added
abbrev pub booked : {G : Type 0} {kind : _} → Table G kind → List G
booked b = take b.count b.entries

-- group c, if the book has it
abbrev pub group_at : {G : Type 0} {kind : _} → Table G kind → Group → Option G
group_at b c = slice_get (booked b) c.0

-- the members of a group; a group that is lacking has none
abbrev pub members_in : {G : Type 0} → (members : G → TerminalSet) → Option G → TerminalSet
members_in members None = nobody
members_in members (Some g) = members g

-- what a group answers of a set; of a group that is lacking the answer is no
abbrev pub in_group : {G : Type 0} → (answer : G → TerminalSet → Bool) → Option G → TerminalSet → Bool
in_group answer None s = false
in_group answer (Some g) s = answer g s

-- adding a group: 25 if it breaks the rule of its kind, then 23 if the table is full; else it is the next one. Declined, the groups stay
abbrev pub add_step : {G : Type 0} → (rule : G → Bool) → G → List G → Result (Unit {0}) Cause × List G
add_step rule g groups =
    cond (rule g) (cond (nat_lt (length groups) table_groups) (Ok tt, groups ++ (g ∷ [])) (Err Limit, groups)) (Err BadEntry, groups)

-- adding what bytes stand for: 25 if they have not the form of an entry; else as any group is added
abbrev pub add_read : {G : Type 0} → (rule : G → Bool) → Option G → List G → Result (Unit {0}) Cause × List G
add_read rule None groups = (Err BadEntry, groups)
add_read rule (Some g) groups = add_step rule g groups

-- the cause for which a full table declines what bytes stand for
abbrev pub full_cause : {G : Type 0} → (rule : G → Bool) → Option G → Cause
full_cause rule None = BadEntry
full_cause rule (Some g) = cond (rule g) Limit BadEntry
