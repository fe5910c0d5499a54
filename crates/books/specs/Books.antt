-- The limits of books, each under one name.
use Rattle.std.specs.Prelude.{ℕ}

-- the most groups that a book has, numbered from 0
abbrev pub most_groups : ℕ
most_groups = 999999

-- the groups that a book's own table has room for
abbrev pub table_groups : ℕ
table_groups = 32

-- the most read sets that a group of a sets book lists, and the most write sets
abbrev pub most_sets : ℕ
most_sets = 4
