-- The limits of a house, each under one name.
use Rattle.std.specs.Prelude.{ℕ}

-- the most terminals that a house has, numbered from 0
abbrev pub terminals : ℕ
terminals = 16

-- the places of a chart, numbered from 0
abbrev pub places : ℕ
places = 16

-- the messages that the pool holds at most
abbrev pub messages : ℕ
messages = 64

-- where phase numbers and the counts of stamps end
abbrev pub last_number : ℕ
last_number = 999999
