-- The sizes of a call file and the places of its header's fields, each under one name.
use Rattle.std.specs.Prelude.{ℕ, ◌+◌, ◌*◌}

-- the bytes of the header
abbrev pub head_length : ℕ
head_length = 16

-- the bytes of a group's entry
abbrev pub entry_width : ℕ
entry_width = 20

-- the bytes of a call without its card
abbrev pub call_width : ℕ
call_width = 3

-- the bytes of the longest file
abbrev pub longest : ℕ
longest = 65535

-- the largest number in a call
abbrev pub largest : ℕ
largest = 255

-- the byte of the header where each field begins; the kinds are one byte, the others numbers of two
abbrev pub card_kind_at : ℕ
card_kind_at = 0

abbrev pub book_kind_at : ℕ
book_kind_at = 1

abbrev pub terminals_at : ℕ
terminals_at = 2

abbrev pub founder_at : ℕ
founder_at = 4

abbrev pub groups_at : ℕ
groups_at = 6

abbrev pub groups_offset_at : ℕ
groups_offset_at = 8

abbrev pub card_offset_at : ℕ
card_offset_at = 10

abbrev pub calls_at : ℕ
calls_at = 12

abbrev pub calls_offset_at : ℕ
calls_offset_at = 14

-- where the first card stands behind g groups
abbrev pub card_from : ℕ → ℕ
card_from g = head_length + entry_width * g
