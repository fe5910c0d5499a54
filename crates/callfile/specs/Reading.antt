-- What a reading of bytes gives: a day, or the first fault.
use Rattle.std.specs.Prelude.{ℕ, zero, suc, ◌+◌, cond, not, ◌||◌, List, [], ◌∷◌, length, take, drop, Some, None, Ok, Err, Option, Result, ◌==◌, nat_lt, slice_index}
use Rattle.parts.specs.Limits.{terminals}
use Rattle.parts.specs.declared.calls.Call.{Call}
use Rattle.parts.specs.declared.calls.Call.TheVariants.{Write}
use Rattle.cards.specs.Words.{word_at}
use Rattle.books.specs.Books.{table_groups}
use Rattle.books.specs.declared.causes.Cause.TheVariants.{Size, Kind, Limit, Offset, BadEntry, BadCard, BadCall}
use Rattle.callfile.specs.declared.faults.Fault.{Fault}
use Rattle.callfile.specs.declared.faults.Part.TheVariants.{File, Field, Entry, Card, Call as CallPart, Rest}
use Rattle.callfile.specs.declared.summary.Summary.{Summary}
use Rattle.callfile.specs.Limits.{head_length, entry_width, call_width, longest, card_kind_at, book_kind_at, terminals_at, founder_at, groups_at, groups_offset_at, card_offset_at, calls_at, calls_offset_at, card_from}
use Rattle.callfile.specs.Faults.{at, first_of, or_else, unless, and_then, or_fault}
use Rattle.callfile.specs.Days.{Day}
use Rattle.callfile.specs.Letters.{terminal, short_of, size_of, Parts, short, long, split_of}

-- The header.

-- 21: the file is too short for a header, or too long
abbrev pub size_fault : List ℕ → Option Fault
size_fault xs = first_of ((nat_lt (length xs) head_length || nat_lt longest (length xs), at Size File 0) ∷ [])

-- 22: another kind of card, and then another kind of book, than those asked for
abbrev pub kind_fault : (card_kind book_kind : ℕ) → List ℕ → Option Fault
kind_fault k b xs =
    first_of
    ((not (slice_index xs card_kind_at == k), at Kind Field card_kind_at)
    ∷ (not (slice_index xs book_kind_at == b), at Kind Field book_kind_at)
    ∷ [])

-- 23: the number of terminals is not 1 to 16, the founder is not one of them, or the number of groups is not 1 to 32
abbrev pub limit_fault : (n founder groups : ℕ) → Option Fault
limit_fault n f g =
    first_of
    ((n == 0 || nat_lt terminals n, at Limit Field terminals_at)
    ∷ (not (nat_lt f n), at Limit Field founder_at)
    ∷ (g == 0 || nat_lt table_groups g, at Limit Field groups_at)
    ∷ [])

-- 24: groups, first card or calls do not begin where the part before ends, or the calls begin past the file's end
abbrev pub offset_fault : (span : ℕ) → List ℕ → Option Fault
offset_fault span xs =
    first_of
    ((not (word_at xs groups_offset_at == head_length), at Offset Field groups_offset_at)
    ∷ (not (word_at xs card_offset_at == card_from (word_at xs groups_at)), at Offset Field card_offset_at)
    ∷ (not (word_at xs calls_offset_at == card_from (word_at xs groups_at) + span) || nat_lt (length xs) (word_at xs calls_offset_at), at Offset Field calls_offset_at)
    ∷ [])

abbrev pub head_fault : (card_kind book_kind span : ℕ) → List ℕ → Option Fault
head_fault k b span xs =
    or_else (size_fault xs)
    (or_else (kind_fault k b xs)
    (or_else (limit_fault (word_at xs terminals_at) (word_at xs founder_at) (word_at xs groups_at))
    (offset_fault span xs)))

-- what the header says in few words, with the first card
abbrev pub head_summary : {C : Type 0} → List ℕ → C → Summary C
head_summary xs first =
    record {
      founding = record { terminals = word_at xs terminals_at; founder = terminal (word_at xs founder_at); first = first };
      groups = word_at xs groups_at;
      calls = word_at xs calls_at;
    }

-- The groups.

module _ {G : Type 0} (entry_of : List ℕ → Option G) where
  -- the entry at the front of xs, which stands in the file at byte b; 25 if its bytes are no group
  abbrev pub group_at : (b : ℕ) → List ℕ → Result G Fault
  group_at b xs = or_fault (entry_of (take entry_width xs)) (at BadEntry Entry b)

  -- n entries from the front of xs
  abbrev pub groups_of : (b n : ℕ) → List ℕ → Result (List G) Fault
  groups_of b zero xs = Ok []
  groups_of b (suc n) xs = and_then (group_at b xs) (λ g. and_then (groups_of (b + entry_width) n (drop entry_width xs)) (λ gs. Ok (g ∷ gs)))

-- The calls.

module _ {C : Type 0} (span : ℕ) (card_of : List ℕ → Option C) where
  -- the call that a split one stands for: 27 at its letter if it is cut off, unknown or has an unused byte that is not 0, and then 26 at its card
  abbrev pub call_of : (b : ℕ) → Option Parts → Result (Call C) Fault
  call_of b None = Err (at BadCall CallPart b)
  call_of b (Some (short l x y)) = or_fault (short_of l x y) (at BadCall CallPart b)
  call_of b (Some (long l x y card)) =
      cond (y == 0)
      (and_then (or_fault (card_of card) (at BadCard Card (b + call_width))) (λ c. Ok (Write (terminal x) c)))
      (Err (at BadCall CallPart b))

  -- the call at the front of xs, which stands in the file at byte b
  abbrev pub call_at : (b : ℕ) → List ℕ → Result (Call C) Fault
  call_at b xs = call_of b (split_of span xs)

  -- 27: bytes are left over
  abbrev pub rest_of : (b : ℕ) → List ℕ → Result (List (Call C)) Fault
  rest_of b [] = Ok []
  rest_of b (x ∷ xs) = Err (at BadCall Rest b)

  -- n calls, which are all of xs
  abbrev pub calls_of : (b n : ℕ) → List ℕ → Result (List (Call C)) Fault
  calls_of b zero xs = rest_of b xs
  calls_of b (suc n) xs =
      and_then (call_at b xs) (λ c. and_then (calls_of (b + size_of span c) n (drop (size_of span c) xs)) (λ cs. Ok (c ∷ cs)))

-- The whole file.

module _ {C G : Type 0} (span : ℕ) (card_of : List ℕ → Option C) (entry_of : List ℕ → Option G) where
  -- what stands behind a header without a fault: the groups, the first card, or 26, and the calls
  abbrev pub body_of : List ℕ → Result (Day C G) Fault
  body_of xs =
      and_then (groups_of entry_of head_length (word_at xs groups_at) (drop head_length xs))
      (λ gs. and_then (or_fault (card_of (take span (drop (word_at xs card_offset_at) xs))) (at BadCard Card (word_at xs card_offset_at)))
      (λ first. and_then (calls_of span card_of (word_at xs calls_offset_at) (word_at xs calls_at) (drop (word_at xs calls_offset_at) xs))
      (λ cs. Ok (record { terminals = word_at xs terminals_at; founder = terminal (word_at xs founder_at); groups = gs; first = first; calls = cs }))))

  -- the day that a file holds, or its first fault
  abbrev pub day_of : (card_kind book_kind : ℕ) → List ℕ → Result (Day C G) Fault
  day_of k b xs = unless (head_fault k b span xs) (body_of xs)
