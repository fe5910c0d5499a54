-- What holds of joining, extending and cutting charts, over rows of entries of any length.
use Rattle.std.specs.Prelude.{◌≡◌, ℕ, suc, ◌<◌, ◌≤◌, max, false, ◌≢◌, List, length, slice_index_or, slice_set}
use Rattle.parts.specs.declared.counts.Group.{Group as GroupNumber}
use Rattle.parts.specs.declared.entries.Entry.{Entry}
use Rattle.parts.specs.declared.entries.Entry.TheVariants.{Unknown, Group, Retired}
use Rattle.parts.specs.Charts.{join_entry, extend_entry, together, cut_list, length_list, gap_list}

-- the entry at place k of a row; a place past the end is unknown
abbrev pub entry_in : List Entry → ℕ → Entry
entry_in a k = slice_index_or a k Unknown

-- one row joined with another
abbrev pub joined : List Entry → List Entry → List Entry
joined a b = together join_entry a b

-- one row extended by another
abbrev pub extended : List Entry → List Entry → List Entry
extended a b = together extend_entry a b

-- m is the first place in use, and c its group
pub record UsableAt (a : List Entry) (m : ℕ) (c : GroupNumber) : Type 0 where
  -- every place below m is retired
  pub below : (k : ℕ) → k < m → entry_in a k ≡ Retired
  -- at m stands group c
  pub here : entry_in a m ≡ Group c
  -- from m on no place is retired
  pub above : (k : ℕ) → m ≤ k → entry_in a k ≢ Retired

-- some place is the first in use
abbrev pub Usable : List Entry → Type 0
Usable a = (m : ℕ) × (c : GroupNumber) × UsableAt a m c

-- each group of the row is the one that f gives for its place
abbrev pub Agrees : (ℕ → GroupNumber) → List Entry → Type 0
Agrees f a = (k : ℕ) (c : GroupNumber) → entry_in a k ≡ Group c → c ≡ f k

pub record ChartLaws : Type 0 where
  -- the join knows at least as many places before its first unknown one as the first row does
  pub join-longer-left : (a b : List Entry) → length_list a ≤ length_list (joined a b)
  -- and, of rows of equal length, as the second does
  pub join-longer-right : (a b : List Entry) → length a ≡ length b → length_list b ≤ length_list (joined a b)
  -- a place that the first row knows stays known
  pub join-knows-left : (a b : List Entry) (k : ℕ) → entry_in a k ≢ Unknown → entry_in (joined a b) k ≢ Unknown
  -- and, in rows of equal length, one that the second knows
  pub join-knows-right : (a b : List Entry) (k : ℕ) → length a ≡ length b → entry_in b k ≢ Unknown → entry_in (joined a b) k ≢ Unknown
  -- a place that is retired in the first row stays retired
  pub join-retires-left : (a b : List Entry) (k : ℕ) → entry_in a k ≡ Retired → entry_in (joined a b) k ≡ Retired
  -- and, in rows of equal length, one that is retired in the second
  pub join-retires-right : (a b : List Entry) (k : ℕ) → length a ≡ length b → entry_in b k ≡ Retired → entry_in (joined a b) k ≡ Retired
  -- the join of two usable rows of equal length is usable
  pub join-usable : (a b : List Entry) → length a ≡ length b → Usable a → Usable b → Usable (joined a b)
  -- the join of two rows that agree with f agrees with f
  pub join-agrees : (f : ℕ → GroupNumber) (a b : List Entry) → Agrees f a → Agrees f b → Agrees f (joined a b)
  -- joining a row with itself changes nothing
  pub join-self : (a : List Entry) → joined a a ≡ a
  -- joining the same row once more changes nothing
  pub join-again : (a b : List Entry) → joined (joined a b) b ≡ joined a b
  -- a cut row knows as many places before its first unknown one as the row does
  pub cut-length : (a : List Entry) → length_list (cut_list a) ≡ length_list a
  -- the cut of a row that agrees with f agrees with f
  pub cut-agrees : (f : ℕ → GroupNumber) (a : List Entry) → Agrees f a → Agrees f (cut_list a)
  -- the cut of a usable row is usable
  pub cut-usable : (a : List Entry) → Usable a → Usable (cut_list a)
  -- a cut row is its own cut
  pub cut_again : (a : List Entry) → cut_list (cut_list a) ≡ cut_list a
  -- a usable row without a gap is its own cut
  pub no-gap-whole : (a : List Entry) → Usable a → gap_list a ≡ false → cut_list a ≡ a
  -- a row that is its own cut has no gap
  pub whole-no-gap : (a : List Entry) → cut_list a ≡ a → gap_list a ≡ false
  -- a row that is its own cut, extended by the cut of a usable one of equal length so that it is still its own cut, knows as many places as the longer cut of the two
  pub extend-length : (a b : List Entry) → length a ≡ length b → cut_list a ≡ a → Usable b → cut_list (extended a (cut_list b)) ≡ extended a (cut_list b) →
      length_list (extended a (cut_list b)) ≡ max (length_list a) (length_list b)
  -- a usable row extended by any other is usable
  pub extend-usable : (a b : List Entry) → Usable a → Usable (extended a b)
  -- a row that agrees with f, extended by one that does, agrees with f
  pub extend-agrees : (f : ℕ → GroupNumber) (a b : List Entry) → Agrees f a → Agrees f b → Agrees f (extended a b)
  -- if a group follows the first place in use, retiring that place leaves a row whose first place in use is the next
  pub retire-usable : (a : List Entry) (m : ℕ) (c d : GroupNumber) → UsableAt a m c → entry_in a (suc m) ≡ Group d → UsableAt (slice_set a m Retired) (suc m) d
