-- What was seen when an operation was begun, and what its confirm leaves.
use Rattle.std.proofs.Common.{◌≡◌, ℕ, suc, ◌<◌, ◌≤◌, Bool, true, length}
use Rattle.parts.specs.declared.sets.TerminalSet.{TerminalSet}
use Rattle.parts.specs.declared.stamps.Stamp.{Stamp}
use Rattle.invariants.proofs.Books.{Book}
use Rattle.invariants.proofs.Entries.{EntryStamps}
use Rattle.invariants.proofs.Invariant.{HandedOver}
use Rattle.invariants.proofs.Stamps.{Le}
use Rattle.invariants.proofs.Views.{Each, View, group_at}

-- of each terminal its stamp and its len when a terminal last began
pub record Base : Type 0 where
  pub stamps : ℕ → Stamp
  pub lens : ℕ → ℕ
  pub begun : ℕ

-- what a confirm leaves: the stamp, the places from low to high that it went through, who was heard, and the terminal's own stamp
pub record Rec : Type 0 where
  pub confirmed : Bool
  pub stamp : Stamp
  pub low : ℕ
  pub high : ℕ
  pub heard : TerminalSet
  pub top : Stamp

pub record Ghost : Type 0 where
  pub entry : EntryStamps
  pub base : ℕ → Base
  pub recs : ℕ → Rec

pub record RecOk {C : Type 0} (B : Book) (s : View C) (E : EntryStamps) (r : Rec) : Type 0 where
  pub order : r.low < r.high
  pub known : (k : ℕ) → r.low ≤ k → k < r.high → k < length s.listed
  pub writes : (k : ℕ) → r.low ≤ k → k < r.high → B.writes (group_at s.listed k) r.heard ≡ true
  pub late : Each r.heard (λ j. Le r.stamp (E j r.high))
  pub under : (k : ℕ) → k < r.low → HandedOver B s E k r.top

-- a write set of place k whose members had gone past k when the base was taken
pub record Beyond {C : Type 0} (B : Book) (s : View C) (b : Base) (k : ℕ) : Type 0 where
  pub who : TerminalSet
  pub known : k < length s.listed
  pub writes : B.writes (group_at s.listed k) who ≡ true
  pub far : Each who (λ j. suc (suc k) ≤ b.lens j)

pub record BaseRec {C : Type 0} (B : Book) (s : View C) (b : Base) (r : Rec) : Type 0 where
  pub late : Each r.heard (λ j. Le r.stamp (b.stamps j))
  pub under : (k : ℕ) → k < r.low → Beyond B s b k
