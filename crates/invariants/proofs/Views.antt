-- What the proof looks at of a house with its tables.
use Rattle.std.proofs.Common.{◌≡◌, ℕ, ◌≤◌, true, List, get_or}
use mathlib.Core.List.{Memᴰ}
use Rattle.parts.specs.declared.counts.Group.{Group as GroupNumber}
use Rattle.parts.specs.declared.counts.PhaseNumber.{PhaseNumber}
use Rattle.parts.specs.declared.entries.Entry.{Entry}
use Rattle.parts.specs.declared.sets.TerminalSet.{TerminalSet}
use Rattle.parts.specs.Charts.{length_list}
use Rattle.replica.specs.declared.messages.Body.TheVariants.{News as Told}
use Rattle.replica.specs.declared.messages.Message.{Message}
use Rattle.replica.specs.declared.messages.News.{News}
use Rattle.replica.specs.declared.operations.Operation.{Operation}
use Rattle.replica.specs.declared.replicas.Replica.{Replica}
use Rattle.replica.specs.declared.retirements.Retirement.{Retirement}
use Rattle.replica.specs.Numbers.{phase_number}
use Rattle.invariants.proofs.Sets.{holds, terminal}

-- the terminals' rows, the groups listed, and the messages of the pool
pub record View (C : Type 0) : Type 0 where
  pub rows : ℕ → Replica C
  pub listed : List GroupNumber
  pub pool : List (Message C)

-- what terminal j holds
abbrev pub row : {C : Type 0} → View C → ℕ → Replica C
row s j = s.rows j

-- its operation, its retirement, and the entries of its chart
abbrev pub op : {C : Type 0} → View C → ℕ → Operation C
op s j = (row s j).operation

abbrev pub ret : {C : Type 0} → View C → ℕ → Retirement
ret s j = (row s j).retirement

abbrev pub chart : {C : Type 0} → View C → ℕ → List Entry
chart s j = (row s j).chart.places

-- how many places the cut chart of terminal j knows
abbrev pub lens : {C : Type 0} → View C → ℕ → ℕ
lens s j = length_list (chart s j)

-- the number heard from terminal x
abbrev pub heard-from : List PhaseNumber → ℕ → ℕ
heard-from ns x = (get_or ns x (phase_number 0)).0

-- the largest phase number that j has heard from i
abbrev pub hears : {C : Type 0} → View C → ℕ → ℕ → ℕ
hears s j i = heard-from (row s j).latest i

-- the group listed at place k
abbrev pub group_at : List GroupNumber → ℕ → GroupNumber
group_at ls k = get_or ls k (record { 0 = 0 })

-- news b from terminal f to terminal t waits in the pool
abbrev pub Sent : {C : Type 0} → View C → ℕ → ℕ → News C → Type 0
Sent s f t b = Memᴰ (record { from = terminal f; to = terminal t; body = Told b }) s.pool

-- each terminal of a set
abbrev pub Each : TerminalSet → (ℕ → Type 0) → Type 0
Each h P = (j : ℕ) → holds h j ≡ true → P j

module _ {C : Type 0} where
  -- each terminal that has heard a number of at least n from x
  abbrev pub Heard : View C → (x n : ℕ) → (ℕ → Type 0) → Type 0
  Heard s x n P = (j : ℕ) → n ≤ hears s j x → P j

  -- each message from x that tells a number of at least n
  abbrev pub Tells : View C → (x n : ℕ) → (News C → Type 0) → Type 0
  Tells s x n P = (t : ℕ) (b : News C) → Sent s x t b → n ≤ b.pns.0 → P b

  -- each message to x that answers a number of at least n, with its sender
  abbrev pub Replies : View C → (x n : ℕ) → (ℕ → News C → Type 0) → Type 0
  Replies s x n P = (f : ℕ) (b : News C) → Sent s f x b → n ≤ b.pnr.0 → P f b
