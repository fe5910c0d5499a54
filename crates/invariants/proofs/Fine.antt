-- The invariant of a day, with what the proof remembers.
use Rattle.std.proofs.Common.{◌≡◌, ℕ, length, sym, refl, subst, inl}
use Rattle.replica.specs.declared.replicas.Replica.{Replica}
use Rattle.house.specs.States.{State}
use Rattle.house.specs.Steps.{Rule}
use Rattle.invariants.proofs.Bases.{Ghost}
use Rattle.invariants.proofs.Books.{Book}
use Rattle.invariants.proofs.Days.{Day, day_on}
use Rattle.invariants.proofs.Entries.{entered_at}
use Rattle.invariants.proofs.Moves.{Move}
use Rattle.invariants.proofs.Ops.{op_at}
use Rattle.invariants.proofs.OpsQuiet.{quiet}
use Rattle.invariants.proofs.Puts.{Calm, Puts}
use Rattle.invariants.proofs.Quiet.{sound-calm, sound-same}
use Rattle.invariants.proofs.Seen.{seen}
use Rattle.invariants.proofs.Views.{row}
use Rattle.invariants.proofs.World.{Sound, World}

-- what a book answers by its two rules
abbrev pub answers_of : {B : Type 0} → (reads writes : Rule B) → B → Book
answers_of reads writes b = record { reads = reads b; writes = writes b }

-- all that the proof looks at of a day
abbrev pub world : {B C : Type 0} → C → Day B C → Ghost → World C
world first d g = record {
  s = seen first d.now;
  E = g.entry;
  O = op_at first d.ops;
  n = length d.ops;
  cur = d.cur;
  clock = d.clock;
  base = g.base;
  recs = g.recs;
}

pub record Fine {B C : Type 0} (reads writes : Rule B) (first : C) (founder : ℕ) (d : Day B C) : Type 0 where
  pub ghost : Ghost
  pub sound : Sound (answers_of reads writes d.now.book) first founder (world first d ghost)

module _ {B C : Type 0} {reads writes : Rule B} {first : C} {founder : ℕ} (d : Day B C) (f : Fine reads writes first founder d) where
  -- the invariant after a call in which no operation is begun, settled, confirmed or collected
  pub fine-quiet : (s' : State B C) → s'.book ≡ d.now.book →
      Sound (answers_of reads writes d.now.book) first founder (quiet (world first d f.ghost) (seen first s')) →
      Fine reads writes first founder (day_on s' d)
  unfolding quiet
  fine-quiet s' e v = record {
    ghost = record { entry = entered_at (seen first s') f.ghost.entry; base = f.ghost.base; recs = f.ghost.recs };
    sound = subst (λ b. Sound (answers_of reads writes b) first founder (quiet (world first d f.ghost) (seen first s'))) (sym e) v;
  }

  -- after one that changes no row
  pub fine-calm : (s' : State B C) (i : ℕ) → s'.book ≡ d.now.book → Calm (seen first d.now) (seen first s') i →
      Fine reads writes first founder (day_on s' d)
  fine-calm s' i e c = fine-quiet s' e (sound-calm (world first d f.ghost) f.sound (seen first s') i c)

  -- after one that is declined
  pub fine-ticks : Fine reads writes first founder (day_on d.now d)
  fine-ticks = fine-calm d.now 0 refl (record { same = λ j. refl; pool = λ g t b m. inl m; listed = λ k l. (l, refl) })

  -- after one that puts a row whose operation, card and stamp stay
  pub fine-same : (s' : State B C) (i : ℕ) (t : Replica C) → s'.book ≡ d.now.book → Puts (seen first d.now) (seen first s') i t →
      Move (answers_of reads writes d.now.book) (seen first d.now) f.ghost.entry (seen first s') i →
      t.operation ≡ (row (seen first d.now) i).operation → t.card ≡ (row (seen first d.now) i).card →
      t.stamp ≡ (row (seen first d.now) i).stamp → Fine reads writes first founder (day_on s' d)
  fine-same s' i t e p mv o c st = fine-quiet s' e (sound-same (world first d f.ghost) f.sound (seen first s') i t p mv o c st)
