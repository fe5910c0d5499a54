-- What a terminal's retirement does next: its phase and the call decide together. "The group at a place" is that of the terminal's
-- own chart at the time of the call.
use Rattle.std.specs.Prelude.{◌+◌, Bool, false, cond, ◌&&◌, ◌||◌, Ok, Err, Result, ◌==◌, nat_lt}
use Rattle.parts.specs.declared.charts.Chart.{Chart}
use Rattle.parts.specs.declared.counts.PhaseNumber.{PhaseNumber}
use Rattle.parts.specs.declared.counts.Place.{Place}
use Rattle.parts.specs.declared.entries.Entry.{Entry}
use Rattle.parts.specs.declared.entries.Entry.TheVariants.{Unknown, Group, Retired}
use Rattle.parts.specs.declared.sets.TerminalSet.{TerminalSet}
use Rattle.parts.specs.Charts.{entry_at, place_after, place_before, retire_at, is_group, is_retired}
use Rattle.parts.specs.Limits.{last_number}
use Rattle.parts.specs.Sets.{nobody}
use Rattle.replica.specs.declared.refusals.Refusal.{Refusal}
use Rattle.replica.specs.declared.refusals.Refusal.TheVariants.{UnderWay, WrongPhase, SetMissing, NumbersEnd, WrongPlace, AlreadyRetired}
use Rattle.replica.specs.declared.replicas.Replica.{Replica}
use Rattle.replica.specs.declared.retirements.Retirement.{Retirement}
use Rattle.replica.specs.declared.retirements.Retirement.TheVariants.{Free, Query, Prop}
use Rattle.replica.specs.declared.retirements.Retiring.{Retiring}
use Rattle.replica.specs.declared.retirements.Retiring.TheVariants.{Begin, Settle, Confirm, Close}
use Rattle.replica.specs.Covering.{Answer}
use Rattle.replica.specs.Numbers.{phase_number}
use Rattle.replica.specs.Replicas.{charted}

-- the terminals heard contain a set of the entry's group; an entry without a group has no sets
abbrev pub entry_has : Answer → Entry → TerminalSet → Bool
entry_has sets Unknown h = false
entry_has sets (Group c) h = sets c h
entry_has sets Retired h = false

-- the rule of retiring one place, in the four parts that the calls look at

-- place k may be retired: it and the place behind it hold groups, and it is place 0 or the one before it is retired
abbrev pub may_retire : Chart → Place → Bool
may_retire a k = is_group (entry_at a k) && (is_group (entry_at a (place_after k)) && (k.0 == 0 || is_retired (entry_at a (place_before k))))

-- place k is retired already
abbrev pub is_over : Chart → Place → Bool
is_over a k = is_retired (entry_at a k)

-- the query has heard enough: a read set and a write set of the group at k
abbrev pub has_asked : (reads writes : Answer) → Chart → Place → TerminalSet → Bool
has_asked reads writes a k h = entry_has reads (entry_at a k) h && entry_has writes (entry_at a k) h

-- prop has heard enough: a write set of the group at k + 1
abbrev pub has_told : (writes : Answer) → Chart → Place → TerminalSet → Bool
has_told writes a k h = entry_has writes (entry_at a (place_after k)) h

-- what a retiring call answers, and the terminal that it leaves
abbrev pub RetireMoved : Type 0 → Type 0
RetireMoved C = Result (Unit {0}) Refusal × Replica C

module _ {C : Type 0} where
  -- the terminal with another phase number and retirement
  abbrev pub retired : PhaseNumber → Retirement → Replica C → Replica C
  retired n r t = record {
    status = t.status;
    crashed = t.crashed;
    known = t.known;
    card = t.card;
    stamp = t.stamp;
    chart = t.chart;
    number = n;
    latest = t.latest;
    operation = t.operation;
    retirement = r;
  }

  -- the query starts: the phase number rises by one, and the retirement has place k, that number and nobody heard
  abbrev pub asking : Place → Replica C → Replica C
  asking k t = retired (phase_number (t.number.0 + 1)) (Query k (phase_number (t.number.0 + 1)) nobody) t

  -- prop starts as query did
  abbrev pub telling : Place → Replica C → Replica C
  telling k t = retired (phase_number (t.number.0 + 1)) (Prop k (phase_number (t.number.0 + 1)) nobody) t

  -- a retirement of place k begins: 16 it may not be retired, 10 the phase number is at its end
  abbrev pub retire_beginning : Place → Replica C → RetireMoved C
  retire_beginning k t =
      cond (may_retire t.chart k) (cond (nat_lt t.number.0 last_number) (Ok tt, asking k t) (Err NumbersEnd, t)) (Err WrongPlace, t)

  -- the query ends and prop starts: 17 the place is retired already, 6 a set is missing, 10 the phase number is at its end
  abbrev pub retire_settling : (reads writes : Answer) → Place → TerminalSet → Replica C → RetireMoved C
  retire_settling reads writes k h t =
      cond (is_over t.chart k) (Err AlreadyRetired, t)
      (cond (has_asked reads writes t.chart k h) (cond (nat_lt t.number.0 last_number) (Ok tt, telling k t) (Err NumbersEnd, t)) (Err SetMissing, t))

  -- place k becomes retired, and the retirement stays in prop: 17 the place is retired already, 6 a set is missing
  abbrev pub retire_confirming : (writes : Answer) → Place → TerminalSet → Replica C → RetireMoved C
  retire_confirming writes k h t =
      cond (is_over t.chart k) (Err AlreadyRetired, t)
      (cond (has_told writes t.chart k h) (Ok tt, charted (retire_at k t.chart) t) (Err SetMissing, t))

  -- the retirement ends: 16 its place is not retired
  abbrev pub retire_closing : Place → Replica C → RetireMoved C
  retire_closing k t = cond (is_over t.chart k) (Ok tt, retired t.number Free t) (Err WrongPlace, t)

  module _ (reads writes : Answer) where
    -- every phase with every call
    abbrev pub retire_moving : Retirement → Retiring → Replica C → RetireMoved C
    retire_moving Free (Begin k) t = retire_beginning k t
    retire_moving Free Settle t = (Err WrongPhase, t)
    retire_moving Free Confirm t = (Err WrongPhase, t)
    retire_moving Free Close t = (Err WrongPhase, t)
    retire_moving (Query k n h) (Begin k') t = (Err UnderWay, t)
    retire_moving (Query k n h) Settle t = retire_settling reads writes k h t
    retire_moving (Query k n h) Confirm t = (Err WrongPhase, t)
    retire_moving (Query k n h) Close t = retire_closing k t
    retire_moving (Prop k n h) (Begin k') t = (Err UnderWay, t)
    retire_moving (Prop k n h) Settle t = (Err WrongPhase, t)
    retire_moving (Prop k n h) Confirm t = retire_confirming writes k h t
    retire_moving (Prop k n h) Close t = retire_closing k t

    -- what the call makes of the terminal
    abbrev pub retire_moved : Retiring → Replica C → RetireMoved C
    retire_moved m t = retire_moving t.retirement m t
