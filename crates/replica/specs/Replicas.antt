-- What one terminal (a replica) holds, and what it becomes by itself.
use Rattle.std.specs.Prelude.{ℕ, Bool, true, false, cond, replicate, slice_index_or}
use Rattle.parts.specs.declared.charts.Chart.{Chart}
use Rattle.parts.specs.declared.counts.Terminal.{Terminal}
use Rattle.parts.specs.declared.sets.TerminalSet.{TerminalSet}
use Rattle.parts.specs.declared.stamps.Stamp.{Stamp}
use Rattle.parts.specs.Charts.{first_chart}
use Rattle.parts.specs.Limits.{terminals}
use Rattle.parts.specs.Sets.{nobody, with_one}
use Rattle.replica.specs.Numbers.{phase_number}
use Rattle.replica.specs.declared.messages.News.{News}
use Rattle.replica.specs.declared.operations.Operation.TheVariants.{Free}
use Rattle.replica.specs.declared.replicas.Replica.{Replica}
use Rattle.replica.specs.declared.replicas.Status.{Status}
use Rattle.replica.specs.declared.replicas.Status.TheVariants.{Idle, Joining, Active}
use Rattle.replica.specs.declared.retirements.Retirement.TheVariants.{Free as NoRetirement}

-- the stamp with this count and terminal
abbrev pub stamp_of : ℕ → Terminal → Stamp
stamp_of n i = record { count = n; terminal = i }

module _ {C : Type 0} where
  -- a terminal at the opening: idle, knowing nobody, with the first card, the stamp (0, founder), the first chart,
  -- zero numbers, and no crash, operation or retirement
  abbrev pub fresh : C → Terminal → Replica C
  fresh first founder = record {
    status = Idle;
    crashed = false;
    known = nobody;
    card = first;
    stamp = stamp_of 0 founder;
    chart = first_chart;
    number = phase_number 0;
    latest = replicate terminals (phase_number 0);
    operation = Free;
    retirement = NoRetirement;
  }

  -- the terminal with another status, crashed mark and known set
  abbrev pub standing : Status → Bool → TerminalSet → Replica C → Replica C
  standing a x k t = record {
    status = a;
    crashed = x;
    known = k;
    card = t.card;
    stamp = t.stamp;
    chart = t.chart;
    number = t.number;
    latest = t.latest;
    operation = t.operation;
    retirement = t.retirement;
  }

  -- the terminal with another chart
  abbrev pub charted : Chart → Replica C → Replica C
  charted a t = record {
    status = t.status;
    crashed = t.crashed;
    known = t.known;
    card = t.card;
    stamp = t.stamp;
    chart = a;
    number = t.number;
    latest = t.latest;
    operation = t.operation;
    retirement = t.retirement;
  }

  -- entering: the founder becomes active and any other joining, and it knows itself
  abbrev pub entered : Terminal → Bool → Replica C → Replica C
  entered i founder t = standing (cond founder Active Joining) t.crashed (with_one t.known i) t

  -- a crash: the mark is set, and nothing else changes
  abbrev pub after_crash : Replica C → Replica C
  after_crash t = standing t.status true t.known t

  -- what a terminal tells terminal j: its known set, card, stamp, chart and phase number (pns),
  -- and the largest phase number that it has heard from j (pnr)
  abbrev pub news_for : Replica C → Terminal → News C
  news_for t j = record {
    known = t.known;
    card = t.card;
    stamp = t.stamp;
    chart = t.chart;
    pns = t.number;
    pnr = slice_index_or t.latest j.0 (phase_number 0);
  }
