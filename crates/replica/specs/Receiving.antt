-- What a message makes of the terminal that receives it.
use Rattle.std.specs.Prelude.{cond, nat_le}
use Rattle.parts.specs.declared.charts.Chart.{Chart}
use Rattle.parts.specs.declared.counts.PhaseNumber.{PhaseNumber}
use Rattle.parts.specs.declared.counts.Terminal.{Terminal}
use Rattle.parts.specs.declared.sets.TerminalSet.{TerminalSet}
use Rattle.parts.specs.Charts.{join, cut, extend, gap}
use Rattle.parts.specs.Sets.{nobody, union, with_one}
use Rattle.parts.specs.Stamps.{below}
use Rattle.replica.specs.declared.messages.Body.{Body}
use Rattle.replica.specs.declared.messages.Body.TheVariants.{Knock, News as Told}
use Rattle.replica.specs.declared.messages.News.{News}
use Rattle.replica.specs.declared.operations.Operation.{Operation}
use Rattle.replica.specs.declared.operations.Operation.TheVariants.{Free, Query, Prop, Done}
use Rattle.replica.specs.declared.operations.Phase.{Phase}
use Rattle.replica.specs.declared.replicas.Replica.{Replica}
use Rattle.replica.specs.declared.replicas.Status.TheVariants.{Active}
use Rattle.replica.specs.declared.retirements.Retirement.{Retirement}
use Rattle.replica.specs.declared.retirements.Retirement.TheVariants.{Free as NoRetirement, Query as Asking, Prop as Telling}
use Rattle.replica.specs.Numbers.{raised}
use Rattle.replica.specs.Replicas.{standing}

-- what a message does to a phase under way: it is no answer to it, its sender is counted, or the phase starts over
pub data Hearing : Type 0 where
  not_recent counted restarted : Hearing

-- the phase's chart, extended by the cut of the message's chart
abbrev pub longer : (theirs : Chart) → Phase → Chart
longer m p = extend p.chart (cut m)

-- a message answers the phase if the phase has a number of at most pnr; a gap in the extended chart starts it over
abbrev pub hearing : (pnr : PhaseNumber) (theirs : Chart) → Phase → Hearing
hearing pnr m p = cond (nat_le p.number.0 pnr.0) (cond (gap (longer m p)) restarted counted) not_recent

-- a phase that starts over takes the cut of the terminal's own chart
abbrev pub chart_after : Hearing → (theirs own : Chart) → Phase → Chart
chart_after not_recent m a p = p.chart
chart_after counted m a p = longer m p
chart_after restarted m a p = cut a

-- and has heard nobody
abbrev pub heard_after : Hearing → (from : Terminal) → Phase → TerminalSet
heard_after not_recent j p = p.heard
heard_after counted j p = with_one p.heard j
heard_after restarted j p = nobody

-- the phase after the message; its number stays
abbrev pub heard_phase : (from : Terminal) (pnr : PhaseNumber) (theirs own : Chart) → Phase → Phase
heard_phase j pnr m a p = record {
  number = p.number;
  chart = chart_after (hearing pnr m p) m a p;
  heard = heard_after (hearing pnr m p) j p;
}

-- an operation in query or prop hears the message
abbrev pub heard_operation : {C : Type 0} → (from : Terminal) (pnr : PhaseNumber) (theirs own : Chart) → Operation C → Operation C
heard_operation j pnr m a Free = Free
heard_operation j pnr m a (Query k p) = Query k (heard_phase j pnr m a p)
heard_operation j pnr m a (Prop kept p) = Prop kept (heard_phase j pnr m a p)
heard_operation j pnr m a (Done kept) = Done kept

-- a retirement with a number of at most pnr counts the sender
abbrev pub heard_retiring : (from : Terminal) (pnr number : PhaseNumber) → TerminalSet → TerminalSet
heard_retiring j pnr n h = cond (nat_le n.0 pnr.0) (with_one h j) h

abbrev pub heard_retirement : (from : Terminal) (pnr : PhaseNumber) → Retirement → Retirement
heard_retirement j pnr NoRetirement = NoRetirement
heard_retirement j pnr (Asking k n h) = Asking k n (heard_retiring j pnr n h)
heard_retirement j pnr (Telling k n h) = Telling k n (heard_retiring j pnr n h)

module _ {C : Type 0} where
  -- news: the receiver becomes active, adds the known set, takes card and stamp over if the stamp is larger, joins the chart
  -- and raises the number heard from the sender to pns; then its operation and its retirement hear it
  abbrev pub received : (from : Terminal) → News C → Replica C → Replica C
  received j m t = record {
    status = Active;
    crashed = t.crashed;
    known = union t.known m.known;
    card = cond (below t.stamp m.stamp) m.card t.card;
    stamp = cond (below t.stamp m.stamp) m.stamp t.stamp;
    chart = join t.chart m.chart;
    number = t.number;
    latest = raised j.0 m.pns t.latest;
    operation = heard_operation j m.pnr m.chart (join t.chart m.chart) t.operation;
    retirement = heard_retirement j m.pnr t.retirement;
  }

  -- a knock adds its sender to the known set
  abbrev pub taken : (from : Terminal) → Body C → Replica C → Replica C
  taken j Knock t = standing t.status t.crashed (with_one t.known j) t
  taken j (Told m) t = received j m t
