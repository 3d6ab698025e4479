-- The run's states and levels are the trace's places.
use Rattle.qss_own_traces.proofs.Common
use Common.{◌∷◌, arith, first_run, length-map, levels_from, Snapshot, start_snapshot, state_count}
use Common.{states_from}
use Rattle.qss_own_traces.proofs.FirstRuns.{first_legitimate}
use Rattle.qss_own_traces.proofs.Legitimate.{held_trace, trace_legitimate}
use Rattle.qss_own_traces.proofs.Placing.{held_places}
use Rattle.qss_own_traces.proofs.first_order_trace.first_trace.Goals as goal

pub finish-requires-clause-places : goal.finish-requires-clause-places
finish-requires-clause-places c =
    let m = c.args.m.now in
    let end = c.in_ok-run_to_last_tick.ensures.end in
    let snapshots = (first_run m).snapshots in
    let count = length-map (start_snapshot m ∷ snapshots) (λ (w : Snapshot). w.states) in
    held_places (state_count m) (states_from (start_snapshot m) snapshots) (levels_from (start_snapshot m) snapshots) c.run_to_last_tick.new.self.draft c.requires.size (omega (arith, count)) (omega (arith, count, end.as_many, c.requires.short)) end.held

pub returns-clause-traced : goal.returns-clause-traced
returns-clause-traced c =
    let m = c.args.m.now in
    let end = c.in_ok-run_to_last_tick.ensures.end in
    let snapshots = (first_run m).snapshots in
    record {
      reaches_end = end.reaches_end;
      is_trace = held_trace m 1 (states_from (start_snapshot m) snapshots)
          (levels_from (start_snapshot m) snapshots) c.run_to_last_tick.new.self.draft _
          c.requires.size end.held c.in_ok-finish.ensures;
    }

pub returns-clause-legitimate : goal.returns-clause-legitimate
returns-clause-legitimate c = λ own.
    let m = c.args.m.now in
    let traced = returns-clause-traced c in
    let snapshots = (first_run m).snapshots in
    trace_legitimate m 1 (states_from (start_snapshot m) snapshots) (levels_from (start_snapshot m) snapshots) _ traced.is_trace (first_legitimate m c.requires.plain own)
