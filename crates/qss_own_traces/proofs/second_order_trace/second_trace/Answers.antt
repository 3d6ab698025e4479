-- The run's states and levels are the trace's places.
use Rattle.qss_own_traces.proofs.Common
use Common.{◌∷◌, arith, length-map, levels_from2, second_order_run, second_scale, SecondSnapshot}
use Common.{state_count, states_from2}
use Rattle.qss_trace.proofs.Small.{small-system}
use Rattle.qss_own_traces.proofs.SecondLegitimate.{second_legitimate}
use Rattle.qss_own_traces.proofs.Legitimate.{held_trace, trace_legitimate}
use Rattle.qss_own_traces.proofs.Placing.{held_places}
use Rattle.qss_own_traces.proofs.second_order_trace.second_trace.Goals as goal

pub affine_system-a-requires : goal.affine_system-a-requires
affine_system-a-requires c = record { plain = c.requires.plain; some = c.requires.size.some; few = c.requires.size.few }

pub new-requires : goal.new-requires
new-requires c =
    let a = c.affine_system-a.ensures in
    record { same_size = a.size; same = a.system; small = small-system c.args.m.now c.affine_system-a.result c.requires.size.few a.size a.coef a.system }

pub run_to_last_tick-requires-clause-fits : goal.run_to_last_tick-requires-clause-fits
run_to_last_tick-requires-clause-fits c =
    let a = c.affine_system-a.ensures in
    record { same_size = a.size; same = a.system; small = small-system c.args.m.now c.affine_system-a.result c.requires.size.few a.size a.coef a.system }

pub finish-requires-clause-places : goal.finish-requires-clause-places
finish-requires-clause-places c =
    let m = c.args.m.now in
    let end = c.in_ok-run_to_last_tick.ensures.end in
    let run = second_order_run m in
    let count = length-map (run.start ∷ run.snapshots) (λ (w : SecondSnapshot). w.states) in
    held_places (state_count m) (states_from2 run.start run.snapshots) (levels_from2 run.start run.snapshots) c.run_to_last_tick.new.self.draft c.requires.size (omega (arith, count)) (omega (arith, count, end.as_many, c.requires.short)) end.held

pub returns-clause-traced : goal.returns-clause-traced
returns-clause-traced c =
    let m = c.args.m.now in
    let end = c.in_ok-run_to_last_tick.ensures.end in
    let run = second_order_run m in
    record {
      reaches_end = end.reaches_end;
      is_trace = held_trace m second_scale (states_from2 run.start run.snapshots)
          (levels_from2 run.start run.snapshots) c.run_to_last_tick.new.self.draft _ c.requires.size
          end.held c.in_ok-finish.ensures;
    }

pub returns-clause-legitimate : goal.returns-clause-legitimate
returns-clause-legitimate c =
    let m = c.args.m.now in
    let traced = returns-clause-traced c in
    let run = second_order_run m in
    trace_legitimate m second_scale (states_from2 run.start run.snapshots) (levels_from2 run.start run.snapshots) _ traced.is_trace (second_legitimate m)
