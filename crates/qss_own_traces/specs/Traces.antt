-- The trace of a list of snapshots.
use Rattle.std.specs.Prelude.{◌≡◌, ℕ, List, ℤ}
use Rattle.qss_machine.specs.declared.compiled_machine.Machine.{Machine}
use Rattle.qss_machine.specs.Machines.{state_count, quanta}
use Rattle.qss_trace.specs.declared.trace.Trace.{Trace}
use Rattle.qss_trace.specs.Trace.{states_of, levels_of}

-- a trace has these states and levels tick by tick, in units `scale` times finer than the
-- machine's, with the machine's quanta
pub record IsTraceOf (m : Machine) (scale : ℕ) (states levels : List (List ℤ)) (t : Trace) : Type 0 where
  pub size : t.n ≡ state_count m
  pub own_scale : t.scale ≡ scale
  pub by_tick : t.refine ≡ 1
  pub own_quanta : t.q ≡ quanta m
  pub own_states : states_of t ≡ states
  pub own_levels : levels_of t ≡ levels
