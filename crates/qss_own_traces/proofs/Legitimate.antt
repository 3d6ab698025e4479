-- Traces of legitimate runs.
use Rattle.qss_own_traces.proofs.Common
use Common.{ℕ, ℤ, ◌∙◌, ap, Draft, Holds, IsLegitimate, IsRunOf, IsSize, IsTraceOf, List, Machine}
use Common.{places, quanta, start_states, state_count, subst, sym, Trace}
use Rattle.qss_trace.specs.Trace.{states_of, levels_of}
use Rattle.qss_own_traces.proofs.Placing.{places_of_joined}

-- a trace of a legitimate run is one
pub trace_legitimate : (m : Machine) (scale : ℕ) (states levels : List (List ℤ)) (t : Trace) → IsTraceOf m scale states levels t → IsLegitimate m (start_states m) (quanta m) scale 1 states levels → IsRunOf m t
trace_legitimate m scale states levels t is legitimate =
    subst (λ (q : List ℤ). IsLegitimate m (start_states m) q t.scale t.refine (states_of t) (levels_of t)) (sym is.own_quanta)
    (subst (λ (s : ℕ). IsLegitimate m (start_states m) (quanta m) s t.refine (states_of t) (levels_of t)) (sym is.own_scale)
    (subst (λ (r : ℕ). IsLegitimate m (start_states m) (quanta m) scale r (states_of t) (levels_of t)) (sym is.by_tick)
    (subst (λ (xs : List (List ℤ)). IsLegitimate m (start_states m) (quanta m) scale 1 xs (levels_of t)) (sym is.own_states)
    (subst (λ (ms : List (List ℤ)). IsLegitimate m (start_states m) (quanta m) scale 1 states ms) (sym is.own_levels) legitimate))))

-- a trace of the places that a draft has
pub held_trace : (m : Machine) (scale : ℕ) (states levels : List (List ℤ)) (d : Draft) (t : Trace) → IsSize (state_count m) → Holds (state_count m) states levels d →
    IsTraceOf m scale (places (state_count m) d.states.items) (places (state_count m) d.levels.items) t → IsTraceOf m scale states levels t
held_trace m scale states levels d t size held is = record {
  size = is.size;
  own_scale = is.own_scale;
  by_tick = is.by_tick;
  own_quanta = is.own_quanta;
  own_states = is.own_states ∙ ap (places (state_count m)) held.own_states ∙ places_of_joined (state_count m) states size.some held.sized_states;
  own_levels = is.own_levels ∙ ap (places (state_count m)) held.own_levels ∙ places_of_joined (state_count m) levels size.some held.sized_levels;
}
