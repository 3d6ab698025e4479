use Rattle.qss_own_traces.proofs.Common
use Common.{◌≡◌, floor_level, if◌then◌else◌, int_at, is_within_quantum, IsFilled, level_unit, pos}
use Rattle.qss_own_traces.proofs.first_order_trace.FirstPlace.update_levels.Given as goal

-- the levels so far, and the others as they were
abbrev pub invariant-loop-j : goal.invariant-loop-j
invariant-loop-j l =
    let p = l.fn.self in
    record {
      levels : IsFilled (pos 0)
          (λ k z. z ≡ (if is_within_quantum l.m k (int_at p.states.items k)
          (int_at p.levels.items k) then int_at p.levels.items k
          else floor_level (level_unit l.m) (int_at p.states.items k) (int_at p.levels.items k)))
          p.levels.items l.self.levels.items l.j;
      kept : (l.self.states ≡ p.states) × (l.self.short_levels ≡ p.short_levels);
    }
