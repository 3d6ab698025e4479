use Rattle.qss_own_traces.proofs.Common
use Common.{◌+ℤ◌, ◌≡◌, int_at, IsFilled, pos, slope_at, start_discretes}
use Rattle.qss_own_traces.proofs.first_order_trace.FirstPlace.move_states.Given as goal

-- the states so far, and the others as they were
abbrev pub invariant-loop-j : goal.invariant-loop-j
invariant-loop-j l =
    let p = l.fn.self in
    record {
      states : IsFilled (pos 0)
          (λ k z. z ≡ int_at p.states.items k +ℤ slope_at l.m k p.levels.items
          (start_discretes l.m)) p.states.items l.self.states.items l.j;
      kept : (l.self.levels ≡ p.levels) × (l.self.short_levels ≡ p.short_levels);
    }
