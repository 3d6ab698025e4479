use Rattle.qss_own_traces.proofs.Common.{◌≡◌, int_at, IsFilled, pos}
use Rattle.qss_own_traces.proofs.first_order_trace.FirstPlace.shorten_levels.Given as goal

-- the levels so far
abbrev pub invariant-loop-j : goal.invariant-loop-j
invariant-loop-j l = record {
  short : IsFilled (pos 0) (λ k z. z ≡ int_at l.fn.self.levels.items k) l.fn.self.short_levels.items
      l.self.short_levels.items l.j;
  kept : (l.self.states ≡ l.fn.self.states) × (l.self.levels ≡ l.fn.self.levels);
}
