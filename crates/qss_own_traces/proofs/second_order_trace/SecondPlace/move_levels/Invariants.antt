use Rattle.qss_own_traces.proofs.Common.{◌≡◌, IsFilled, level_after, pos}
use Rattle.qss_own_traces.proofs.second_order_trace.SecondPlace.move_levels.Given as goal

-- the levels so far, and the others as they were
abbrev pub invariant-loop-j : goal.invariant-loop-j
invariant-loop-j l =
    let p = l.fn.self in
    record {
      levels : IsFilled (pos 0)
          (λ k z. z ≡ level_after l.m p k) p.levels.items l.self.levels.items l.j;
      kept : (l.self.states ≡ p.states) × (l.self.changes ≡ p.changes) × (l.self.left ≡ p.left);
    }
