use Rattle.qss_own_traces.proofs.Common.{◌≡◌, change_after, IsFilled, pos}
use Rattle.qss_own_traces.proofs.second_order_trace.SecondPlace.update_changes.Given as goal

-- the changes so far, and the others as they were
abbrev pub invariant-loop-j : goal.invariant-loop-j
invariant-loop-j l =
    let p = l.fn.self in
    record {
      changes : IsFilled (pos 0)
          (λ k z. z ≡ change_after l.m p k) p.changes.items l.self.changes.items l.j;
      kept : (l.self.states ≡ p.states) × (l.self.levels ≡ p.levels) × (l.self.left ≡ p.left);
    }
