use Rattle.qss_own_traces.proofs.Common
use Common.{◌≡◌, false, IsFilled, IsWithin, leaves_quantum, moved_state, pos, snapshot_of}
use Rattle.qss_own_traces.proofs.second_order_trace.SecondPlace.move_states.Given as goal

-- the states and the flags so far, and the others as they were
abbrev pub invariant-loop-j : goal.invariant-loop-j
invariant-loop-j l =
    let p = l.fn.self in
    record {
      states : IsFilled (pos 0)
          (λ k z. (z ≡ moved_state l.m (snapshot_of p) k) × IsWithin 119 z) p.states.items
          l.self.states.items l.j;
      left : IsFilled false (λ k flag. flag ≡ leaves_quantum l.m (snapshot_of p) k) p.left.items
          l.self.left.items l.j;
      kept : (l.self.levels ≡ p.levels) × (l.self.changes ≡ p.changes);
    }
