use Rattle.qss_order2.proofs.Common.{◌≡◌, int_at, level_on, place_in, pos}
use Rattle.qss_order2.proofs.Tables.{IsFilled}
use Rattle.qss_order2.proofs.order2_motion.Motion.list_levels.Given as goal

-- the levels so far
abbrev pub invariant-loop-j : goal.invariant-loop-j
invariant-loop-j l = IsFilled (pos 0) (λ k z. z ≡ level_on (place_in l.self.places.items k)
    (int_at l.self.changes.items k) l.tick) l.fn.levels l.levels l.j
