use Rattle.qss_order2.proofs.Common
use Common.{ℕ, ℤ, ◌+ℤ◌, ◌<◌, ◌≡◌, floor_place, int_at, int_wrap, IsWritten, length, level_shift}
use Common.{level_unit, no_place, place_in, state_count, take}
use Rattle.std.specs.Int.{w128}
use Rattle.qss_order2.proofs.order2_motion.take_motion_levels.Given as goal

-- the places and the shifts of the slopes so far
abbrev pub invariant-loop-state : goal.invariant-loop-state
invariant-loop-state l = record {
  places : IsWritten no_place (λ j p. p ≡ floor_place (place_in l.fn.places j)
      (level_unit l.f.machine)) (take l.state-index l.list) l.fn.places l.places;
  many_rises : length l.rises ≡ length l.fn.rises;
  rises : (i : ℕ) (z : ℤ) → i < state_count l.f.machine → int_at l.fn.rises i ≡ int_wrap w128 z →
      int_at l.rises i ≡ int_wrap w128 (z +ℤ level_shift l.f.machine i l.fn.places l.places);
}
