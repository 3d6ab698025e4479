use Rattle.qss_order2.proofs.Common
use Common.{ℕ, ℤ, ◌+ℤ◌, ◌<◌, ◌≡◌, int_at, int_wrap, IsAnswer, IsWritten, length, level_unit, pos}
use Common.{state_count, take}
use Rattle.qss_order2.specs.Places.{change_shift}
use Rattle.std.specs.Int.{w128}
use Rattle.qss_order2.proofs.order2_rises.update_rise_changes.Given as goal

-- the level slopes and the shifts of the second differences so far
abbrev pub invariant-loop-state : goal.invariant-loop-state
invariant-loop-state g l = record {
  places : l.q.places ≡ l.fn.q.places;
  rises : l.q.rises ≡ l.fn.q.rises;
  changes : IsWritten (pos 0) (λ j z. IsAnswer l.rule.nearest (int_at l.fn.q.rises.items j)
      (level_unit l.f.machine) z) (take l.state-index l.list) l.fn.q.changes.items
      l.q.changes.items;
  many_bends : length l.q.bends.items ≡ length l.fn.q.bends.items;
  bends : (i : ℕ) (z : ℤ) → i < state_count l.f.machine →
      int_at l.fn.q.bends.items i ≡ int_wrap w128 z → int_at l.q.bends.items i
      ≡ int_wrap w128 (z +ℤ change_shift l.f.machine i l.fn.q.changes.items l.q.changes.items);
}
