use Rattle.qss_order2.proofs.Common.{ℕ, ◌<◌, ◌≡◌, column_at, get_or, is_listed, rows_in, true}
use Rattle.qss_order2.specs.Stores.{IsAffected}
use Rattle.qss_order2.proofs.touching.touch.Given as goal

-- the states that left, and the rows that read those so far
abbrev pub invariant-loop-state : goal.invariant-loop-state
invariant-loop-state l = record {
  count : l.affected.count ≡ l.fn.affected.count;
  own : (j : ℕ) → is_listed l.left j ≡ true → is_listed l.affected.places j ≡ true;
  readers : (k j : ℕ) → k < l.state-index → is_listed
      (rows_in (column_at l.f.columns.items (get_or l.left k 0))) j ≡ true →
      is_listed l.affected.places j ≡ true;
  only : (j : ℕ) → is_listed l.affected.places j ≡ true → IsAffected l.f.machine (is_listed l.left)
      j;
}
