use Rattle.qss_order2.proofs.Common.{ℕ, ◌||◌, ◌≡◌, is_listed, rows_in, take}
use Rattle.qss_order2.proofs.touching.touch_rows.Given as goal

-- the rows so far
abbrev pub invariant-loop-entry : goal.invariant-loop-entry
invariant-loop-entry l = record {
  count : l.affected.count ≡ l.fn.affected.count;
  places : (j : ℕ) → is_listed l.affected.places j ≡ (is_listed l.fn.affected.places j || is_listed
      (take l.entry-index (rows_in l.column)) j);
}
