use Rattle.qss_order2.proofs.Common
use Common.{ℕ, ℤ, ◌*ℤ◌, ◌+ℤ◌, ◌<◌, ◌≡◌, coefficient_of, int_at, int_wrap, length, take}
use Rattle.std.specs.Int.{w128}
use Rattle.qss_order2.proofs.fixed_machine.add_fixed_column_multiple.Given as goal

-- the multiples of the entries so far
abbrev pub invariant-loop-entry : goal.invariant-loop-entry
invariant-loop-entry l = record {
  as_many : length l.sums ≡ length l.fn.sums;
  so_far : (i : ℕ) (z : ℤ) → i < length l.fn.sums → int_at l.fn.sums i ≡ int_wrap w128 z →
      int_at l.sums i ≡ int_wrap w128 (z +ℤ coefficient_of (take l.entry-index l.column)
      i *ℤ l.factor);
}
