use Rattle.qss_order2.proofs.Common.{ℕ, ◌<◌, ◌≡◌, is_listed, true}
use Rattle.qss_order2.proofs.touching.touch_all.Given as goal

-- the states so far
abbrev pub invariant-loop-state : goal.invariant-loop-state
invariant-loop-state l = record {
  count : l.affected.count ≡ l.fn.affected.count;
  places : (j : ℕ) → j < l.state → is_listed l.affected.places j ≡ true;
}
