use Rattle.qss_order2.proofs.Common.{ℕ, ◌||◌, ◌≡◌, is_listed, take}
use Rattle.qss_order2.proofs.touching.touch_states.Given as goal

-- the states so far
abbrev pub invariant-loop-state : goal.invariant-loop-state
invariant-loop-state l = record {
  count : l.affected.count ≡ l.fn.affected.count;
  places : (j : ℕ) → is_listed l.affected.places j ≡ (is_listed l.fn.affected.places j || is_listed
      (take l.state-index l.list) j);
}
