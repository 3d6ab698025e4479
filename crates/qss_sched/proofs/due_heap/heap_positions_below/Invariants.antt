-- The numbers so far.
use Rattle.qss_sched.proofs.Common.{ℕ, ◌<◌, ◌≡◌, get_or, vec_len}
use Rattle.qss_sched.proofs.due_heap.heap_positions_below.Given as goal

abbrev pub invariant-loop-number : goal.invariant-loop-number
invariant-loop-number l = (vec_len l.numbers ≡ l.number) × ((i : ℕ) → i < l.number → get_or l.numbers.items i 0 ≡ i)
