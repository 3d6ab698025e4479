-- The ranks so far.
use Rattle.qss_sched.proofs.Common.{ℕ, ◌+◌, ◌<◌, ◌^◌, ◌≡◌, get_or, vec_len}
use Rattle.qss_sched.proofs.due_heap.due_ranks_without_ticks.Given as goal

abbrev pub invariant-loop-place : goal.invariant-loop-place
invariant-loop-place l = (vec_len l.ranks ≡ l.place) × ((i : ℕ) → i < l.place → get_or l.ranks.items i 0 ≡ 2 ^ 96 + i)
