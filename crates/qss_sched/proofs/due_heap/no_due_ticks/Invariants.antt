-- So far no place has a due tick.
use Rattle.qss_sched.proofs.Common.{◌≡◌, HasNone, vec_len}
use Rattle.qss_sched.proofs.due_heap.no_due_ticks.Given as goal

abbrev pub invariant-loop : goal.invariant-loop
invariant-loop l = (vec_len l.ticks ≡ l.counter) × HasNone l.ticks.items
