use Rattle.qss_sched.proofs.Common
use Common.{ℕ, ◌%◌, ◌*◌, ◌+◌, ◌<◌, ◌≡◌, ◌≤◌, ◌⊎◌, ArePartTaken, due_at, IsWheel, List, Option}
use Common.{slice_index, slice_set, Some, vec_capacity, vec_len}
use Rattle.qss_sched.proofs.wheel.take_wheel_group.Given as goal

-- the places taken so far
abbrev pub invariant-loop-rest : goal.invariant-loop-rest
invariant-loop-rest l = record {
  wheel : IsWheel l.due (slice_set l.marks (64 * l.group + l.base % 64) l.rest) l.base;
  ahead : (place : ℕ) → due_at l.due place ≡ Some l.base → 64 * l.group ≤ place;
  part : (old : List (Option ℕ)) → ArePartTaken l.first l.count (vec_len l.fn.taken) l.base old l.fn.due l.fn.taken.items
      → ArePartTaken l.first l.count (vec_len l.taken) l.base old l.due l.taken.items;
  more : (l.rest ≡ slice_index l.marks (64 * l.group + l.base % 64)) ⊎ (vec_len l.fn.taken < vec_len l.taken);
  grown : vec_len l.fn.taken ≤ vec_len l.taken;
  room : vec_capacity l.taken ≡ vec_capacity l.fn.taken;
}

abbrev pub decreases-loop-rest : goal.decreases-loop-rest
decreases-loop-rest l = l.rest
