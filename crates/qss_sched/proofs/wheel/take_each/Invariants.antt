use Rattle.qss_sched.proofs.Common.{◌≡◌, ◌≤◌, ArePartTaken, IsWheel, vec_capacity, vec_len}
use Rattle.qss_sched.proofs.wheel.take_each.Given as goal

-- the places taken so far
abbrev pub invariant-loop : goal.invariant-loop
invariant-loop l = record {
  wheel : IsWheel l.due l.marks l.base;
  part : ArePartTaken l.first l.count (vec_len l.taken) l.base l.fn.due l.due l.taken.items;
  more : l.counter ≤ vec_len l.taken;
  room : vec_capacity l.taken ≡ vec_capacity l.fn.taken;
}
