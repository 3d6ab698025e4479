use Rattle.qss_sched.proofs.Common
use Common.{◌≡◌, AreDisjointTicks, ArePartTaken, joined, vec_capacity, vec_len}
use Rattle.qss_sched.proofs.agenda.take_each.Given as goal

-- the places taken so far
abbrev pub invariant-loop : goal.invariant-loop
invariant-loop l = record {
  apart : AreDisjointTicks l.near l.far;
  part : ArePartTaken l.first l.count l.counter l.tick (joined l.fn.near l.fn.far) (joined l.near l.far) l.taken.items;
  as_many : vec_len l.taken ≡ l.counter;
  room : vec_capacity l.taken ≡ vec_capacity l.fn.taken;
}
