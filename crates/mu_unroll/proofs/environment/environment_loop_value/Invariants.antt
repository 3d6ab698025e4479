use Rattle.mu_unroll.proofs.Common.{◌≡◌, drop, loop_value}
use Rattle.mu_unroll.proofs.environment.environment_loop_value.Given as goal

abbrev pub invariant-loop-one : goal.invariant-loop-one
invariant-loop-one l = loop_value (drop l.one-index l.loops) l.name ≡ loop_value l.loops l.name
