use Rattle.mu_causal.proofs.Common.{EachBelowHasOneEquation, flat_model}
use Rattle.mu_causal.proofs.equation_counts.check_one_equation_each.Given as goal

abbrev pub invariant-loop-place : goal.invariant-loop-place
invariant-loop-place l = EachBelowHasOneEquation (flat_model l.m) l.place
