use Rattle.mu_names.proofs.Common.{◌≡◌, drop, is_among}
use Rattle.mu_names.proofs.name_checks.is_among_loop_names.Given as goal

abbrev pub invariant-loop-other : goal.invariant-loop-other
invariant-loop-other l = is_among (drop l.other-index l.names) l.name ≡ is_among l.names l.name
