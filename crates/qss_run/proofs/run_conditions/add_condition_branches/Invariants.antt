use Rattle.qss_run.proofs.Common.{◌++◌, ◌≡◌, map, range_with_len}
use Rattle.qss_run.proofs.Branches.{place_of}
use Rattle.qss_run.proofs.run_conditions.add_condition_branches.Given as goal

-- the branches so far
abbrev pub invariant-loop-branch : goal.invariant-loop-branch
invariant-loop-branch l = l.found.items ≡ l.fn.found.items ++ map (place_of l.clause) (range_with_len 0 l.branch)
