use Rattle.qss_states.proofs.Common.{ℕ, ◌++◌, IsLeastPast, List, overflow_of, take}
use Rattle.qss_states.proofs.kept_weights.least_exceeding_row.Given as goal

-- the least one so far
abbrev pub invariant-loop-row : goal.invariant-loop-row
invariant-loop-row l = (before : List ℕ) → IsLeastPast l.weights before (overflow_of l.fn.found) → IsLeastPast l.weights (before ++ take l.row-index l.rows) (overflow_of l.least)
