use Rattle.qss_states.proofs.Common
use Common.{[], ℕ, ◌++◌, flat_map, get_or as slice_index_or, IsLeastPast, List, overflow_of, take}
use Rattle.qss_states.proofs.kept_weights.least_exceeding_reader.Given as goal

-- the least one so far
abbrev pub invariant-loop-var : goal.invariant-loop-var
invariant-loop-var l =
    (before : List ℕ) → IsLeastPast l.weights before (overflow_of l.fn.found) → IsLeastPast l.weights (before ++ flat_map (λ var. slice_index_or l.uses.0 var []) (take l.var-index l.variables)) (overflow_of l.least)
