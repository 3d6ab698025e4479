use Rattle.cert_propose.proofs.Common.{◌≡◌, tabulate, vector}
use Rattle.cert_propose.proofs.candidate_matrices.candidate_column_list.Given as goal

abbrev pub invariant-loop-k : goal.invariant-loop-k
invariant-loop-k l = l.list.items ≡ tabulate l.k (vector l.column)
