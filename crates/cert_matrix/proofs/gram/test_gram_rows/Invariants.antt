use Rattle.cert_matrix.proofs.Common.{ℕ, ◌<◌, length, table}
use Rattle.cert_matrix.specs.Gram.{IsRowDominant}
use Rattle.cert_matrix.proofs.gram.test_gram_rows.Given as goal

abbrev pub invariant-loop-i : goal.invariant-loop-i
invariant-loop-i l = (k : ℕ) → k < l.i → IsRowDominant (length l.m) l.h (table l.m) (table l.g) k
