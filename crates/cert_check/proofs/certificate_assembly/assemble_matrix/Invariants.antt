use Rattle.cert_check.proofs.Common.{[], ℕ, ◌<◌, ◌≡◌, IsSquare, length, table}
use Rattle.cert_check.proofs.certificate_assembly.assemble_matrix.Given as goal

abbrev pub invariant-loop-i : goal.invariant-loop-i
invariant-loop-i l = record {
  size : length l.matrix ≡ l.n;
  square : IsSquare l.matrix;
  rows : (h k : ℕ) → h < l.i → k < l.n → table l.matrix h k ≡ table l.rows h k;
}
