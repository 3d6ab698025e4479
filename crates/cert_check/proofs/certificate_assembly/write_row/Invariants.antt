use Rattle.cert_check.proofs.Common.{ℕ, ◌<◌, ◌≡◌, IsSquare, length, table, vector}
use Rattle.cert_check.proofs.certificate_assembly.write_row.Given as goal

abbrev pub invariant-loop-j : goal.invariant-loop-j
invariant-loop-j l = record {
  size : length l.matrix ≡ length l.initial.matrix;
  square : IsSquare l.matrix;
  row : (k : ℕ) → k < l.j → table l.matrix l.i k ≡ vector l.numbers k;
  others : (h k : ℕ) → h < l.i → k < length l.initial.matrix → table l.matrix h k ≡ table l.initial.matrix h k;
}
