use Rattle.qss_rows.proofs.Common.{ℕ, ◌++◌, ◌≡◌, Appends, List}
use Rattle.qss_rows.proofs.simulation_rows.write_simulation_lines.Given as goal

-- what is written and what is left are all
abbrev pub invariant-loop : goal.invariant-loop
invariant-loop g l = record {
  done : (done : List ℕ) × ((done ++ l.rest ≡ l.lines) × Appends (g.O.Sink.written l.initial.out) (g.O.Sink.written l.out) done);
  calm : g.O.Sink.faults l.out ≡ g.O.Sink.faults l.initial.out;
}
