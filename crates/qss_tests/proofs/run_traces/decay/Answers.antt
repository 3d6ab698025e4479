use Rattle.std.proofs.Common.{refl, rules}
use Rattle.qss_tests.proofs.run_traces.decay.Goals as goal

pub invariant_of-result : goal.invariant_of-result
invariant_of-result c =
    rw (c.in_ok-states.ensures, c.in_ok-rows.ensures, c.none.ensures, c.none-2.ensures)
    (record { has_units = search rules; has_variables = search rules; has_rows = search rules; has_clauses = search rules })

pub returns : goal.returns
returns c = rw c.in_ok-states.ensures refl
