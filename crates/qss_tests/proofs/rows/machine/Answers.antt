use Rattle.std.proofs.Common.{rules}
use Rattle.qss_tests.proofs.rows.machine.Goals as goal

pub invariant_of-result : goal.invariant_of-result
invariant_of-result c =
    rw (c.in_ok-discretes.ensures, c.none.ensures, c.none-2.ensures, c.none-3.ensures)
    (record { has_units = search rules; has_variables = search rules; has_rows = search rules; has_clauses = search rules })
