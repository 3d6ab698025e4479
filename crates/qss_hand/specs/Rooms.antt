-- Defines the maximum number of rows that a clause appends.
use Rattle.std.specs.Prelude.{ℕ, ◌+◌, length, sum_by}
use Rattle.qss_machine.specs.declared.machine_parts.ClauseInfo.{ClauseInfo}

-- the maximum number of rows that a clause appends at one tick
abbrev pub clause_room : ClauseInfo → ℕ
clause_room clause = 1 + sum_by (λ branch. length branch.actions) clause.branches
