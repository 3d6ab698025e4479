use Rattle.mu_unroll.proofs.Common
use Common.{[], ◌+◌, ◌≡◌, count_of_kind, first_meant, first_of_kind, FlatRole, next_number, take}
use Rattle.mu_names.specs.NameTables.{entry_at}
use Rattle.mu_unroll.proofs.flat_variables.list_denotations.Given as goal

-- the table has the names so far, and the next numbers are those after them
abbrev pub invariant-loop-one : goal.invariant-loop-one
invariant-loop-one l = record {
  table : entry_at l.table ≡ first_meant l.known [] (take l.one-index l.known);
  numbers : (kind : FlatRole) → next_number l.next kind ≡ first_of_kind kind l.known + count_of_kind kind (take l.one-index l.known);
}
