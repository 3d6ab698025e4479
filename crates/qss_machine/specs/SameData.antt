-- Machines with the same data.
use Rattle.std.specs.Prelude.{◌≡◌}
use Rattle.qss_machine.specs.declared.compiled_machine.Machine.{Machine}

-- all fields of two machines that are not ghost fields are equal
pub record HaveSameData (m n : Machine) : Type 0 where
  pub coefficient_bits : m.p ≡ n.p
  pub tick_bits : m.k ≡ n.k
  pub level_bits : m.f ≡ n.f
  pub last_tick : m.last ≡ n.last
  pub same_states : m.states ≡ n.states
  pub same_discretes : m.discretes ≡ n.discretes
  pub same_rows : m.rows ≡ n.rows
  pub same_clauses : m.clauses ≡ n.clauses
  pub share : m.relative ≡ n.relative

-- machines with the same data are equal, so their runs, rows, event counts and readers are equal
abbrev pub SameDataIsEqual : Type 0
SameDataIsEqual = (m n : Machine) → HaveSameData m n → m ≡ n
