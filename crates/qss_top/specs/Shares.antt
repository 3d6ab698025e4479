-- Machines with a relative quantum.
use Rattle.std.specs.Prelude.{◌≡◌, ℕ}
use Rattle.qss_machine.specs.declared.compiled_machine.Machine.{Machine}

-- m is the plain machine with this relative quantum, in 4096ths, rounded down
pub record IsShared (share : ℕ) (plain m : Machine) : Type 0 where
  pub coef_bits : m.p ≡ plain.p
  pub tick_bits : m.k ≡ plain.k
  pub level_bits : m.f ≡ plain.f
  pub last : m.last ≡ plain.last
  pub states : m.states ≡ plain.states
  pub discretes : m.discretes ≡ plain.discretes
  pub rows : m.rows ≡ plain.rows
  pub clauses : m.clauses ≡ plain.clauses
  pub relative : m.relative ≡ share
