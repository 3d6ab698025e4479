-- The machines that can have a certificate.
use Rattle.std.specs.Prelude.{◌≡◌, ℕ, ◌<◌, ◌≤◌, ◌⊎◌, [], length}
use Rattle.qss_machine.specs.declared.compiled_machine.Machine.{Machine}
use Rattle.qss_machine.specs.Machines.{state_count}
use Rattle.cert_check.specs.declared.certificate_scope.Outside.{Outside}
use Rattle.cert_check.specs.declared.certificate_scope.Outside.TheVariants.{HasClauses, States}

-- the machine has no clauses and 1 to 16 states
pub record IsInScope (m : Machine) : Type 0 where
  pub plain : m.clauses ≡ []
  pub some : 1 ≤ state_count m
  pub few : state_count m ≤ 16

-- the machine has this many clauses, at least one; or none, and this many states: 0 or more than 16
abbrev pub IsOutsideBy : Machine → Outside → Type 0
IsOutsideBy m (HasClauses count) = (count ≡ length m.clauses) × (0 < count)
IsOutsideBy m (States count) = (m.clauses ≡ []) × (count ≡ state_count m) × ((count ≡ 0) ⊎ (16 < count))
