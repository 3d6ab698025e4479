-- The data of a machine, apart from the facts that it keeps.
use Rattle.qss_machine.proofs.Common
use Common.{ℕ, ◌+◌, ◌^◌, ◌≡◌, ap, ClauseInfo, DiscreteInfo, length, List, Machine, pos, SlopeRow}
use Common.{StateInfo, subst}
use Rattle.std.proofs.Math.Bridge.{le_prop}
use Rattle.std.proofs.Math.Dec.{T_prop}
use Rattle.std.proofs.Math.Nat.{ℕ_set}
use Rattle.std.proofs.Math.Bool.{Bool-set}
use Rattle.qss_machine.specs.MachineLimits.{HasUnits, AreVariables, AreRows, AreClauses}
use Rattle.qss_machine.specs.SameData.{HaveSameData}

-- the fields of a machine
pub record Parts : Type 0 where
  pub p : ℕ
  pub k : ℕ
  pub f : ℕ
  pub last : ℕ
  pub states : List StateInfo
  pub discretes : List DiscreteInfo
  pub rows : List SlopeRow
  pub clauses : List ClauseInfo
  pub relative : ℕ

-- they are within a machine's limits
pub record IsSound (parts : Parts) : Type 0 where
  pub units : HasUnits parts.p parts.k parts.f parts.last parts.relative
  pub variables : AreVariables (pos (2 ^ (parts.p + parts.k))) parts.states parts.discretes
  pub row_limits : AreRows parts.f (pos (2 ^ (parts.p + parts.k))) parts.states parts.discretes parts.rows
  pub clause_limits : AreClauses (length parts.states) (length parts.discretes) parts.clauses

-- the machine with these fields
abbrev pub machine_of : (parts : Parts) → IsSound parts → Machine
machine_of parts sound = record {
  p = parts.p;
  k = parts.k;
  f = parts.f;
  last = parts.last;
  states = parts.states;
  discretes = parts.discretes;
  rows = parts.rows;
  clauses = parts.clauses;
  relative = parts.relative;
  has_units = sound.units;
  has_variables = sound.variables;
  has_rows = sound.row_limits;
  has_clauses = sound.clause_limits;
}

-- the fields of a machine, and that they are sound
abbrev parts_of : Machine → Parts
parts_of m = record {
  p = m.p;
  k = m.k;
  f = m.f;
  last = m.last;
  states = m.states;
  discretes = m.discretes;
  rows = m.rows;
  clauses = m.clauses;
  relative = m.relative;
}

abbrev sound_of : (m : Machine) → IsSound (parts_of m)
sound_of m = record { units = m.has_units; variables = m.has_variables; row_limits = m.has_rows; clause_limits = m.has_clauses }

-- soundness has one proof at most
sound_once : (parts : Parts) → IsProp (IsSound parts)
sound_once parts = hlevel (le_prop, T_prop, ℕ_set, Bool-set)

same_parts : (m n : Machine) → HaveSameData m n → parts_of m ≡ parts_of n
same_parts m n h = cc

-- machines with the same data are equal
pub same_machine : (m n : Machine) → HaveSameData m n → m ≡ n
same_machine m n h =
    let P : Parts → Type 0 = λ parts. (sound : IsSound parts) → m ≡ machine_of parts sound in
    let here : P (parts_of m) = λ sound. ap (machine_of (parts_of m)) (sound_once (parts_of m) (sound_of m) sound) in
    subst P (same_parts m n h) here (sound_of n)
