-- Defines the effect of writing bytes to a sink.
use Rattle.std.specs.Prelude.{Bool, ◌≡◌, ◌≢◌, ℕ, true, List, ◌∷◌, ◌++◌, Option, Some, None}
use Rattle.std.specs.Io.KnownBytes.{Appends}
use Rattle.mu_io.specs.Sinks.{AppendsPrefix, EndsByFault}
use Rattle.qss_machine.specs.declared.machine_parts.Row.{Row}
use Rattle.qss_machine.specs.declared.compiled_machine.Machine.{Machine}
use Rattle.qss_rows.specs.Filters.{passes, lines_passed}
use Rattle.qss_rows.specs.declared.simulation_rows.WriteStop.{WriteStop}
use Rattle.qss_rows.specs.declared.simulation_rows.WriteStop.TheVariants.{Fault}

-- a call wrote these bytes, or a prefix of them if it stopped; a failure is reported, and is the
-- last write
pub record IsWriting {K : Type 0} (written : K → Option (List ℕ)) (faults : K → ℕ) (failed : K → Bool) (stop : Option WriteStop) (old new : K) (bytes : List ℕ) : Type 0 where
  pub whole : stop ≡ None → Appends (written old) (written new) bytes
  pub prefix : AppendsPrefix (written old) (written new) bytes
  pub calm : stop ≢ Some Fault → faults new ≡ faults old
  pub last : stop ≡ Some Fault → EndsByFault faults failed old new

-- a call wrote this head and the lines of the first rows that pass, all complete, and stopped
-- before the line of a row that passes
pub record StopsBefore {K : Type 0} (written : K → Option (List ℕ)) (head : List ℕ) (only : Option (List ℕ)) (m : Machine) (rows : List Row) (old new : K) : Type 0 where
  pub front : List Row
  pub row : Row
  pub rest : List Row
  pub parts : front ++ (row ∷ rest) ≡ rows
  pub passed : passes only m row ≡ true
  pub appended : Appends (written old) (written new) (head ++ lines_passed only m front)
