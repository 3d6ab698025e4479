-- Defines how the lines of a run are written to a sink, and the results that may be returned.
use Rattle.std.specs.Prelude.{◌≡◌, ◌≢◌, ◌⊎◌, ◌<◌, ℕ, ◌+◌, Bool, true, false, List, [], ◌∷◌, ◌++◌, map, flat_map, slice_index_or, Option, Some, None}
use Rattle.std.specs.Io.KnownBytes.{Appends}
use Rattle.mu_io.specs.Sinks.{AppendsPrefix, EndsByFault}
use Rattle.qss_machine.specs.declared.compiled_machine.Machine.{Machine}
use Rattle.qss_machine.specs.Machines.{state_count, discrete_count}
use Rattle.qss_rows.specs.declared.simulation_rows.RunResult.{RunResult}
use Rattle.qss_rows.specs.declared.simulation_rows.RunResult.TheVariants.{Ended, Overflowed, Fault, Memory}
use Rattle.qss_rows.specs.declared.simulation_rows.RunEnd.{RunEnd}
use Rattle.qss_rows.specs.declared.simulation_rows.RunEnd.TheVariants.{Done, Over}
use Rattle.qss_rows.specs.RowTexts.{header, name_of}

-- a line, if the condition holds
abbrev pub line_if : Bool → List ℕ → Option (List ℕ)
line_if true line = Some line
line_if false line = None

-- for each row its line, or none if the row does not pass
abbrev pub lines_by : {Row : Type 0} → (Row → Bool) → (Row → List ℕ) → List Row → List (Option (List ℕ))
lines_by passes line rows = map (λ row. line_if (passes row) (line row)) rows

-- the line at an index
abbrev pub line_at : List (Option (List ℕ)) → ℕ → Option (List ℕ)
line_at lines i = slice_index_or lines i None

-- the bytes of a line, if there is one
abbrev pub bytes_in : Option (List ℕ) → List ℕ
bytes_in None = []
bytes_in (Some line) = line

-- lines, concatenated
abbrev pub text_in : List (Option (List ℕ)) → List ℕ
text_in lines = flat_map bytes_in lines

-- a call wrote this head and a prefix of these lines, all complete, and stopped before a line
pub record StopsAtLine {K : Type 0} (written : K → Option (List ℕ)) (head : List ℕ) (lines : List (Option (List ℕ))) (old new : K) : Type 0 where
  pub front : List (Option (List ℕ))
  pub line : List ℕ
  pub rest : List (Option (List ℕ))
  pub parts : front ++ (Some line ∷ rest) ≡ lines
  pub appended : Appends (written old) (written new) (head ++ text_in front)

-- a variable that overflows is one of the machine
abbrev pub IsEndIn : Machine → RunEnd → Type 0
IsEndIn m Done = Unit {0}
IsEndIn m (Over tick var) = var < state_count m + discrete_count m

-- the results for a run with this end; allocation may fail only for the name of a variable
abbrev pub IsResultOf : Machine → RunEnd → RunResult → Type 0
IsResultOf m end Ended = end ≡ Done
IsResultOf m end (Overflowed name tick) = (var : ℕ) × (end ≡ Over tick var) × (name ≡ name_of m var)
IsResultOf m end Fault = ⊥
IsResultOf m end Memory = (tick : ℕ) × (var : ℕ) × (end ≡ Over tick var)

-- the result agrees with an end of the run
abbrev pub HasResult : Machine → (RunEnd → Type 0) → RunResult → Type 0
HasResult m Ends Ended = Ends Done
HasResult m Ends (Overflowed name tick) = (var : ℕ) × Ends (Over tick var) × (name ≡ name_of m var)
HasResult m Ends Fault = Unit {0}
HasResult m Ends Memory = Unit {0}

-- allocation failed: complete lines were written, up to a line that was not, or all lines if a
-- variable overflowed and allocation of its name failed
abbrev pub IsCutAtLine : {K : Type 0} → (K → Option (List ℕ)) → (RunEnd → Type 0) → List (Option (List ℕ)) → K → K → Type 0
IsCutAtLine written Ends lines old new =
    StopsAtLine written header lines old new ⊎ (((tick : ℕ) × (var : ℕ) × Ends (Over tick var)) × Appends (written old) (written new) (header ++ text_in lines))

-- whether all lines were written
abbrev pub is_whole : RunResult → Bool
is_whole Ended = true
is_whole (Overflowed name tick) = true
is_whole Fault = false
is_whole Memory = false

-- a call wrote the header and these lines of a run: the end of the run, and the effect on the sink
pub record IsSimulated {K : Type 0} (written : K → Option (List ℕ)) (faults : K → ℕ) (failed : K → Bool) (m : Machine) (Ends : RunEnd → Type 0) (lines : List (Option (List ℕ))) (result : RunResult) (old new : K) : Type 0 where
  pub end : HasResult m Ends result
  pub whole : is_whole result ≡ true → Appends (written old) (written new) (header ++ text_in lines)
  pub prefix : AppendsPrefix (written old) (written new) (header ++ text_in lines)
  pub short : result ≡ Memory → IsCutAtLine written Ends lines old new
  pub calm : result ≢ Fault → faults new ≡ faults old
  pub last : result ≡ Fault → EndsByFault faults failed old new
