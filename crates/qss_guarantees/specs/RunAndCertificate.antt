-- A run that `run` printed, and the bounds that `certify` printed for the same source.
use Rattle.std.specs.Prelude.{◌≡◌, ◌≢◌, ◌<◌, ◌≤◌, ℕ, ℤ, List, [], ◌∷◌, length, All, Some, decimal}
use Rattle.std.specs.Fmt.{signed_decimal}
use Rattle.mu_io.specs.Readings.{reading, fully_read}
use Rattle.mu_num.specs.Fraction.{sum}
use Rattle.cert_check.specs.CertificateTexts.{IsTextOf}
use Rattle.cert_check.specs.declared.certificate.Certificate.{Certificate}
use Rattle.cert_solution.specs.HalfBounds.{half_bound}
use Rattle.cert_solution.specs.Solutions.{SolutionIsWithin, TimeFunction, approximation}
use Rattle.cert_solution.specs.Solutions.{SolvesInitialValueProblem}
use Rattle.cert_solution.specs.StateValues.{DifferByAtMost, reciprocal, run_value}
use Rattle.qss_answers.specs.BoundTexts.{bounds_text}
use Rattle.qss_answers.specs.Comparisons.{HasStart}
use Rattle.qss_cli.specs.Commands.{Command, RunOptions, run_model, certify_model}
use Rattle.qss_events.specs.RunTexts.{run_by_rule, run_text}
use Rattle.qss_machine.specs.Legitimate.{entry_at}
use Rattle.qss_machine.specs.Machines.{state_count, start_states}
use Rattle.qss_machine.specs.RunLaws.{states_from, levels_from}
use Rattle.qss_machine.specs.Runs.{run_rows}
use Rattle.qss_machine.specs.Ticks.{start_snapshot}
use Rattle.qss_machine.specs.declared.compiled_machine.Machine.{Machine}
use Rattle.qss_machine.specs.declared.machine_parts.Row.{Row}
use Rattle.qss_machine.specs.declared.machine_parts.RowKind.TheVariants as kind
use Rattle.qss_quant.specs.declared.quantizer.Rule.{Rule}
use Rattle.qss_rows.specs.RowTexts.{fields_of, name_of, word_of}
use Rattle.qss_top.specs.Calls.{Call}
use Rattle.qss_top.specs.MachineAnswers.{IsSourceMachine}
use Rattle.qss_top.specs.Sessions.{IsSession}
use Rattle.qss_guarantees.specs.Guarantees.{IsRunStatus}
use Rattle.qss_top.specs.declared.status.Status.TheVariants as ends

-- ---- the two runs of the program

-- a run of the program with this command, with any numbers of failed writes
abbrev pub ExecutesCommand : Command → Call → Type 0
ExecutesCommand command call = (out_faults : ℕ) × (err_faults : ℕ)
    × IsSession (Some command) call out_faults err_faults

-- `run` ended with status 0 or 6, and `certify` with status 0; they have the same relative quantum
-- and read the same source; `text` is the certificate that `certify` read
pub record ReadSameSource (options : RunOptions) (source text : List ℕ) (run certified : Call)
    : Type 0 where
  pub model : List ℕ
  pub other : List ℕ
  pub certificate : List ℕ
  pub run_is : ExecutesCommand (run_model model options) run
  pub run_status : IsRunStatus run.status
  pub run_reads : run.reads ≡ reading model source fully_read ∷ []
  pub certified_is : ExecutesCommand (certify_model other certificate options.share) certified
  pub certified_status : certified.status ≡ ends.Ok
  pub certified_reads : certified.reads
      ≡ reading certificate text fully_read ∷ reading other source fully_read ∷ []

-- ---- the states that `run` prints

-- the states of the machine's run by the rule, at ticks 0, 1, ..
abbrev pub states_by_rule : Rule → Machine → List (List ℤ)
states_by_rule rule m = states_from (start_snapshot m) (run_by_rule rule m).snapshots

-- the levels of this run
abbrev pub levels_by_rule : Rule → Machine → List (List ℤ)
levels_by_rule rule m = levels_from (start_snapshot m) (run_by_rule rule m).snapshots

-- if a row is of a state, and not of an overflow: its fields are the tick, the event, the state's
-- name, and the level and the value of the state at this tick of the run
abbrev pub PrintsState : Rule → Machine → Row → Type 0
PrintsState rule m row = row.var < state_count m → row.kind ≢ kind.Overflow
    → (row.tick < length (states_by_rule rule m)) × (fields_of m row ≡ decimal row.tick
    ∷ word_of row.kind ∷ name_of m row.var
    ∷ signed_decimal (entry_at (levels_by_rule rule m) row.tick row.var)
    ∷ signed_decimal (entry_at (states_by_rule rule m) row.tick row.var) ∷ [])

-- ---- the run lies within the bounds

-- what both runs of the program printed, of one machine
pub record PrintsNearSolution (options : RunOptions) (source text : List ℕ) (run certified : Call)
    : Type 0 where
  pub machine : Machine
  pub means : IsSourceMachine options.share source machine
  pub certificate : Certificate
  pub parsed : IsTextOf machine text certificate
  -- `run` printed those rows of the machine's run that its filter selects
  pub rows : run.text ≡ run_text options.only machine (run_by_rule options.rule machine)
  -- the field `state` of a row is the value of the row's state at the row's tick
  pub fields : All (PrintsState options.rule machine)
      (run_rows machine (run_by_rule options.rule machine))
  -- `certify` printed the bounds E
  pub bounds : certified.text ≡ bounds_text machine certificate
  -- if the machine's start is one of the certificate's: at each tick of the run the solution of the
  -- machine's differential equation from this start is within E/2 of each state
  pub near : HasStart machine certificate → (tick j : ℕ)
      → tick < length (states_by_rule options.rule machine) → j < state_count machine
      → SolutionIsWithin machine (start_states machine) 1 tick j
      (half_bound machine certificate j)
      (run_value 1 (states_by_rule options.rule machine) tick j)
  -- and each function of time that solves this initial value problem is within E/2 of each state:
  -- its approximation up to 1/q is within E/2 + 1/q
  pub each : HasStart machine certificate → (y : TimeFunction)
      → SolvesInitialValueProblem machine (start_states machine) y → (tick q j : ℕ) → 1 ≤ q
      → tick < length (states_by_rule options.rule machine) → j < state_count machine
      → DifferByAtMost (sum (half_bound machine certificate j) (reciprocal q))
      (run_value 1 (states_by_rule options.rule machine) tick j) (approximation y 1 tick q j)

-- if `run` and `certify` read the same source, the printed run lies within half of the printed
-- bounds
-- of the solution
abbrev pub PrintedRunsAreNearSolution : Type 0
PrintedRunsAreNearSolution = (options : RunOptions) (source text : List ℕ) (run certified : Call)
    → ReadSameSource options source text run certified
    → PrintsNearSolution options source text run certified
