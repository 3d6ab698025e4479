-- The verdict on a trace.
use Rattle.std.specs.Prelude.{◌≡◌, ℕ, ◌+◌}
use Rattle.qss_machine.specs.declared.compiled_machine.Machine.{Machine}
use Rattle.qss_trace.specs.declared.trace.Trace.{Trace}
use Rattle.qss_trace.specs.declared.trace_checker.Fact.{Fact}
use Rattle.qss_trace.specs.declared.trace_checker.TraceVerdict.{TraceVerdict}
use Rattle.qss_trace.specs.declared.trace_checker.TraceVerdict.TheVariants.{Legitimate, Broken}
use Rattle.qss_trace.specs.LegitimateFacts.{number_of, AllHold, IsFirstBroken}

-- all facts hold, or this one is the first that fails; places count from 0, states from 1
abbrev pub IsVerdict : Machine → Trace → TraceVerdict → Type 0
IsVerdict m t Legitimate = AllHold m t
IsVerdict m t (Broken place number state left right) =
    (fact : Fact) × (j : ℕ) × (number ≡ number_of fact) × (state ≡ j + 1) × IsFirstBroken m t fact place j left right
