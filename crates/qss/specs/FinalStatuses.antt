-- The final status of a run of the program, and its line on standard error.
use Rattle.std.specs.Prelude.{◌≡◌, ◌≢◌, ◌⊎◌, ◌<◌, Bool, true, false, ℕ, List, codes}
use Rattle.mu_io.specs.FaultCounts.{HasOneMoreFault}
use Rattle.qss_top.specs.declared.status.Status.{Status}
use Rattle.qss_top.specs.declared.status.Status.TheVariants as ends

-- the final status is the returned one, or `WriteFault` if `Ok` or `Overflow` was returned and the
-- flush of standard output failed, or `Memory` if an allocation for the line failed
abbrev pub IsStatusAfter : (returned final : Status) → (flush_failed line_failed : Bool) → Type 0
IsStatusAfter returned final flush_failed line_failed =
    ((final ≡ returned) × ((line_failed ≡ false) ⊎ ((returned ≡ ends.WriteFault)
    ⊎ (returned ≡ ends.Memory))))
    ⊎ (((final ≡ ends.WriteFault) × (flush_failed ≡ true) × ((returned ≡ ends.Ok)
    ⊎ (returned ≡ ends.Overflow)))
    ⊎ ((final ≡ ends.Memory) × (line_failed ≡ true) × (returned ≢ ends.WriteFault)
    × (returned ≢ ends.Memory)))

-- the final status, for the fault counts of the line, and of standard output before and after the
-- flush
abbrev pub IsFinalStatus : (returned final : Status) → (line_faults : ℕ)
    → (faults_before faults_now : ℕ) → Type 0
IsFinalStatus returned final line_faults faults_before faults_now =
    ((final ≡ returned) × ((line_faults ≡ 0) ⊎ ((returned ≡ ends.WriteFault)
    ⊎ (returned ≡ ends.Memory))))
    ⊎ (((final ≡ ends.WriteFault) × ((returned ≡ ends.Ok) ⊎ (returned ≡ ends.Overflow))
    × HasOneMoreFault faults_before faults_now)
    ⊎ ((final ≡ ends.Memory) × (0 < line_faults) × (returned ≢ ends.WriteFault)
    × (returned ≢ ends.Memory)))

-- the line of a final status; `own` is the line that `qss_main` wrote
abbrev pub line_of : Status → (own : List ℕ) → List ℕ
line_of ends.WriteFault own = codes "write fault\n"
line_of ends.Memory own = codes "out of memory\n"
line_of _ own = own
