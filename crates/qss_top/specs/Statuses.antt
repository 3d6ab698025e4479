-- The status of the program.
use Rattle.std.specs.Prelude.{Bool, true, false, not, ℕ}
use Rattle.qss_top.specs.declared.status.Status.{Status}
use Rattle.qss_top.specs.declared.status.Status.TheVariants as ends

-- the exit code
abbrev pub code_of : Status → ℕ
code_of ends.Ok = 0
code_of ends.Rejected = 1
code_of ends.Usage = 2
code_of ends.ReadFault = 3
code_of ends.WriteFault = 4
code_of ends.ModelRefused = 5
code_of ends.Overflow = 6
code_of ends.CertRefused = 7
code_of ends.Memory = 8

-- whether the status is specified by arguments and files: not 3, 4 or 8
abbrev pub is_defined : Status → Bool
is_defined ends.ReadFault = false
is_defined ends.WriteFault = false
is_defined ends.Memory = false
is_defined _ = true

-- whether standard output is unchanged; `goes` states that the command writes while it runs
abbrev pub leaves_out : (goes : Bool) → Status → Bool
leaves_out goes ends.Ok = false
leaves_out goes ends.WriteFault = false
leaves_out goes ends.Overflow = not goes
leaves_out goes ends.Memory = not goes
leaves_out goes _ = true
