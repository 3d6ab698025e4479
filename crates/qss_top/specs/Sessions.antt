-- What an observer sees of a run of the program: final status, accepted bytes, and readings.
use Rattle.std.specs.Prelude.{◌≡◌, ◌⊎◌, ◌<◌, ℕ, List, Option}
use Rattle.mu_io.specs.Readings.{Reading}
use Rattle.qss_cli.specs.Commands.{Command}
use Rattle.qss_top.specs.WrittenTexts.{IsPrefix}
use Rattle.qss_top.specs.Calls.{Call, ComputesSpecification}
use Rattle.qss_top.specs.declared.status.Status.{Status}
use Rattle.qss_top.specs.declared.status.Status.TheVariants as ends

-- a stream accepted all bytes, or a prefix of them and its fault count is not 0
abbrev pub IsAccepted : (bytes accepted : List ℕ) → (faults : ℕ) → Type 0
IsAccepted bytes accepted faults = (accepted ≡ bytes) ⊎ (IsPrefix accepted bytes × (0 < faults))

-- the call that an observer sees: the text and the line are the bytes that the streams accepted
abbrev pub seen : Status → (text line : List ℕ) → List Reading → Call
seen status text line reads = record {
  status = status;
  text = text;
  line = line;
  reads = reads;
}

-- the call that an observer sees computes its specification
-- `found` is the command of the arguments. The counts are the fault counts of the two streams.
-- `text` and `line` are those of the call, with two exceptions. If a write to standard error
-- failed, the call may have a prefix of `line`. If a write to standard output failed at status 8,
-- the call may have a prefix of `text`.
pub record IsSession (found : Option Command) (call : Call) (out_faults err_faults : ℕ) : Type 0
  where
    pub text : List ℕ
    pub line : List ℕ
    -- with this text and this line, the call computes its specification
    pub computes : ComputesSpecification found (seen call.status text line call.reads)
    -- standard output accepted this text; at status 8 a prefix, if a write failed
    pub text_accepted : (call.text ≡ text)
        ⊎ ((call.status ≡ ends.Memory) × IsAccepted text call.text out_faults)
    -- standard error accepted this line, or a prefix if a write failed
    pub line_accepted : IsAccepted line call.line err_faults
    -- status 4 occurs only if a write to standard output failed
    pub write_failed : call.status ≡ ends.WriteFault → 0 < out_faults
