-- The syntax of traces.
use Rattle.std.specs.Prelude.{◌≡◌, ℕ, ◌⊎◌, List, Some}
use Rattle.std.specs.List.{AllZip}
use Rattle.cert_check.specs.CertificateLines.{ParsesAs}
use Rattle.cert_check.specs.CertificateTexts.{IsCutInto}
use Rattle.qss_trace.specs.declared.trace.Trace.{Trace}
use Rattle.cert_check.specs.declared.text_err.TextErr.{TextErr}
use Rattle.cert_check.specs.declared.text_err.TextErr.TheVariants.{Memory}
use Rattle.qss_trace.specs.TraceLines.{trace_lines}
use Rattle.qss_trace.specs.ExpectedFields.{trace_fault}

-- the records parse as a trace for n states
pub record AreRecordsOf (n : ℕ) (records : List (List (List ℕ))) (t : Trace) : Type 0 where
  pub size : t.n ≡ n
  pub spelt : AllZip ParsesAs records (trace_lines t)

-- the bytes are a text of the trace
abbrev pub IsTextOf : ℕ → List ℕ → Trace → Type 0
IsTextOf n bytes t = (records : List (List (List ℕ))) × IsCutInto bytes records × AreRecordsOf n records t

-- this is the first fault of the bytes as a text of a trace for n states
abbrev pub IsFaultOf : ℕ → List ℕ → TextErr → Type 0
IsFaultOf n bytes why = (records : List (List (List ℕ))) × IsCutInto bytes records × (trace_fault n records ≡ Some why)

-- the bytes are not a text of a trace and this is their first fault, or memory ran out
abbrev pub IsRefusedFor : ℕ → List ℕ → TextErr → Type 0
IsRefusedFor n bytes why = (why ≡ Memory) ⊎ IsFaultOf n bytes why
