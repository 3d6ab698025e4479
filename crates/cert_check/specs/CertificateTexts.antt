-- The syntax of certificates.
use Rattle.std.specs.Prelude.{◌≡◌, ℕ, ◌⊎◌, List, pos, take, Some}
use Rattle.std.specs.List.{AllZip}
use Rattle.csv.specs.Reading.{AreRecords, default_config, strip_bom}
use Rattle.csv.specs.declared.parser.State.TheVariants as st
use Rattle.qss_machine.specs.declared.compiled_machine.Machine.{Machine}
use Rattle.qss_machine.specs.Machines.{state_count, start_states, quanta}
use Rattle.cert_check.specs.declared.certificate.Certificate.{Certificate}
use Rattle.cert_check.specs.declared.text_err.TextErr.{TextErr}
use Rattle.cert_check.specs.declared.text_err.TextErr.TheVariants.{Memory}
use Rattle.cert_check.specs.CertificateLines.{lines, line_count, ParsesAs}
use Rattle.cert_check.specs.Layout.{text_fault}

-- `csv` with its default configuration parses the bytes as these records
abbrev pub IsCutInto : List ℕ → List (List (List ℕ)) → Type 0
IsCutInto bytes records = AreRecords default_config st.StartRecord (strip_bom bytes) records

-- the records parse as the certificate's lines in this form
abbrev pub AreInForm : ℕ → List (List (List ℕ)) → Certificate → Type 0
AreInForm form records c = AllZip ParsesAs records (take (line_count c.n form) (lines (pos form) c))

-- the records parse as a certificate of the machine
-- form 1 takes both starts and the quanta from the machine, form 2 the quanta
pub record AreRecordsOf (m : Machine) (records : List (List (List ℕ))) (c : Certificate) : Type 0 where
  pub size : c.n ≡ state_count m
  pub spelt : (AreInForm 1 records c × (c.start1 ≡ start_states m) × (c.start2 ≡ start_states m) × (c.q ≡ quanta m))
      ⊎ (AreInForm 2 records c × (c.q ≡ quanta m))
      ⊎ AreInForm 3 records c

-- the bytes are a text of the certificate
abbrev pub IsTextOf : Machine → List ℕ → Certificate → Type 0
IsTextOf m bytes c = (records : List (List (List ℕ))) × IsCutInto bytes records × AreRecordsOf m records c

-- the bytes are not a text of a certificate and this is their first fault, or memory ran out
abbrev pub IsRefusedFor : Machine → List ℕ → TextErr → Type 0
IsRefusedFor m bytes why = (why ≡ Memory) ⊎ ((records : List (List (List ℕ))) × IsCutInto bytes records × (text_fault (state_count m) records ≡ Some why))
