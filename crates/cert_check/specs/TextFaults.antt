-- The faults of bytes as a text of a certificate.
use Rattle.std.specs.Prelude.{◌≡◌, ℕ, ◌⊎◌, List, Some}
use Rattle.qss_machine.specs.declared.compiled_machine.Machine.{Machine}
use Rattle.qss_machine.specs.Machines.{state_count}
use Rattle.cert_check.specs.Scope.{IsInScope}
use Rattle.cert_check.specs.declared.certificate.Certificate.{Certificate}
use Rattle.cert_check.specs.declared.text_err.TextErr.{TextErr}
use Rattle.cert_check.specs.Layout.{text_fault}
use Rattle.cert_check.specs.CertificateTexts.{IsCutInto, IsTextOf}

-- this is the first fault of the bytes as a text of a certificate of the machine
abbrev pub IsFaultOf : Machine → List ℕ → TextErr → Type 0
IsFaultOf m bytes why = (records : List (List (List ℕ))) × IsCutInto bytes records × (text_fault (state_count m) records ≡ Some why)

-- any bytes are either a text of exactly one certificate or have exactly one first fault
pub record TextsAreJudged : Type 0 where
  pub judged : (m : Machine) (bytes : List ℕ) → IsInScope m → ((c : Certificate) × IsTextOf m bytes c) ⊎ ((why : TextErr) × IsFaultOf m bytes why)
  pub one_certificate : (m : Machine) (bytes : List ℕ) (a b : Certificate) → IsTextOf m bytes a → IsTextOf m bytes b → a ≡ b
  pub one_fault : (m : Machine) (bytes : List ℕ) (why other : TextErr) → IsFaultOf m bytes why → IsFaultOf m bytes other → why ≡ other
  pub not_both : (m : Machine) (bytes : List ℕ) (why : TextErr) (c : Certificate) → IsFaultOf m bytes why → IsTextOf m bytes c → ⊥
