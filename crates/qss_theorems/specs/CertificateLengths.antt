-- The written text of a certificate is short enough to be read and reads back as the certificate.
use Rattle.std.specs.Prelude.{◌≡◌, ◌≤◌, ◌*◌, length}
use Rattle.mu_num.specs.Limits.{certificate_length_limit}
use Rattle.cert_check.specs.declared.certificate.Certificate.{Certificate}
use Rattle.cert_check.specs.TextFaults.{IsFaultOf}
use Rattle.cert_check.specs.CertificateTexts.{IsTextOf}
use Rattle.cert_check.specs.Written.{certificate_text}
use Rattle.cert_check.specs.declared.text_err.TextErr.{TextErr}
use Rattle.qss_machine.specs.Machines.{state_count}
use Rattle.qss_machine.specs.declared.compiled_machine.Machine.{Machine}

-- The written text of a certificate reads back as this certificate.
pub record WrittenCertificatesAreShort : Type 0 where
  -- it has at most 65 lines of at most 649 bytes each
  pub bytes : (c : Certificate) → length (certificate_text c) ≤ 65 * 649
  -- this is below the limit of the reader
  pub short : (c : Certificate) → length (certificate_text c) ≤ certificate_length_limit
  -- it is a text of the certificate, for each machine with this number of states
  pub text : (m : Machine) (c : Certificate) → c.n ≡ state_count m
      → IsTextOf m (certificate_text c) c
  -- it is a text of no other certificate
  pub only : (m : Machine) (c other : Certificate) → c.n ≡ state_count m → IsTextOf m (certificate_text c) other → other ≡ c
  -- it has no error
  pub faultless : (m : Machine) (c : Certificate) (why : TextErr) → c.n ≡ state_count m → IsFaultOf m (certificate_text c) why → ⊥
