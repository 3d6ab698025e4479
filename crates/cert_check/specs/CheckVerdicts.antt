-- The verdict on a certificate.
use Rattle.std.specs.Prelude.{◌≡◌}
use Rattle.cert_check.specs.Inequalities.{System, CertificateData}
use Rattle.cert_check.specs.InequalityTable.{IsFirstFaultOf, inequalities, fault_of}
use Rattle.cert_check.specs.declared.inequality_checker.Verdict.{Verdict}

-- the verdict reports the first failure of the inequalities, or acceptance if there is none
abbrev pub IsVerdict : System → CertificateData → Verdict → Type 0
IsVerdict m x verdict = IsFirstFaultOf m x inequalities (fault_of verdict)

-- each certificate has exactly one verdict
pub record VerdictsAreOne : Type 0 where
  pub some : (m : System) (x : CertificateData) → (v : Verdict) × IsVerdict m x v
  pub one : (m : System) (x : CertificateData) (v w : Verdict) → IsVerdict m x v → IsVerdict m x w → v ≡ w
