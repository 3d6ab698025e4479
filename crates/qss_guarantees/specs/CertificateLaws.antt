-- The theorems about `certify` and `upgrade`.
use Rattle.std.specs.Prelude.{◌≡◌, ℕ, List}
use Rattle.qss_machine.specs.declared.compiled_machine.Machine.{Machine}
use Rattle.cert_check.specs.declared.certificate.Certificate.{Certificate}
use Rattle.cert_check.specs.CertificateTexts.{IsTextOf}
use Rattle.qss_answers.specs.Answers.{Answer, written}
use Rattle.qss_answers.specs.CertificateAnswers.{IsCertification, IsUpgrade}
use Rattle.qss_answers.specs.AcceptedBounds.{IsSoundCertification}

-- a machine and bytes determine exactly one result of `certify`, and one of `upgrade`
pub record CertificateAnswersAreOne : Type 0 where
  pub some_certification : (m : Machine) (bytes : List ℕ) → (answer : Answer)
      × IsCertification m bytes answer
  pub one_certification : (m : Machine) (bytes : List ℕ) (answer other : Answer)
      → IsCertification m bytes answer → IsCertification m bytes other → answer ≡ other
  pub some_upgrade : (m : Machine) (bytes : List ℕ) → (answer : Answer) × IsUpgrade m bytes answer
  pub one_upgrade : (m : Machine) (bytes : List ℕ) (answer other : Answer)
      → IsUpgrade m bytes answer → IsUpgrade m bytes other → answer ≡ other

-- if a certification returns a text, the text states the bounds of the certificate in the bytes,
-- and the bounds hold
abbrev pub BoundsHold : Type 0
BoundsHold = (m : Machine) (bytes text : List ℕ) → IsCertification m bytes (written text)
    → (c : Certificate) × IsSoundCertification m bytes text c

-- the text of an upgrade parses as the certificate in the bytes
abbrev pub UpgradesKeep : Type 0
UpgradesKeep = (m : Machine) (bytes text : List ℕ) → IsUpgrade m bytes (written text)
    → (c : Certificate) × IsTextOf m bytes c × IsTextOf m text c
