-- The results of `certify` and `upgrade` for a machine and the bytes of a certificate.
use Rattle.std.specs.Prelude.{◌≡◌, ℕ, ◌<◌, ◌≤◌, ◌⊎◌, List, length, pos}
use Rattle.mu_num.specs.Limits.{certificate_length_limit}
use Rattle.qss_machine.specs.declared.compiled_machine.Machine.{Machine}
use Rattle.cert_check.specs.CertificateData.{certificate_data}
use Rattle.cert_check.specs.Scope.{IsInScope, IsOutsideBy}
use Rattle.cert_check.specs.Systems.{system_of}
use Rattle.cert_check.specs.declared.certificate.Certificate.{Certificate}
use Rattle.cert_check.specs.declared.text_err.TextErr.{TextErr}
use Rattle.cert_check.specs.declared.certificate_scope.Outside as outsides
use Rattle.cert_check.specs.declared.inequality_checker.Verdict.{Verdict}
use Rattle.cert_check.specs.declared.inequality_checker.Verdict.TheVariants.{Accepted}
use Rattle.cert_check.specs.TextFaults.{IsFaultOf}
use Rattle.cert_check.specs.CheckVerdicts.{IsVerdict}
use Rattle.qss_answers.specs.BoundTexts.{bounds_text}
use Rattle.cert_check.specs.CertificateLines.{lines}
use Rattle.cert_check.specs.CertificateTexts.{IsTextOf}
use Rattle.cert_check.specs.Written.{lines_text}
use Rattle.qss_answers.specs.Answers.{Answer, refused, written, judged, IsNotReadBy}
use Rattle.qss_answers.specs.declared.answer_result.AnswerErr.{AnswerErr}
use Rattle.qss_answers.specs.declared.answer_result.AnswerErr.TheVariants as error
use Rattle.qss_answers.specs.declared.refusal.Refusal.{Refusal}
use Rattle.qss_answers.specs.declared.refusal.Refusal.TheVariants as refusal

-- the greatest length of a certificate, in bytes
abbrev pub limit : ℕ
limit = certificate_length_limit

-- the bytes are rejected as a certificate of the machine for this reason
abbrev pub IsRefusal : Machine → List ℕ → Refusal → Type 0
IsRefusal m bytes why =
    ((out : outsides.Outside) × IsOutsideBy m out × (why ≡ refusal.Outside out))
    ⊎ (IsInScope m × (limit < length bytes) × (why ≡ refusal.CertificateTooLong))
    ⊎ (IsInScope m × (length bytes ≤ limit)
    × ((fault : TextErr) × IsFaultOf m bytes fault × (why ≡ refusal.NotCertificate fault)))

-- the bytes parse as this certificate of the machine
pub record IsRead (m : Machine) (bytes : List ℕ) (c : Certificate) : Type 0 where
  pub scope : IsInScope m
  pub short : length bytes ≤ limit
  pub text : IsTextOf m bytes c

-- the bytes parse as this certificate of the machine, and it is accepted
pub record IsAccepted (m : Machine) (bytes : List ℕ) (c : Certificate) : Type 0 where
  pub read : IsRead m bytes c
  pub verdict : IsVerdict (system_of m) (certificate_data c) Accepted

-- a result for the bytes: the reason of the rejection, or a result for the parsed certificate
abbrev pub IsAnswer : Machine → (Certificate → Answer → Type 0) → List ℕ → Answer → Type 0
IsAnswer m IsSuch bytes answer =
    ((why : Refusal) × IsRefusal m bytes why × (answer ≡ refused why)) ⊎ ((c : Certificate) × IsRead m bytes c × IsSuch c answer)

-- the result for a certificate with this verdict: its bounds, if it is accepted
abbrev pub certified : Machine → Certificate → Verdict → Answer
certified m c verdict = judged (bounds_text m c) verdict

-- the result of the check of a certificate
abbrev pub IsCertified : Machine → Certificate → Answer → Type 0
IsCertified m c answer = (verdict : Verdict) × IsVerdict (system_of m) (certificate_data c) verdict × (answer ≡ certified m c verdict)

-- the result of the upgrade of a certificate: all its lines, in form 3
abbrev pub upgraded : Certificate → Answer
upgraded c = written (lines_text (lines (pos 3) c))

-- the result of `certify` for the bytes
abbrev pub IsCertification : Machine → List ℕ → Answer → Type 0
IsCertification m bytes answer = IsAnswer m (IsCertified m) bytes answer

-- the result of `upgrade` for the bytes
abbrev pub IsUpgrade : Machine → List ℕ → Answer → Type 0
IsUpgrade m bytes answer = IsAnswer m (λ c such. such ≡ upgraded c) bytes answer

-- the bytes are not parsed for this reason: a rejection, or out of memory
abbrev pub RefusesBy : Machine → List ℕ → AnswerErr → Type 0
RefusesBy m bytes why = IsNotReadBy (IsRefusal m bytes) why

-- the bounds of a certificate are not returned: it is rejected, or it is accepted and an allocation
-- failed
abbrev pub HasNoBounds : Machine → Certificate → AnswerErr → Type 0
HasNoBounds m c (error.Refused why) = IsCertified m c (refused why)
HasNoBounds m c error.Memory = IsVerdict (system_of m) (certificate_data c) Accepted
