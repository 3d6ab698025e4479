-- A machine and bytes determine exactly one answer of `certify` and of `upgrade`.
use Rattle.qss_guarantees.proofs.Common
use Common.{ℕ, ◌<◌, ◌∙◌, ◌≡◌, ◌≤◌, ◌⊎◌, ap, arith, cases_lt, Certificate, certificate_data}
use Common.{certified, inl, inr, IsInScope, IsOutsideBy, IsTextOf, judged_texts, length, List}
use Common.{Machine, not_outside, refl, Refusal, refused, subst, sym, system_of, TextErr, upgraded}
use Common.{verdicts}
use Rattle.cert_check.specs.TextFaults.{IsFaultOf}
use Rattle.qss_answers.specs.Answers.{Answer}
use Rattle.qss_answers.specs.CertificateAnswers.{limit, IsRefusal, IsRead, IsAnswer, IsCertified}
use Rattle.qss_guarantees.specs.CertificateLaws.{CertificateAnswersAreOne}
use Rattle.qss_guarantees.proofs.Scopes.{one_outside, scope_of}
use Rattle.cert_check.specs.declared.certificate_scope.Outside as outsides
use Rattle.qss_answers.specs.declared.refusal.Refusal.TheVariants as refusal

one_refusal : (m : Machine) (bytes : List ℕ) (a b : Refusal) → IsRefusal m bytes a
    → IsRefusal m bytes b → a ≡ b
one_refusal m bytes a b (inl (out, p, e)) (inl (other, q, f)) = e
    ∙ ap refusal.Outside (one_outside m out other p q) ∙ sym f
one_refusal m bytes a b (inl (out, p, e)) (inr (inl (scope, long, f))) =
    absurd (not_outside m out p scope)
one_refusal m bytes a b (inl (out, p, e)) (inr (inr (scope, short, fails))) =
    absurd (not_outside m out p scope)
one_refusal m bytes a b (inr (inl (scope, long, e))) (inl (other, q, f)) =
    absurd (not_outside m other q scope)
one_refusal m bytes a b (inr (inl (scope, long, e))) (inr (inl (also, more, f))) = e ∙ sym f
one_refusal m bytes a b (inr (inl (scope, long, e))) (inr (inr (also, short, fails))) =
    absurd (omega (arith, long, short))
one_refusal m bytes a b (inr (inr (scope, short, fails))) (inl (other, q, f)) =
    absurd (not_outside m other q scope)
one_refusal m bytes a b (inr (inr (scope, short, fails))) (inr (inl (also, long, f))) =
    absurd (omega (arith, long, short))
one_refusal m bytes a b (inr (inr (scope, short, (fault, p, e))))
    (inr (inr (also, below, (other, q, f)))) =
    e ∙ ap refusal.NotCertificate (judged_texts.one_fault m bytes fault other p q) ∙ sym f

-- bytes that are read are not refused
read_fine : (m : Machine) (bytes : List ℕ) (why : Refusal) (c : Certificate) → IsRefusal m bytes why
    → IsRead m bytes c → ⊥
read_fine m bytes why c (inl (out, p, e)) read = not_outside m out p read.scope
read_fine m bytes why c (inr (inl (scope, long, e))) read = omega (arith, long, read.short)
read_fine m bytes why c (inr (inr (scope, short, (fault, p, e)))) read =
    judged_texts.not_both m bytes fault c p read.text

one_answer : (m : Machine) (bytes : List ℕ) (IsSuch : Certificate → Answer → Type 0)
    → ((c : Certificate) (a b : Answer) → IsSuch c a → IsSuch c b → a ≡ b) → (a b : Answer)
    → IsAnswer m IsSuch bytes a → IsAnswer m IsSuch bytes b → a ≡ b
one_answer m bytes IsSuch one a b (inl p) (inl q) = p.2
    ∙ ap refused (one_refusal m bytes p.0 q.0 p.1 q.1) ∙ sym q.2
one_answer m bytes IsSuch one a b (inl p) (inr q) = absurd (read_fine m bytes p.0 q.0 p.1 q.1)
one_answer m bytes IsSuch one a b (inr p) (inl q) = absurd (read_fine m bytes q.0 p.0 q.1 p.1)
one_answer m bytes IsSuch one a b (inr p) (inr q) =
    let same = judged_texts.one_certificate m bytes p.0 q.0 p.1.text q.1.text in
    let P : Certificate → Type 0 = λ c. IsSuch c a in
    one q.0 a b (subst P same p.2) q.2

some_answer : (m : Machine) (bytes : List ℕ) (IsSuch : Certificate → Answer → Type 0)
    → ((c : Certificate) → (a : Answer) × IsSuch c a) → (a : Answer) × IsAnswer m IsSuch bytes a
some_answer m bytes IsSuch some = by (scope_of m) (cases_lt limit (length bytes))
  where
    not : (why : Refusal) → IsRefusal m bytes why → (a : Answer) × IsAnswer m IsSuch bytes a
    not why h = (refused why, inl (why, h, refl))

    read : IsInScope m → length bytes ≤ limit → ((c : Certificate) × IsTextOf m bytes c)
        ⊎ ((why : TextErr) × IsFaultOf m bytes why) → (a : Answer) × IsAnswer m IsSuch bytes a
    read scope short (inl found) =
        let answer = some found.0 in (
          answer.0,
          inr (
            found.0,
            record
                { scope = scope; short = short; text = found.1 },
            answer.1,
          ),
        )
    read scope short (inr fails) =
        not (refusal.NotCertificate fails.0) (inr (inr (scope, short, (fails.0, fails.1, refl))))

    by : ((why : outsides.Outside) × IsOutsideBy m why) ⊎ IsInScope m → (limit < length bytes)
        ⊎ (length bytes ≤ limit) → (a : Answer) × IsAnswer m IsSuch bytes a
    by (inl out) h = not (refusal.Outside out.0) (inl (out.0, out.1, refl))
    by (inr scope) (inl long) = not refusal.CertificateTooLong (inr (inl (scope, long, refl)))
    by (inr scope) (inr short) = read scope short (judged_texts.judged m bytes scope)

some_certified : (m : Machine) (c : Certificate) → (a : Answer) × IsCertified m c a
some_certified m c = let v =
    verdicts.some (system_of m) (certificate_data c) in (certified m c v.0, (v.0, v.1, refl))

one_certified : (m : Machine) (c : Certificate) (a b : Answer) → IsCertified m c a
    → IsCertified m c b → a ≡ b
one_certified m c a b p q =
    p.2 ∙ ap (certified m c) (verdicts.one (system_of m) (certificate_data c) p.0 q.0 p.1 q.1)
    ∙ sym q.2

pub one_each : CertificateAnswersAreOne
one_each = record {
  some_certification = λ m bytes. some_answer m bytes (IsCertified m) (some_certified m);
  one_certification = λ m bytes a b. one_answer m bytes (IsCertified m) (one_certified m) a b;
  some_upgrade = λ m bytes. some_answer m bytes (λ c a. a ≡ upgraded c) (λ c. (upgraded c, refl));
  one_upgrade = λ m bytes a b. one_answer m bytes (λ c a. a ≡ upgraded c) (λ c a b p q. p
      ∙ sym q) a b;
}
