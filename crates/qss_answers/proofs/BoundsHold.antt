-- The bounds in the texts of answers hold.
use Rattle.qss_answers.proofs.Common
use Common.{ℕ, ◌≡◌, bounds_text, Certificate, certificate_text, inl, inr, IsCertification}
use Common.{IsProposed, IsSoundCertification, IsSoundProposal, judged, List, Machine, subst, sym}
use Common.{Verdict, written}
use Rattle.qss_machine.proofs.Near.{quanta_positive}
use Rattle.cert_check.specs.CertificateData.{certificate_data}
use Rattle.cert_check.specs.CertificateTexts.{IsTextOf}
use Rattle.cert_check.specs.CheckVerdicts.{IsVerdict}
use Rattle.cert_check.specs.Inequalities.{Holds}
use Rattle.cert_check.specs.Systems.{system_of}
use Rattle.cert_check.specs.declared.inequality_checker.Verdict.TheVariants.{Accepted}
use Rattle.cert_check.proofs.Accepted.{accepted-holds}
use Rattle.cert_check.proofs.Admit.{admitted}
use Rattle.cert_check.proofs.Join.{promised}
use Rattle.cert_check.proofs.WrittenLines.{reads-back}
use Rattle.cert_solution.proofs.Halved.{halves}
use Rattle.cert_solution.proofs.Near.{reaches_solutions}
use Rattle.qss_answers.proofs.Ends.{judged_text}
use Rattle.cert_propose.specs.declared.certificate_proposal.Proposal.TheVariants as proposal

-- a certificate whose answer is a text is accepted, its inequalities hold, and the text is the one
-- for an accepted certificate
pub accepted_text : (m : Machine) (c : Certificate) (text wanted : List ℕ) (v : Verdict)
    → IsVerdict (system_of m) (certificate_data c) v → written text ≡ judged wanted v
    → IsVerdict (system_of m) (certificate_data c) Accepted
    × Holds (system_of m) (certificate_data c) × (text ≡ wanted)
accepted_text m c text wanted v is e =
    let told = judged_text text wanted v e in
    let first = subst (λ (v : Verdict). IsVerdict (system_of m) (certificate_data c) v) told.0 is in
    (first, accepted-holds (system_of m) (certificate_data c) (quanta_positive m) first, told.1)

-- written bounds of a certificate hold
pub bounds : (m : Machine) (bytes text : List ℕ) → IsCertification m bytes (written text)
    → (c : Certificate) × IsSoundCertification m bytes text c
bounds m bytes text (inl (why, h, e)) = absurd (cc)
bounds m bytes text (inr (c, read, (v, h, e))) =
    let accepted = accepted_text m c text (bounds_text m c) v h e in
    let bounded = promised m c accepted.1 in (
      c,
      record {
        reads = read.text;
        text_is = accepted.2;
        promised = bounded;
        admitted = admitted m c read.scope.plain accepted.1;
        solutions = reaches_solutions m c bounded;
        halved = halves m c accepted.1;
      },
    )

-- the bounds of a written proposal hold
pub kept_texts : (m : Machine) (text : List ℕ) → IsProposed m (written text)
    → (c : Certificate) × IsSoundProposal m text c
kept_texts m text (inl (why, out, e)) = absurd (cc)
kept_texts m text (inr (scope, (proposal.NoCandidate step, is, e))) = absurd (cc)
kept_texts m text (inr (scope, (proposal.Candidate c v, (x, has, is, h), e))) =
    let accepted = accepted_text m c text (certificate_text c) v h e in
    let bounded = promised m c accepted.1 in (
      c,
      record {
        text_is = accepted.2;
        reads = subst (λ (t : List ℕ). IsTextOf m t c) (sym accepted.2) (reads-back m c is.size);
        start = sym is.start1;
        promised = bounded;
        admitted = admitted m c scope.plain accepted.1;
        solutions = reaches_solutions m c bounded;
        halved = halves m c accepted.1;
      },
    )
