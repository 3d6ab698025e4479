-- The result of `propose` for a machine.
use Rattle.std.specs.Prelude.{◌≡◌, ◌⊎◌}
use Rattle.qss_machine.specs.declared.compiled_machine.Machine.{Machine}
use Rattle.cert_check.specs.Scope.{IsInScope, IsOutsideBy}
use Rattle.cert_check.specs.declared.certificate.Certificate.{Certificate}
use Rattle.cert_check.specs.declared.certificate_scope.Outside.{Outside}
use Rattle.cert_check.specs.declared.inequality_checker.Verdict.{Verdict}
use Rattle.cert_propose.specs.Proposals.{IsProposal}
use Rattle.cert_propose.specs.declared.certificate_proposal.Proposal.{Proposal}
use Rattle.cert_propose.specs.declared.certificate_proposal.Proposal.TheVariants as proposal
use Rattle.cert_check.specs.Written.{certificate_text}
use Rattle.qss_answers.specs.Answers.{Answer, refused, judged}
use Rattle.qss_answers.specs.declared.refusal.Refusal.TheVariants as refusal

-- the result for a candidate with this verdict: its text, if it is accepted
abbrev pub answered : Certificate → Verdict → Answer
answered c verdict = judged (certificate_text c) verdict

-- the result for a proposal
abbrev pub answer_of : Proposal → Answer
answer_of (proposal.Candidate cert verdict) = answered cert verdict
answer_of (proposal.NoCandidate step) = refused (refusal.NoCandidate step)

-- the result for a machine: the reason why it is out of scope, or the result for its proposal
abbrev pub IsProposed : Machine → Answer → Type 0
IsProposed m answer =
    ((why : Outside) × IsOutsideBy m why × (answer ≡ refused (refusal.Outside why)))
    ⊎ (IsInScope m × ((p : Proposal) × IsProposal m p × (answer ≡ answer_of p)))
