-- The outcome of a call that writes the answer to a certificate, a trace or a machine.
use Rattle.qss_top.proofs.Common
use Common.{[], ℕ, ◌<◌, ◌^◌, ◌∙◌, ◌∷◌, ◌≡◌, ◌≢◌, ap, Bool, Certificate, ComparisonAnswers, false}
use Common.{inl, inr, IsInScope, IsOutsideBy, length, List, Machine, no_certificate, Option, Origin}
use Common.{Outside, refl, rejected, rejection, subst, sym, text_answer, WritesAnswer}
use Rattle.std.proofs.Common.{pos}
use Rattle.cert_check.specs.CertificateLines.{Line as TextLine, lines}
use Rattle.cert_check.specs.Written.{lines_text, line_text, fields_of_line}
use Rattle.qss_answers.specs.Answers.{Ends}
use Rattle.qss_answers.specs.CertificateAnswers.{IsCertification, IsUpgrade}
use Rattle.qss_answers.specs.ProposalAnswers.{IsProposed}
use Rattle.qss_answers.specs.TraceAnswers.{IsChecked, summary}
use Rattle.qss_answers.specs.declared.answer_result.AnswerResult.{AnswerResult}
use Rattle.qss_answers.proofs.BoundsHold.{bounds, kept_texts}
use Rattle.qss_top.specs.CertificateOutcomes.{outcome_by}
use Rattle.qss_top.specs.MachineAnswers.{IsAnswerFor, IsCertifyAnswer, IsUpgradeAnswer}
use Rattle.qss_top.specs.MachineAnswers.{IsCheckAnswer}
use Rattle.qss_top.proofs.FrameFacts.{answer_writes, fault_writes, memory_writes, rejection_writes}
use Rattle.qss_top.proofs.OutcomeFacts.{append_none, row_none}
use Rattle.qss_answers.specs.Answers as Results
use Rattle.qss_answers.specs.declared.answer_result.AnswerResult.TheVariants as ending
use Rattle.qss_answers.specs.declared.refusal.Refusal.TheVariants as reasons
use Rattle.qss_answers.specs.declared.comparison_ending.ComparisonStop.TheVariants as stops
use Rattle.qss_top.specs.declared.command_outcome.Outcome.TheVariants as outcome

-- ---- the text of an answer is not empty

certificate_some : (c : Certificate) (ls : List TextLine) (l : TextLine) (rest : List TextLine)
    → ls ≡ l ∷ rest → lines_text ls ≢ []
certificate_some c ls l rest is e = row_none (fields_of_line l)
    (append_none (line_text l) (lines_text rest) (ap lines_text (sym is) ∙ e)).0

pub bounds_some : (m : Machine) (bytes text : List ℕ)
    → IsCertification m bytes (Results.written text) → text ≢ []
bounds_some m bytes text is none =
    let (c, sound) = bounds m bytes text is in cc (sym sound.text_is ∙ none)

pub upgrade_some : (m : Machine) (bytes text : List ℕ) → IsUpgrade m bytes (Results.written text)
    → text ≢ []
upgrade_some m bytes text (inl (why, h, e)) none = absurd (cc)
upgrade_some m bytes text (inr (c, read, e)) none =
    let same : text ≡ lines_text (lines (pos 3) c) = cc in
    certificate_some c (lines (pos 3) c) _ _ refl (sym same ∙ none)

pub summary_some : (m : Machine) (bytes text : List ℕ) → IsChecked m bytes (Results.written text)
    → text ≢ []
summary_some m bytes text (inl (why, h, e)) none = absurd (cc)
summary_some m bytes text (inr (t, h, e)) none =
    let same : text ≡ summary t = cc in cc (sym same ∙ none)

pub proposal_some : (m : Machine) (text : List ℕ) → IsProposed m (Results.written text) → text ≢ []
proposal_some m text is none =
    let (c, sound) = kept_texts m text is in
    certificate_some c (lines (pos 3) c) _ _ refl (sym sound.text_is ∙ none)

-- ---- the outcome of a call

-- a call that ends with a result writes its answer, whose text is not empty
module _ {K : Type 0} {known : K → Option (List ℕ)} {faults : K → ℕ} {failed : K → Bool}
    {Is : Results.Answer → Type 0} {old new : K} where
  pub ends_writes : (end : AnswerResult)
      → ((text : List ℕ) → Is (Results.written text) → text ≢ [])
      → Ends known faults failed Is end old new
      → WritesAnswer known faults failed false (IsAnswerFor Is) (outcome_by end) old new
  ends_writes ending.Written some (text, is, (all, calm)) = answer_writes (text_answer text) refl
      (Results.written text, is, refl) refl refl all calm (λ e. absurd (cc e))
  ends_writes ending.Fault some (text, is, (prefix, last)) = fault_writes (text_answer text)
      (Results.written text, is, refl) (some text is) prefix last
  ends_writes (ending.Refused why) some (is, same) = subst (λ (k : K). WritesAnswer known faults
      failed false (IsAnswerFor Is) (outcome.Rejected why) old k) (sym same)
      (rejection_writes (rejected why) refl (Results.refused why, is, refl) refl)
  ends_writes ending.Memory some (takes, same) = subst (λ (k : K). WritesAnswer known faults failed
      false (IsAnswerFor Is) outcome.Memory old k) (sym same) memory_writes

-- the result of a call that succeeds
pub done_written : (end : AnswerResult) → outcome_by end ≡ outcome.Done → end ≡ ending.Written
done_written ending.Written e = refl
done_written (ending.Refused why) e = absurd (cc e)
done_written ending.Fault e = absurd (cc e)
done_written ending.Memory e = absurd (cc e)

-- ---- a machine without certificates and traces

module _ (m : Machine) (bytes : List ℕ) (why : Outside) (out : IsOutsideBy m why) where
  pub outside_certify : IsCertifyAnswer m bytes (rejection (reasons.Outside why))
  outside_certify = let reason = reasons.Outside why in
      (Results.refused reason, inl (reason, inl (why, out, refl), refl), refl)

  pub outside_upgrade : IsUpgradeAnswer m bytes (rejection (reasons.Outside why))
  outside_upgrade = let reason = reasons.Outside why in
      (Results.refused reason, inl (reason, inl (why, out, refl), refl), refl)

  pub outside_check : IsCheckAnswer m bytes (rejection (reasons.Outside why))
  outside_check = let reason = reasons.Outside why in
      (Results.refused reason, inl (reason, inl (why, out, refl), refl), refl)

-- ---- a text that is too long

module _ (m : Machine) (bytes : List ℕ) (scope : IsInScope m) where
  pub long_certify : 2 ^ 18 < length bytes
      → IsCertifyAnswer m bytes (rejection reasons.CertificateTooLong)
  long_certify long = let why = reasons.CertificateTooLong in
      (Results.refused why, inl (why, inr (inl (scope, long, refl)), refl), refl)

  pub long_upgrade : 2 ^ 18 < length bytes
      → IsUpgradeAnswer m bytes (rejection reasons.CertificateTooLong)
  long_upgrade long = let why = reasons.CertificateTooLong in
      (Results.refused why, inl (why, inr (inl (scope, long, refl)), refl), refl)

  pub long_compare : {one two : Origin} → 2 ^ 18 < length bytes
      → ComparisonAnswers one two m bytes [] (rejection reasons.CertificateTooLong)
  long_compare long = let why = reasons.CertificateTooLong in
      no_certificate (stops.Refused why) refl (inl (inl (why, inr (inl (scope, long, refl)), refl)))
      refl

  pub long_check : 2 ^ 24 < length bytes → IsCheckAnswer m bytes (rejection reasons.TraceTooLong)
  long_check long = let why = reasons.TraceTooLong in
      (Results.refused why, inl (why, inr (inl (scope, long, refl)), refl), refl)
