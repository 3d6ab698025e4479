-- The line of each reason, as the parts of its format.
use Rattle.qss_answers.proofs.Common.{ℕ, ◌∙◌, ap, string_bytes, sym}
use Rattle.std.proofs.Common.{Vec, Global}
use Rattle.cert_check.specs.declared.text_err.TextErr.{TextErr}
use Rattle.qss_answers.proofs.refusal_lines.cause_line.Goals.{in-Keyword+in_ok-line-in-Keyword}
use Rattle.qss_answers.proofs.refusal_lines.cause_line.Goals.{in-Shape+in_ok-line-in-Shape}
use Rattle.qss_answers.proofs.refusal_lines.cause_line.Goals.{in-Number+in_ok-line-in-Number}
use Rattle.qss_answers.proofs.refusal_lines.cause_line.Goals.{in-Missing+in_ok-line-in-Missing}
use Rattle.qss_answers.specs.RefusalTexts as Spec
use Rattle.qss_answers.proofs.refusal_lines.cause_line.Goals as goal

pub returns : goal.returns
returns c =
    let bytes = ap (λ (v : Vec ℕ Global). v.items) c.into_bytes.ensures.value in
    let of_cause = λ (cause : TextErr). Spec.cause_line c.args.kind.now cause in
    elim c.match-cause.branch [
      | in-Keyword+in_ok-line-in-Keyword w ↦ bytes ∙ ap string_bytes w.line-is
          ∙ w.in_ok-line-in-Keyword.ensures.ok ∙ ap of_cause (sym w.in-Keyword.is)
      | in-Shape+in_ok-line-in-Shape w ↦ bytes ∙ ap string_bytes w.line-is
          ∙ w.in_ok-line-in-Shape.ensures.ok ∙ ap of_cause (sym w.in-Shape.is)
      | in-Number+in_ok-line-in-Number w ↦ bytes ∙ ap string_bytes w.line-is
          ∙ w.in_ok-line-in-Number.ensures.ok ∙ ap of_cause (sym w.in-Number.is)
      | in-Missing+in_ok-line-in-Missing w ↦ bytes ∙ ap string_bytes w.line-is
          ∙ w.in_ok-line-in-Missing.ensures.ok ∙ ap of_cause (sym w.in-Missing.is)
    ]
