-- The bytes of the files determine at most one answer of each call that takes these bytes.
use Rattle.qss_guarantees.proofs.Common
use Common.{[], ℕ, ◌∙◌, ap, given_run, inl, inr, IsUnique, List, Machine, not_outside, rejection}
use Common.{RunSource, sym}
use Rattle.qss_cli.specs.declared.request.Task.{Task}
use Rattle.qss_top.specs.ComparisonOutcomes.{IsCompareAnswer}
use Rattle.qss_top.specs.Tasks.{IsSourceAnswer, IsTaskAnswer}
use Rattle.qss_guarantees.specs.AnswerLaws.{ByteAnswersAreUnique}
use Rattle.qss_guarantees.proofs.Sameness.{one_certify, one_check, one_comparison}
use Rattle.qss_guarantees.proofs.Sameness.{one_machine_answer, one_print, one_proposing, one_second}
use Rattle.qss_guarantees.proofs.Sameness.{one_upgrade}
use Rattle.qss_guarantees.proofs.Scopes.{one_outside}
use Rattle.qss_answers.specs.declared.refusal.Refusal.TheVariants as reasons
use Rattle.qss_cli.specs.declared.request.Task.TheVariants as tasks

one_task : (task : Task) (bytes : List ℕ) → IsUnique (IsSourceAnswer task bytes)
one_task (tasks.Run options) bytes =
    one_machine_answer options.share (IsTaskAnswer (tasks.Run options)) (λ m a b e f. e ∙ sym f)
    bytes
one_task tasks.Propose bytes = one_proposing bytes
one_task tasks.Second bytes = one_second bytes
one_task tasks.Coupled bytes =
    one_machine_answer 0 (IsTaskAnswer tasks.Coupled) (λ m a b e f. e ∙ sym f) bytes

-- two given runs of a machine have one answer
one_compare : (one two : RunSource) (text : List ℕ) (m : Machine)
    → IsUnique (IsCompareAnswer one two m text)
one_compare one two text m a b (inl (why, out, e)) (inl (other, outside, f)) =
    e ∙ ap (λ w. rejection (reasons.Outside w)) (one_outside m why other out outside) ∙ sym f
one_compare one two text m a b (inl (why, out, e)) (inr (scope, q)) =
    absurd (not_outside m why out scope)
one_compare one two text m a b (inr (scope, p)) (inl (why, out, f)) =
    absurd (not_outside m why out scope)
one_compare one two text m a b (inr (scope, p)) (inr (also, q)) =
    (one_comparison (given_run one) (given_run two) m scope text [] [] a b p q).1

pub byte_answers_are_unique : ByteAnswersAreUnique
byte_answers_are_unique = record {
  source = one_task;
  print = one_print;
  certificate = λ share bytes text. one_machine_answer share _ (λ m. one_certify m text) bytes;
  upgrade = λ bytes text. one_machine_answer 0 _ (λ m. one_upgrade m text) bytes;
  trace = λ bytes text. one_machine_answer 0 _ (λ m. one_check m text) bytes;
  comparison = λ one two bytes text. one_machine_answer 0 _ (one_compare one two text) bytes;
}
