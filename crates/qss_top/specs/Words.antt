-- Definitions of this crate that clauses of many subjects cite. Declares nothing.
pub use Rattle.qss_top.specs.CertificateOutcomes.{IsRefusedBefore, IsTextUnparsed}
pub use Rattle.qss_top.specs.CertifiedRuns.{AreCertifiedBy}
pub use Rattle.qss_top.specs.CommandAnswers.{ComparisonAnswers, IsScopedMachine}
pub use Rattle.qss_top.specs.ComparisonOutcomes.{FirstRunAnswers, IsCompareAnswer, IsStopOutcome}
pub use Rattle.qss_top.specs.ComparisonOutcomes.{ObtainsTrace, PairAnswer, SecondRunAnswers}
pub use Rattle.qss_top.specs.ComparisonOutcomes.{names_of}
pub use Rattle.qss_top.specs.Frames.{AnswersFromFiles, WritesAnswer}
pub use Rattle.qss_top.specs.MachineAnswers.{IsCertifyAnswer, IsCheckAnswer, IsMachineAnswer}
pub use Rattle.qss_top.specs.MachineAnswers.{IsPrintAnswer, IsSourceMachine, IsUpgradeAnswer}
pub use Rattle.qss_top.specs.MachineAnswers.{overflow_line, status_of_refusal, text_answer}
pub use Rattle.qss_top.specs.Tasks.{IsSourceAnswer, given_in, origin_in, task_goes}
pub use Rattle.qss_top.specs.WrittenTexts.{IsLineWritten}
pub use Rattle.qss_top.specs.declared.command_outcome.Outcome.{Outcome}
