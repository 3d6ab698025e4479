-- The answers to commands on a source, a machine or a model.
use Rattle.std.specs.Prelude.{◌≡◌, ◌⊎◌, ℕ, zero, suc, ℤ, ◌+◌, ◌≤◌, List, [], ◌∷◌, ◌++◌, length}
use Rattle.std.specs.Prelude.{nat_lt, codes, decimal, Option, Some, None, MatchBool}
use Rattle.std.specs.Fmt.{signed_decimal}
use Rattle.std.specs.List.{concat}
use Rattle.mu_num.specs.Limits.{model_length_limit}
use Rattle.mu_tree.specs.Canonical.{canonical_text}
use Rattle.mu_tree.specs.ModelTree.{ModelTree}
use Rattle.qss_machine.specs.Runs.{Run, run_rows}
use Rattle.qss_machine.specs.declared.compiled_machine.Machine.{Machine}
use Rattle.qss_rows.specs.RowTexts.{name_of}
use Rattle.qss_compile.specs.RefusalLines as Refusals
use Rattle.qss_compile.specs.Compilation.{SourceParsesAs, IsParseRefusal, CompilesTo, IsRefused}
use Rattle.qss_compile.specs.declared.model_refusal.Refused.{Refused}
use Rattle.qss_generate.specs.Source.{source}
use Rattle.qss_events.specs.RunTexts.{run_by_rule, run_text}
use Rattle.qss_run.specs.RunSummaries.{level_count, end_sum}
use Rattle.qss_quant.specs.declared.quantizer.Rule.TheVariants.{Floor}
use Rattle.qss_answers.specs.Answers as Results
use Rattle.qss_answers.specs.RefusalTexts.{write_refusal}
use Rattle.qss_answers.specs.CertificateAnswers.{IsCertification, IsUpgrade}
use Rattle.qss_answers.specs.declared.refusal.Refusal.TheVariants as reasons
use Rattle.qss_answers.specs.declared.refusal.Refusal.{Refusal}
use Rattle.qss_answers.specs.TraceAnswers.{IsChecked}
use Rattle.qss_answers.specs.declared.comparison_ending.ComparisonStop.{ComparisonStop}
use Rattle.qss_answers.specs.declared.comparison_ending.ComparisonStop.TheVariants as stops
use Rattle.qss_answers.specs.ProposalAnswers.{IsProposed}
use Rattle.qss_order2.specs.SecondRuns.{Past, Run2}
use Rattle.qss_order2.specs.SecondRunTexts.{second_order_run, second_run_text}
use Rattle.qss_cli.specs.Commands.{RunOptions}
use Rattle.qss_top.specs.Shares.{IsShared}
use Rattle.qss_top.specs.declared.status.Status.{Status}
use Rattle.qss_top.specs.declared.status.Status.TheVariants as ends

-- the content of the line on standard error
pub data Message : Type 0 where
  quiet : Message
  usage : Message
  too_long : Message
  refused : (bytes : List ℕ) → Message
  rejected : Refusal → Message
  overflowed : (name : List ℕ) → (tick : ℕ) → Message

-- the usage line
abbrev pub usage_line : List ℕ
usage_line = codes
    "usage: qss VERB [WORD] [WORD] [WORD] [WORD] [--rule RULE] [--only NAME] [--relative N]\n"

-- the line for a source of more than 2^20 bytes
abbrev pub too_long_line : List ℕ
too_long_line = codes "refused: top 1\n"

-- the line for a run that overflows
abbrev pub overflow_line : (name : List ℕ) → (tick : ℕ) → List ℕ
overflow_line name tick = codes "overflow: " ++ name ++ codes " at tick " ++ decimal tick ++ codes
    "\n"

-- the text is the line for a rejected source; of several cycles in its equations it names one
pub record IsRefusalText (bytes text : List ℕ) : Type 0 where
  pub refusal : Refused
  pub is : IsRefused bytes refusal
  pub same : text ≡ Refusals.line_of refusal

-- the text is the line with this content
abbrev pub IsMessageText : Message → List ℕ → Type 0
IsMessageText quiet text = text ≡ []
IsMessageText usage text = text ≡ usage_line
IsMessageText too_long text = text ≡ too_long_line
IsMessageText (refused bytes) text = IsRefusalText bytes text
IsMessageText (rejected why) text = text ≡ write_refusal why
IsMessageText (overflowed name tick) text = text ≡ overflow_line name tick

-- an answer: the status, the text on standard output, and the content of the line
pub record Answer : Type 0 where
  pub status : Status
  pub out : List ℕ
  pub line : Message

-- an answer with an empty text
abbrev pub refusal : Status → Message → Answer
refusal status line = record { status = status; out = []; line = line }

-- the status of a run, and the content of its line
abbrev pub status_of_run : Run → Status
status_of_run run = status_by run.overflow
  where
    status_by : Option ℕ → Status
    status_by None = ends.Ok
    status_by (Some var) = ends.Overflow

abbrev pub line_of_run : Machine → Run → Message
line_of_run m run = line_by run.overflow
  where
    line_by : Option ℕ → Message
    line_by None = quiet
    line_by (Some var) = overflowed (name_of m var) (length run.snapshots + 1)

-- the answer that prints the run of a machine by a rule: the header, and the line of each row that
-- passes
abbrev pub printed_run_answer : RunOptions → Machine → Answer
printed_run_answer options m = answer_by (run_by_rule options.rule m)
  where
    answer_by : Run → Answer
    answer_by run = record {
      status = status_of_run run;
      out = run_text options.only m run;
      line =
          line_of_run m run;
    }

-- the answer that prints a model
abbrev pub model_answer : ModelTree → Answer
model_answer tree = record { status = ends.Ok; out = canonical_text tree; line = quiet }

-- the answer that rejects a source: it has more than 2^20 bytes, or is rejected for such a reason
abbrev pub IsRefusalFor : (List ℕ → Refused → Type 0) → List ℕ → Answer → Type 0
IsRefusalFor Refuses bytes answer =
    MatchBool (nat_lt model_length_limit (length bytes))
    (answer ≡ refusal ends.ModelRefused too_long)
    ((r : Refused) × Refuses bytes r × (answer ≡ refusal ends.ModelRefused (refused bytes)))

-- the answer that rejects a source which does not compile
abbrev pub IsSourceRefusal : List ℕ → Answer → Type 0
IsSourceRefusal bytes answer = IsRefusalFor IsRefused bytes answer

-- the answer that rejects a source which does not parse
abbrev pub IsTreeRefusal : List ℕ → Answer → Type 0
IsTreeRefusal bytes answer = IsRefusalFor IsParseRefusal bytes answer

-- a source of at most 2^20 bytes compiles to this machine, with this relative quantum
pub record IsSourceMachine (share : ℕ) (bytes : List ℕ) (m : Machine) : Type 0 where
  pub short : length bytes ≤ model_length_limit
  pub plain : Machine
  pub means : CompilesTo bytes plain
  pub shared : IsShared share plain m

-- a source of at most 2^20 bytes parses as this model
pub record IsSourceTree (bytes : List ℕ) (tree : ModelTree) : Type 0 where
  pub short : length bytes ≤ model_length_limit
  pub spelled : SourceParsesAs bytes tree

-- the answer to a source: it is rejected, or this is the answer for its machine
abbrev pub IsMachineAnswer : (share : ℕ) → (Machine → Answer → Type 0) → List ℕ → Answer → Type 0
IsMachineAnswer share IsSuch bytes answer = IsSourceRefusal bytes answer ⊎
    ((m : Machine) × IsSourceMachine share bytes m × IsSuch m answer)

-- the answer of `run`: the source is rejected, or the run of its machine is printed
abbrev pub IsRunAnswer : RunOptions → List ℕ → Answer → Type 0
IsRunAnswer options bytes answer = IsMachineAnswer options.share
    (λ m such. such ≡ printed_run_answer options m) bytes answer

-- the answer of `print`: the source is rejected, or its model is printed
abbrev pub IsPrintAnswer : List ℕ → Answer → Type 0
IsPrintAnswer bytes answer = IsTreeRefusal bytes answer ⊎
    ((tree : ModelTree) × IsSourceTree bytes tree × (answer ≡ model_answer tree))

-- the summary of a run: a header, then the number of cells, the last tick, the number of changes of
-- levels, and the sum of the levels at the end
abbrev pub summary_of : (cells last levels : ℕ) → (sum : ℤ) → List ℕ
summary_of cells last levels sum =
    concat (codes "cells,last,levels,sum\n" ∷ decimal cells ∷ codes "," ∷ decimal last ∷ codes ","
    ∷ decimal levels ∷ codes "," ∷ signed_decimal sum ∷ codes "\n" ∷ [])

abbrev pub summary_text : (cells : ℕ) → Machine → Run → List ℕ
summary_text cells m run = summary_of cells m.last (level_count (run_rows m run))
    (end_sum (run_rows m run))

-- the answer with the summary of the machine's run with the rule `floor`
abbrev pub summary_answer : (cells : ℕ) → Machine → Answer
summary_answer cells m = answer_by (run_by_rule Floor m)
  where
    text_by : Run → Option ℕ → List ℕ
    text_by run None = summary_text cells m run
    text_by run (Some var) = []

    answer_by : Run → Answer
    answer_by run = record {
      status = status_of_run run;
      out = text_by run run.overflow;
      line =
          line_of_run m run;
    }

-- the answer of `gen`: the generated source is rejected, or the run of its machine is summarized
abbrev pub IsGenerationAnswer : (seed cells : ℕ) → Answer → Type 0
IsGenerationAnswer seed cells answer =
    IsMachineAnswer 0 (λ m such. such ≡ summary_answer cells m) (source seed cells) answer

-- the status for a rejection
abbrev pub status_of_refusal : Refusal → Status
status_of_refusal reasons.CertificateTooLong = ends.CertRefused
status_of_refusal reasons.TraceTooLong = ends.CertRefused
status_of_refusal (reasons.NotCertificate why) = ends.CertRefused
status_of_refusal (reasons.NotTrace why) = ends.CertRefused
status_of_refusal _ = ends.Rejected

-- the answer for a rejection
abbrev pub rejection : Refusal → Answer
rejection why = refusal (status_of_refusal why) (rejected why)

-- the answer with status 0 and this text
abbrev pub text_answer : List ℕ → Answer
text_answer text = record { status = ends.Ok; out = text; line = quiet }

-- the answer for the result of a certificate, a trace or a proposal
abbrev pub answer_for : Results.Answer → Answer
answer_for (Results.refused why) = rejection why
answer_for (Results.written text) = text_answer text

abbrev pub IsAnswerFor : (Results.Answer → Type 0) → Answer → Type 0
IsAnswerFor IsSuch answer = (such : Results.Answer) × IsSuch such × (answer ≡ answer_for such)

-- the answers of `certify` and `upgrade` for a machine and the bytes of a certificate
abbrev pub IsCertifyAnswer : Machine → List ℕ → Answer → Type 0
IsCertifyAnswer m text answer = IsAnswerFor (IsCertification m text) answer

abbrev pub IsUpgradeAnswer : Machine → List ℕ → Answer → Type 0
IsUpgradeAnswer m text answer = IsAnswerFor (IsUpgrade m text) answer

-- the answer of `check` for a machine and the bytes of a trace
abbrev pub IsCheckAnswer : Machine → List ℕ → Answer → Type 0
IsCheckAnswer m text answer = IsAnswerFor (IsChecked m text) answer

-- the answer of `propose` for a machine
abbrev pub IsProposeAnswer : Machine → Answer → Type 0
IsProposeAnswer m answer = IsAnswerFor (IsProposed m) answer

-- the answer for a comparison that stops for this reason
abbrev pub comparison_stop_answer : Machine → ComparisonStop → Answer
comparison_stop_answer m (stops.Refused why) = rejection why
comparison_stop_answer m (stops.Over tick var) = refusal ends.Overflow
    (overflowed (name_of m var) tick)
comparison_stop_answer m stops.Memory = refusal ends.Memory quiet

-- the status of a second-order run, and the content of its line
abbrev pub status_of_second_run : Run2 → Status
status_of_second_run run = status_by run.overflow
  where
    status_by : Option Past → Status
    status_by None = ends.Ok
    status_by (Some past) = ends.Overflow

abbrev pub line_of_second_run : Machine → Run2 → Message
line_of_second_run m run = line_by run.overflow
  where
    line_by : Option Past → Message
    line_by None = quiet
    line_by (Some past) = overflowed (name_of m past.var) past.tick

-- the answer that prints the second-order run of a machine: the header, and the line of each row
abbrev pub second_run_answer : Machine → Answer
second_run_answer m = answer_by (second_order_run m)
  where
    answer_by : Run2 → Answer
    answer_by run = record {
      status = status_of_second_run run;
      out = second_run_text m run;
      line =
          line_of_second_run m run;
    }

-- the answer of `run2`: a machine with clauses is rejected with their number; otherwise the
-- machine's
-- second-order run is printed
abbrev pub run2_answer : Machine → Answer
run2_answer m = by (length m.clauses)
  where
    by : (clauses : ℕ) → Answer
    by zero = second_run_answer m
    by (suc more) = rejection (reasons.Clauses (suc more))

-- the answer of `run2` for a machine
abbrev pub IsSecondAnswer : Machine → Answer → Type 0
IsSecondAnswer m answer = answer ≡ run2_answer m
