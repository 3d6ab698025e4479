-- Properties of the answers that the file `CommandAnswers` of qss_top defines.
use Rattle.std.specs.Prelude.{◌≡◌, ◌↔◌, ℕ, List, pos}
use Rattle.mu_tree.specs.ModelTree.{ModelTree}
use Rattle.cert_check.specs.CertificateLines.{lines}
use Rattle.cert_check.specs.CertificateTexts.{IsTextOf}
use Rattle.cert_check.specs.Written.{certificate_text, lines_text}
use Rattle.cert_check.specs.declared.certificate.Certificate.{Certificate}
use Rattle.qss_answers.specs.BoundTexts.{bounds_text}
use Rattle.qss_answers.specs.CertificateAnswers.{IsRead as IsCertificateRead}
use Rattle.qss_answers.specs.ProposedBounds.{IsSoundProposal}
use Rattle.qss_answers.specs.TraceAnswers.{summary}
use Rattle.qss_cli.specs.Commands.{RunOptions, Side}
use Rattle.qss_generate.specs.Source.{source as generated_source}
use Rattle.qss_machine.specs.declared.compiled_machine.Machine.{Machine}
use Rattle.qss_trace.specs.declared.trace.Trace.{Trace}
use Rattle.qss_top.specs.MachineAnswers.{Answer, IsSourceMachine, IsSourceTree, model_answer}
use Rattle.qss_top.specs.MachineAnswers.{printed_run_answer, summary_answer, text_answer}
use Rattle.qss_guarantees.specs.Guarantees.{RunsMachine, IsSecondOrderAnswer, Parses, IsCertified}
use Rattle.qss_guarantees.specs.Guarantees.{IsAcceptable, IsAcceptedCandidate, IsRunText}
use Rattle.qss_guarantees.specs.Guarantees.{TracesProperty, AreComparedRuns, HasComparison}
use Rattle.qss_top.specs.declared.status.Status.TheVariants as ends

-- `source`, `text` and `traces` are the bytes that were read.

-- `run`, `devs`: the header and the rows of the run of the source's machine
abbrev pub RunPrintsRowsOfMachine : RunOptions → (source : List ℕ) → Answer → Type 0
RunPrintsRowsOfMachine options source answer =
    RunsMachine options.share source answer (λ m. answer ≡ printed_run_answer options m)

-- `run2`: the rows of the machine's second-order run, if the machine has no clauses
abbrev pub Run2PrintsSecondOrderRows : (source : List ℕ) → Answer → Type 0
Run2PrintsSecondOrderRows source answer = RunsMachine 0 source answer (IsSecondOrderAnswer answer)

-- `print`: the canonical text of the model as which the source parses
abbrev pub PrintPrintsCanonicalText : (source : List ℕ) → Answer → Type 0
PrintPrintsCanonicalText source answer = (answer.status ≡ ends.Ok → Parses source)
    × ((tree : ModelTree) → IsSourceTree source tree → answer ≡ model_answer tree)

-- `gen`: the summary of the run of the generated source's machine
abbrev pub GenPrintsSummary : (seed cells : ℕ) → Answer → Type 0
GenPrintsSummary seed cells answer =
    RunsMachine 0 (generated_source seed cells) answer (λ m. answer ≡ summary_answer cells m)

-- `certify` is sound: with status 0 the certificate is accepted, and its bounds hold
abbrev pub CertifyIsSound : (share : ℕ) → (source text : List ℕ) → Answer → Type 0
CertifyIsSound share source text answer =
    answer.status ≡ ends.Ok → IsCertified share source text answer.out

-- `certify` is complete: status 0 and the bounds if the conditions hold and all sums are in range
abbrev pub CertifyIsComplete : (share : ℕ) → (source text : List ℕ) → Answer → Type 0
CertifyIsComplete share source text answer = (m : Machine) (c : Certificate)
    → IsSourceMachine share source m → IsAcceptable m text c → answer ≡ text_answer (bounds_text m c)

-- `propose` is sound: with status 0 the text is a certificate from the machine's start that holds
abbrev pub ProposeIsSound : (source : List ℕ) → Answer → Type 0
ProposeIsSound source answer = answer.status ≡ ends.Ok → (m : Machine)
    × IsSourceMachine 0 source m × ((c : Certificate) × IsSoundProposal m answer.out c)

-- `propose` is complete: status 0 and the candidate's text if the check accepts the candidate
abbrev pub ProposeIsComplete : (source : List ℕ) → Answer → Type 0
ProposeIsComplete source answer = (m : Machine) (c : Certificate) → IsSourceMachine 0 source m
    → IsAcceptedCandidate m c → answer ≡ text_answer (certificate_text c)

-- `check`: status 0 if and only if the text is the trace of a legitimate run; then the summary
abbrev pub CheckAcceptsRuns : (source text : List ℕ) → Answer → Type 0
CheckAcceptsRuns source text answer = RunsMachine 0 source answer (λ m.
    (answer.status ≡ ends.Ok ↔ ((t : Trace) × IsRunText m text t))
    × ((t : Trace) → IsRunText m text t → answer ≡ text_answer (summary t)))

-- `compare` is sound: with status 0 the runs are covered, and V of their difference is bounded
abbrev pub CompareIsSound : (one two : Side) → TracesProperty
CompareIsSound one two source text traces answer =
    answer.status ≡ ends.Ok → AreComparedRuns one two source text traces answer.out

-- `compare` is complete: status 0 and the text if the two runs can be compared
abbrev pub CompareIsComplete : (one two : Side) → TracesProperty
CompareIsComplete one two source text traces answer = (m : Machine) (line : List ℕ)
    → IsSourceMachine 0 source m → HasComparison m one two text traces line
    → answer ≡ text_answer line

-- `upgrade` is sound: with status 0 the text parses as the certificate that was read
abbrev pub UpgradeKeepsCertificate : (source text : List ℕ) → Answer → Type 0
UpgradeKeepsCertificate source text answer = answer.status ≡ ends.Ok → (m : Machine)
    × IsSourceMachine 0 source m × ((c : Certificate) × IsTextOf m text c × IsTextOf m answer.out c)

-- `upgrade` is complete: status 0 and the text in form 3 if the text parses as a certificate
abbrev pub UpgradeIsComplete : (source text : List ℕ) → Answer → Type 0
UpgradeIsComplete source text answer = (m : Machine) (c : Certificate) → IsSourceMachine 0 source m
    → IsCertificateRead m text c → answer ≡ text_answer (lines_text (lines (pos 3) c))
