-- What status 0 of `certify` and of `compare` guarantees.
use Rattle.std.specs.Prelude.{◌≡◌, ◌≢◌, ◌⊎◌, ℕ, ◌*◌, ◌<◌, ◌≤◌, List, [], length, ℤ}
use Rattle.mu_tree.specs.ModelTree.{ModelTree}
use Rattle.qss_machine.specs.Machines.{state_count}
use Rattle.qss_machine.specs.declared.compiled_machine.Machine.{Machine}
use Rattle.cert_check.specs.Bounds.{BoundsAreGuaranteed, IsCertifiedRun, CoversOwnRuns}
use Rattle.cert_check.specs.Scope.{IsInScope}
use Rattle.cert_check.specs.CertificateData.{certificate_data}
use Rattle.cert_check.specs.Inequalities.{Holds}
use Rattle.cert_check.specs.InequalityTable.{AreSumsInRange}
use Rattle.cert_check.specs.Systems.{system_of}
use Rattle.cert_check.specs.declared.certificate.Certificate.{Certificate}
use Rattle.cert_check.specs.declared.inequality_checker.Verdict.TheVariants.{Accepted}
use Rattle.cert_propose.specs.Proposals.{IsProposal}
use Rattle.cert_propose.specs.declared.certificate_proposal.Proposal.TheVariants.{Candidate}
use Rattle.cert_solution.specs.HalfBounds.{half_bound}
use Rattle.cert_solution.specs.SolutionBounds.{IsStartOf, certified_bound}
use Rattle.cert_solution.specs.Solutions.{SolutionIsWithin}
use Rattle.cert_solution.specs.StateValues.{run_value}
use Rattle.qss_answers.specs.BoundTexts.{bounds_text}
use Rattle.qss_answers.specs.CertificateAnswers.{IsRead as IsCertificateRead}
use Rattle.qss_answers.specs.Comparisons.{IsUsableCertificate, IsCompared}
use Rattle.qss_answers.specs.TraceAnswers.{IsRead as IsTraceRead}
use Rattle.qss_trace.specs.Trace.{IsRunOf}
use Rattle.qss_answers.specs.ComparedBounds.{AreWithinBound}
use Rattle.qss_cli.specs.Commands.{Side}
use Rattle.qss_trace.specs.declared.trace.Trace.{Trace}
use Rattle.qss_top.specs.CommandAnswers.{AreNamedRuns, origin_of}
use Rattle.qss_top.specs.MachineAnswers.{Answer, IsSourceMachine, IsSourceTree, second_run_answer}
use Rattle.qss_top.specs.declared.status.Status.{Status}
use Rattle.qss_top.specs.declared.status.Status.TheVariants as ends

-- the source compiles to a machine
abbrev pub Compiles : (share : ℕ) → (source : List ℕ) → Type 0
Compiles share source = (m : Machine) × IsSourceMachine share source m

-- the source parses as a model
abbrev pub Parses : (source : List ℕ) → Type 0
Parses source = (tree : ModelTree) × IsSourceTree source tree

-- the status of a run: 0, or 6 if it overflows
abbrev pub IsRunStatus : Status → Type 0
IsRunStatus status = (status ≡ ends.Ok) ⊎ (status ≡ ends.Overflow)

-- status 0 or 6 only if the source compiles to a machine, and then this holds for the machine
abbrev pub RunsMachine : (share : ℕ) → (source : List ℕ) → Answer → (Machine → Type 0) → Type 0
RunsMachine share source answer Has = (IsRunStatus answer.status → Compiles share source)
    × ((m : Machine) → IsSourceMachine share source m → Has m)

-- the second-order run of a machine without clauses is printed; a machine with clauses is rejected
abbrev pub IsSecondOrderAnswer : Answer → Machine → Type 0
IsSecondOrderAnswer answer m = (m.clauses ≡ [] → answer ≡ second_run_answer m)
    × (m.clauses ≢ [] → answer.status ≡ ends.Rejected)

-- ---- `check` and `propose`

-- the text parses as this trace, which is a legitimate run of the machine from its start, with the
-- quanta that the trace states
abbrev pub IsRunText : Machine → (text : List ℕ) → Trace → Type 0
IsRunText m text t = IsTraceRead m text t × IsRunOf m t

-- the machine has certificates, and the check accepts this candidate
abbrev pub IsAcceptedCandidate : Machine → Certificate → Type 0
IsAcceptedCandidate m c = IsInScope m × IsProposal m (Candidate c Accepted)

-- ---- `certify`

-- the conditions of the certificate hold, and every sum in them is in range
abbrev pub ConditionsHoldInRange : Machine → Certificate → Type 0
ConditionsHoldInRange m c = Holds (system_of m) (certificate_data c)
    × AreSumsInRange (system_of m) (certificate_data c)

-- the text parses as this certificate of the machine, whose conditions hold with all sums in range
abbrev pub IsAcceptable : Machine → (text : List ℕ) → Certificate → Type 0
IsAcceptable m text c = IsCertificateRead m text c × ConditionsHoldInRange m c

-- each covered run is within the bounds E of the solutions from both starts, at each time
-- place/grid, in ticks
abbrev pub RunsStayNearSolutions : Machine → Certificate → Type 0
RunsStayNearSolutions m c = (scale refinement : ℕ) (states levels : List (List ℤ))
    → IsCertifiedRun m c scale refinement states levels → (start : List ℤ) → IsStartOf c start
    → (grid i place j : ℕ) → 1 ≤ grid → i < length states → i * grid ≡ place * refinement
    → j < state_count m
    → SolutionIsWithin m start grid place j (certified_bound m c j) (run_value scale states i j)

-- each covered run is within E/2 of the solution from its own start
abbrev pub RunsStayNearOwnSolution : Machine → Certificate → Type 0
RunsStayNearOwnSolution m c = (scale refinement : ℕ) (states levels : List (List ℤ))
    → (run : IsCertifiedRun m c scale refinement states levels) → (grid i place j : ℕ) → 1 ≤ grid
    → i < length states → i * grid ≡ place * refinement → j < state_count m
    → SolutionIsWithin m run.start grid place j (half_bound m c j) (run_value scale states i j)

-- the source compiles to a machine that has certificates; the text parses as a certificate of it,
-- whose conditions hold with all sums in range; the output states the certificate's bounds E
-- any two covered runs are within E of each other, and each is within E of both solutions and
-- within E/2 of the solution from its own start; the machine's own runs from the certificate's
-- starts
-- are covered, by every rule
pub record IsCertified (share : ℕ) (source text out : List ℕ) : Type 0 where
  pub machine : Machine
  pub means : IsSourceMachine share source machine
  pub certificate : Certificate
  pub read : IsCertificateRead machine text certificate
  pub conditions : Holds (system_of machine) (certificate_data certificate)
  pub in_range : AreSumsInRange (system_of machine) (certificate_data certificate)
  pub printed : out ≡ bounds_text machine certificate
  pub bounds : BoundsAreGuaranteed machine certificate
  pub solutions : RunsStayNearSolutions machine certificate
  pub own_solution : RunsStayNearOwnSolution machine certificate
  pub own_runs : CoversOwnRuns machine certificate

-- ---- `compare`

-- the source compiles to a machine; the text parses as a certificate of it, which is accepted, has
-- the machine's start, and whose conditions hold
-- the two runs that the command names are legitimate runs of the machine from its start, whose
-- quanta are at most the certificate's; the output states the greatest V of their difference and a
-- bound, and this V is at most the bound
pub record AreComparedRuns (one two : Side) (source text : List ℕ) (traces : List (List ℕ))
    (out : List ℕ) : Type 0 where
  pub machine : Machine
  pub means : IsSourceMachine 0 source machine
  pub certificate : Certificate
  pub usable : IsUsableCertificate machine text certificate
  pub conditions : Holds (system_of machine) (certificate_data certificate)
  pub first : Trace
  pub second : Trace
  pub named : AreNamedRuns machine certificate (origin_of one) (origin_of two) traces first second
  pub within : AreWithinBound machine certificate first second out

-- a property of answers for a source, a certificate's text and the texts of traces
abbrev pub TracesProperty : Type 1
TracesProperty = (source text : List ℕ) (traces : List (List ℕ)) → Answer → Type 0

-- the certificate is accepted and has the machine's start; the two runs that the command names have
-- traces with quanta at most the certificate's; all sums of their comparison, which has this text,
-- are in range
pub record HasComparison (m : Machine) (one two : Side) (text : List ℕ) (traces : List (List ℕ))
    (line : List ℕ) : Type 0 where
  pub certificate : Certificate
  pub usable : IsUsableCertificate m text certificate
  pub first : Trace
  pub second : Trace
  pub named : AreNamedRuns m certificate (origin_of one) (origin_of two) traces first second
  pub compared : IsCompared m certificate first second line
