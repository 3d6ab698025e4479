use Rattle.cert_propose.proofs.Common
use Common.{ℤ, ◌∙◌, ◌≡◌, ◌≤ℤ◌, ◌≤◌, ap₂, AreSmall, arith, candidate, ints, List, Ok, pos, subst}
use Common.{sym, System, system, vector}
use Rattle.cert_propose.specs.Candidate.{candidate_of}
use Rattle.cert_propose.specs.Proposals.{HasCandidate}
use Rattle.cert_propose.proofs.Candidates.{candidate-fits}
use Rattle.cert_propose.proofs.Machines.{starts-fit, quanta-fit, coefficients-small}
use Rattle.cert_propose.proofs.Parts.{if-err}
use Rattle.cert_propose.proofs.certificate_proposal.propose_by.Goals as goal

pub find_candidate_numbers-requires-clause-size_limit : goal.find_candidate_numbers-requires-clause-size_limit
find_candidate_numbers-requires-clause-size_limit c = subst AreSmall (sym c.requires.system) (coefficients-small c.args.m.now)

pub proposal_certificate-requires-clause-fit : goal.proposal_certificate-requires-clause-fit
proposal_certificate-requires-clause-fit c =
    let a = c.args.affine.now in
    let some : 1 ≤ c.args.affine.now.n = omega (arith, c.requires.scope.some, c.requires.size) in
    let few : c.args.affine.now.n ≤ 16 = omega (arith, c.requires.scope.few, c.requires.size) in
    let unit : pos 1 ≤ℤ c.args.affine.now.unit = omega (arith, ints, c.args.affine.now.positive) in
    candidate-fits (system c.args.affine.now) (vector c.proposal_start-start.result) c.in-Ok.x some few unit (sym c.find_candidate_numbers.ensures ∙ c.in-Ok.is)

pub proposal_certificate-requires-clause-start : goal.proposal_certificate-requires-clause-start
proposal_certificate-requires-clause-start c = rw (c.proposal_start-start.ensures, c.requires.size) (starts-fit c.args.m.now)

pub proposal_certificate-requires-clause-quanta : goal.proposal_certificate-requires-clause-quanta
proposal_certificate-requires-clause-quanta c = rw (c.proposal_quanta-quantum.ensures, c.requires.size) (quanta-fit c.args.m.now)

pub returns-in_err-cert-in-Ok-clause-memory_was_needed : goal.returns-in_err-cert-in-Ok-clause-memory_was_needed
returns-in_err-cert-in-Ok-clause-memory_was_needed c =
    let has : candidate_of c.args.m.now ≡ Ok c.in-Ok.x =
    ap₂ (λ (s : System) (xs : List ℤ). candidate s (vector xs)) (sym c.requires.system) (sym c.proposal_start-start.ensures) ∙ sym c.find_candidate_numbers.ensures ∙ c.in-Ok.is in
    if-err (HasCandidate c.args.m.now) c.from_residual.result (c.in-Ok.x, has)

pub returns-in_ok-cert-in-Ok-clause-proposed : goal.returns-in_ok-cert-in-Ok-clause-proposed
returns-in_ok-cert-in-Ok-clause-proposed c =
    let has : candidate_of c.args.m.now ≡ Ok c.in-Ok.x =
    ap₂ (λ (s : System) (xs : List ℤ). candidate s (vector xs)) (sym c.requires.system) (sym c.proposal_start-start.ensures) ∙ sym c.find_candidate_numbers.ensures ∙ c.in-Ok.is in
    let cert = rw (c.requires.size, c.proposal_start-start.ensures, c.proposal_quanta-quantum.ensures) at c.in_ok-cert-in-Ok.ensures in
    (c.in-Ok.x, has, cert, c.check-verdict.ensures.verdict)

pub returns-in_ok-cert-in-Ok-clause-bounds_guaranteed : goal.returns-in_ok-cert-in-Ok-clause-bounds_guaranteed
returns-in_ok-cert-in-Ok-clause-bounds_guaranteed c = λ e. (c.check-verdict.ensures.bounds_guaranteed e, c.check-verdict.ensures.own_runs_covered e)

pub returns-in-Err-clause-proposed : goal.returns-in-Err-clause-proposed
returns-in-Err-clause-proposed c =
    ap₂ (λ (s : System) (xs : List ℤ). candidate s (vector xs)) (sym c.requires.system) (sym c.proposal_start-start.ensures) ∙ sym c.find_candidate_numbers.ensures ∙ c.in-Err.is
