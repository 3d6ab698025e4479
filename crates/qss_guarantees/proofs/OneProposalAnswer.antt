-- A machine determines exactly one answer of `propose`.
use Rattle.qss_guarantees.proofs.Common
use Common.{ℕ, ℤ, ◌∙◌, ◌≡◌, ◌⊎◌, answer_of, ap, ap₂, arith, Certificate, certificate_data}
use Common.{certificate_text, inl, inr, IsInScope, IsOutsideBy, IsProposed, IsTextOf, judged_texts}
use Common.{lines, lines_text, List, Machine, not_outside, Ok, pos, Proposal, reads-back, refl}
use Common.{refused, start_states, state_count, subst, sym, system_of, verdicts}
use Rattle.std.specs.Prelude.{Result, Err}
use Rattle.qss_machine.specs.Machines.{quanta}
use Rattle.cert_matrix.specs.Matrix.{vector, zeros}
use Rattle.cert_check.specs.CertificateLimits.{IsSize}
use Rattle.cert_check.specs.CheckVerdicts.{IsVerdict}
use Rattle.qss_guarantees.proofs.Scopes.{one_outside, scope_of}
use Rattle.cert_propose.specs.Candidate.{Computed, candidate_of}
use Rattle.cert_propose.specs.ProposalLimits.{AreFit}
use Rattle.cert_propose.specs.Proposals.{IsCandidate, IsProposal}
use Rattle.cert_propose.proofs.Candidates.{candidate-fits, number-of}
use Rattle.cert_propose.proofs.Machines.{starts-fit, quanta-fit, unit-≥}
use Rattle.cert_propose.proofs.Small.{zeros-fit}
use Rattle.qss_answers.specs.Answers.{Answer}
use Rattle.qss_answers.specs.ProposalAnswers.{answered}
use Rattle.qss_guarantees.specs.ProposalLaws.{ProposalsAreOne}
use Rattle.cert_check.specs.declared.certificate_scope.Outside as outsides
use Rattle.cert_propose.specs.declared.certificate_proposal.Proposal.TheVariants as proposal
use Rattle.qss_answers.specs.declared.refusal.Refusal.TheVariants as refusal

-- ---- one

-- a candidate is one certificate, since its text reads as one
one_certificate : (m : Machine) (n : ℕ) (start quanta : List ℤ) (x : Computed) (a b : Certificate)
    → n ≡ state_count m → IsCandidate n start quanta x a → IsCandidate n start quanta x b → a ≡ b
one_certificate m n start quanta x a b size p q =
    let same : lines (pos 3) a ≡ lines (pos 3) b =
    rw (
      p.pm,
      p.p,
      p.mu,
      p.lambda,
      p.h1,
      p.g1,
      p.h2,
      p.g2,
      p.centre,
      p.r,
      p.z,
      p.s,
      p.sigma_r,
      p.cc_,
      p.sigma_c,
      p.e,
      p.start1,
      p.start2,
      p.q,
      q.pm,
      q.p,
      q.mu,
      q.lambda,
      q.h1,
      q.g1,
      q.h2,
      q.g2,
      q.centre,
      q.r,
      q.z,
      q.s,
      q.sigma_r,
      q.cc_,
      q.sigma_c,
      q.e,
      q.start1,
      q.start2,
      q.q,
    ) refl in
    let text : certificate_text a ≡ certificate_text b = ap lines_text same in
    let P : List ℕ → Type 0 = λ t. IsTextOf m t a in
    judged_texts.one_certificate m (certificate_text b) a b (subst P text
    (reads-back m a (p.size ∙ size))) (reads-back m b (q.size ∙ size))

same_numbers : (x y : Computed) (o : Result Computed ℕ) → o ≡ Ok x → o ≡ Ok y → x ≡ y
same_numbers x y o e f = cc

one_proposal : (m : Machine) (a b : Proposal) → IsProposal m a → IsProposal m b
    → answer_of a ≡ answer_of b
one_proposal m (proposal.Candidate c v) (proposal.Candidate d w) (x, e, is, first)
    (y, f, also, second) =
    let same : y ≡ x = same_numbers y x (candidate_of m) f e in
    let P : Computed → Type 0 = λ z. IsCandidate (state_count m) (start_states m) (quanta m) z d in
    let cert : c ≡ d = one_certificate m (state_count m) (start_states m) (quanta m) x c d refl is
    (subst P same also) in
    let Q : Certificate → Type 0 = λ z. IsVerdict (system_of m) (certificate_data z) v in
    let verdict : v ≡ w =
    verdicts.one (system_of m) (certificate_data d) v w (subst Q cert first) second in
    ap₂ answered cert verdict
one_proposal m (proposal.Candidate c v) (proposal.NoCandidate s) (x, e, is, first) f = absurd (cc)
one_proposal m (proposal.NoCandidate s) (proposal.Candidate d w) e (y, f, also, second) =
    absurd (cc)
one_proposal m (proposal.NoCandidate s) (proposal.NoCandidate t) e f =
    let same : s ≡ t = cc in rw same refl

one : (m : Machine) (a b : Answer) → IsProposed m a → IsProposed m b → a ≡ b
one m a b (inl (why, p, e)) (inl (other, q, f)) = e ∙ rw (one_outside m why other p q) (sym f)
one m a b (inl (why, p, e)) (inr (scope, (q, is, f))) = absurd (not_outside m why p scope)
one m a b (inr (scope, (p, is, e))) (inl (other, q, f)) = absurd (not_outside m other q scope)
one m a b (inr (scope, (p, is, e))) (inr (also, (q, is', f))) = e ∙ one_proposal m p q is is'
    ∙ sym f

-- ---- some

-- the certificate of a candidate
abbrev certificate : (m : Machine) (x : Computed) → IsSize (state_count m)
    → AreFit (state_count m) x → Certificate
certificate m x size fit = record {
  n = state_count m;
  pm = x.pm;
  p = x.bounds.p;
  mu = x.bounds.mu;
  lambda = x.bounds.lambda;
  h1 = pos 1;
  g1 = zeros (state_count m);
  h2 = pos 1;
  g2 = zeros (state_count m);
  c = x.c;
  r = x.basin.r;
  z = x.basin.reach.z;
  s = x.basin.reach.s;
  sigma_r = x.basin.reach.sigma;
  cc = x.ellipsoid.cc;
  sigma_c = x.ellipsoid.sigma;
  e = x.ellipsoid.e;
  start1 = start_states m;
  start2 = start_states m;
  q = quanta m;
  has_size = size;
  has_pm = fit.pm;
  has_p = fit.bounds.p;
  has_mu = fit.bounds.mu;
  has_lambda = fit.bounds.lambda;
  has_h1 = omega arith;
  has_g1 = zeros-fit (state_count m);
  has_h2 = omega arith;
  has_g2 = zeros-fit (state_count m);
  has_c = fit.c;
  has_r = number-of x.basin.r fit.basin.r;
  has_z = fit.basin.reach.z;
  has_s = fit.basin.reach.s;
  has_sigma_r = fit.basin.reach.sigma;
  has_cc = fit.ellipsoid.cc_;
  has_sigma_c = fit.ellipsoid.sigma;
  has_e = fit.ellipsoid.e;
  has_start1 = starts-fit m;
  has_start2 = starts-fit m;
  has_q = quanta-fit m;
}

certificate_is : (m : Machine) (x : Computed) (size : IsSize (state_count m))
    (fit : AreFit (state_count m) x)
    → IsCandidate (state_count m) (start_states m) (quanta m) x (certificate m x size fit)
certificate_is m x size fit = record {
  size = refl;
  pm = refl;
  p = refl;
  mu = refl;
  lambda = refl;
  h1 = refl;
  g1 = refl;
  h2 = refl;
  g2 = refl;
  centre = refl;
  r = refl;
  z = refl;
  s = refl;
  sigma_r = refl;
  cc_ = refl;
  sigma_c = refl;
  e = refl;
  start1 = refl;
  start2 = refl;
  q = refl;
}

-- what is proposed for a machine in scope
some_proposal : (m : Machine) → IsInScope m → (p : Proposal) × IsProposal m p
some_proposal m scope = by (candidate_of m) refl
  where
    by : (o : Result Computed ℕ) → candidate_of m ≡ o → (p : Proposal) × IsProposal m p
    by (Err step) e = (proposal.NoCandidate step, e)
    by (Ok x) e =
        let size : IsSize (state_count m) = record { some = scope.some; few = scope.few } in
        let fit = candidate-fits (system_of m) (vector (start_states m)) x scope.some scope.few
        (unit-≥ m) e in
        let c = certificate m x size fit in
        let v = verdicts.some (system_of m) (certificate_data c) in
        (proposal.Candidate c v.0, (x, e, certificate_is m x size fit, v.1))

some : (m : Machine) → (a : Answer) × IsProposed m a
some m = by (scope_of m)
  where
    by : ((why : outsides.Outside) × IsOutsideBy m why) ⊎ IsInScope m → (a : Answer)
        × IsProposed m a
    by (inl (why, out)) = (refused (refusal.Outside why), inl (why, out, refl))
    by (inr scope) = let p = some_proposal m scope in (answer_of p.0, inr (scope, (p.0, p.1, refl)))

pub one_proposed : ProposalsAreOne
one_proposed = record { some = some; one = one }
