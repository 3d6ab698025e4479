use Rattle.cert_propose.proofs.Common.{arith, FitsSigned, rules, to_z-of_z, w128}
use Rattle.cert_propose.proofs.Candidates.{number-of}
use Rattle.cert_propose.proofs.Small.{zeros-fit}
use Rattle.cert_propose.proofs.certificate_proposal.proposal_certificate.Goals as goal

pub invariant_of-result : goal.invariant_of-result
invariant_of-result c =
    let lambda : FitsSigned w128 c.args.x.now.bounds.lambda = search rules in
    let r : FitsSigned w128 c.args.x.now.basin.r = search rules in
    let cc : FitsSigned w128 c.args.x.now.ellipsoid.cc = search rules in
    record {
      has_size = c.requires.size;
      has_pm = rw c.in_ok-pm.ensures c.requires.fit.pm;
      has_p = c.in_ok-p.ensures.fits;
      has_mu = c.in_ok-mu.ensures.fits;
      has_lambda = rw to_z-of_z c.requires.fit.bounds.lambda;
      has_h1 = omega arith;
      has_g1 = rw c.in_ok-g1.ensures (zeros-fit c.args.n);
      has_h2 = omega arith;
      has_g2 = rw c.in_ok-g2.ensures (zeros-fit c.args.n);
      has_c = c.in_ok-c.ensures.fits;
      has_r = rw to_z-of_z (number-of c.args.x.now.basin.r c.requires.fit.basin.r);
      has_z = c.in_ok-z.ensures.fits;
      has_s = c.in_ok-s.ensures.fits;
      has_sigma_r = c.in_ok-sigma_r.ensures.fits;
      has_cc = rw to_z-of_z c.requires.fit.ellipsoid.cc_;
      has_sigma_c = c.in_ok-sigma_c.ensures.fits;
      has_e = c.in_ok-e.ensures.fits;
      has_start1 = c.in_ok-start1.ensures.fits;
      has_start2 = c.in_ok-start2.ensures.fits;
      has_q = c.in_ok-q.ensures.fits;
    }
