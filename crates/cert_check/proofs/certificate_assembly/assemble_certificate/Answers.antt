use Rattle.cert_check.proofs.Common.{[], arith, get_or, of_z, refl, to_z, vector, w128}
use Rattle.cert_check.proofs.Assembled.{made-lines, one-row, kept-row}
use Rattle.cert_check.proofs.Wanted.{row-fits}
use Rattle.cert_check.proofs.certificate_assembly.assemble_certificate.Goals as goal

pub returns-clause-lines : goal.returns-clause-lines
returns-clause-lines c =
    let bound = c.in_ok-bound.ensures in
    let basin = c.in_ok-basin.ensures in
    let ellipsoid = c.in_ok-ellipsoid.ensures in
    let roots = c.in_ok-roots.ensures in
    made-lines c.args.n c.args.rows.now
    (record {
      pm = c.in_ok-bound.bound.pm;
      p = c.in_ok-bound.bound.p;
      mu = c.in_ok-bound.bound.mu;
      lambda = to_z w128 (of_z w128 c.in_ok-bound.bound.lambda);
      h1 = to_z w128 (of_z w128 c.in_ok-bound.bound.h1);
      g1 = c.in_ok-roots.roots.g1;
      h2 = to_z w128 (of_z w128 c.in_ok-roots.roots.h2);
      g2 = c.in_ok-roots.roots.g2;
      c = c.in_ok-basin.basin.c;
      r = to_z w128 (of_z w128 c.in_ok-basin.basin.r);
      z = c.in_ok-basin.basin.z;
      s = c.in_ok-basin.basin.s;
      sigma_r = c.in_ok-basin.basin.sigma_r;
      cc = to_z w128 (of_z w128 c.in_ok-ellipsoid.ellipsoid.cc);
      sigma_c = c.in_ok-ellipsoid.ellipsoid.sigma_c;
      e = c.in_ok-ellipsoid.ellipsoid.e;
      start1 = c.in_ok-ellipsoid.ellipsoid.start1;
      start2 = c.in_ok-ellipsoid.ellipsoid.start2;
      q = c.in_ok-ellipsoid.ellipsoid.q;
    })
    (vector (get_or c.args.rows.now 0 []) 0) c.requires.rows.as_many
    (one-row (get_or c.args.rows.now 0 []) (row-fits c.args.n 0 1 c.args.rows.now c.requires.rows (omega arith) refl).one_each)
    (record {
      pm = bound.pm.is;
      p = bound.p.is;
      mu = bound.mu.is;
      lambda = kept-row _ c.in_ok-bound.bound.lambda bound.lambda.within bound.lambda.is;
      h1 = kept-row _ c.in_ok-bound.bound.h1 bound.h1.within bound.h1.is;
      g1 = roots.g1.is;
      h2 = kept-row _ c.in_ok-roots.roots.h2 roots.h2.within roots.h2.is;
      g2 = roots.g2.is;
      centre = basin.centre.is;
      r = kept-row _ c.in_ok-basin.basin.r basin.r.within basin.r.is;
      z = basin.z.is;
      s = basin.s.is;
      sigma_r = basin.sigma_r.is;
      cc = kept-row _ c.in_ok-ellipsoid.ellipsoid.cc ellipsoid.cc.within ellipsoid.cc.is;
      sigma_c = ellipsoid.sigma_c.is;
      e = ellipsoid.e.is;
      start1 = ellipsoid.start1.is;
      start2 = ellipsoid.start2.is;
      q = ellipsoid.q.is;
    })
