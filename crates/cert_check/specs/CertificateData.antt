-- The numbers of a certificate and of an affine system as vectors and matrices.
use Rattle.cert_matrix.specs.Matrix.{vector, table}
use Rattle.cert_check.specs.declared.certificate.Certificate.{Certificate}
use Rattle.cert_check.specs.declared.affine_data.AffineSystem.{AffineSystem}
use Rattle.cert_check.specs.Inequalities.{System, CertificateData}

-- the certificate's numbers, as vectors and matrices
abbrev pub certificate_data : Certificate → CertificateData
certificate_data x = record {
  pm = table x.pm;
  p = vector x.p;
  mu = vector x.mu;
  lambda = x.lambda;
  h1 = x.h1;
  g1 = table x.g1;
  h2 = x.h2;
  g2 = table x.g2;
  c = vector x.c;
  r = x.r;
  z = vector x.z;
  s = vector x.s;
  sigma_r = vector x.sigma_r;
  cc = x.cc;
  sigma_c = vector x.sigma_c;
  e = vector x.e;
  start1 = vector x.start1;
  start2 = vector x.start2;
  q = vector x.q;
}

-- the affine system, as vectors and matrices
abbrev pub system : AffineSystem → System
system m = record {
  n = m.n;
  coef = table m.coef;
  constant = vector m.constant;
  quantum = vector m.quantum;
  unit = m.unit;
  share = m.share;
}
