use Rattle.mu_affine.proofs.Common.{AffineForm, ap, sym}
use Rattle.mu_affine.proofs.form_product.running_product.Goals as goal

pub returns-in-Ok-mul : goal.returns-in-Ok-mul
returns-in-Ok-mul c = record {
  between = c.set_scaled_coefficients.new.row.entries;
  firsts = rw (c.in-Ok.is, c.as_slice.ensures, c.new-all.ensures.names) at c.in_ok-set_scaled_coefficients.ensures;
  seconds = rw (c.in-Ok-2.is, c.as_slice-2.ensures) at c.in_ok-set_scaled_coefficients-2.ensures;
  pairs = rw (c.in-Ok-3.is, c.as_slice-3.ensures, c.as_slice-4.ensures, c.new-all.ensures.pairs) at c.in_ok-set_pair_products.ensures;
  time = ap (λ (f : AffineForm). f.time) c.new-all.ensures.meaning;
  constant = sym c.in-Ok-mul.ensures;
}
