use Rattle.mu_affine.proofs.Common
use Common.{◌≡◌, exceeds, list_all, not, rounded, rounded_products, take, true}
use Rattle.mu_affine.proofs.rounded_form.round_form_products.Given as goal

-- the products of the coefficients so far, of which none passes the limit
abbrev pub invariant-loop-e : goal.invariant-loop-e
invariant-loop-e l = record {
  so_far : l.products.items ≡ rounded_products l.p (take l.e-index l.exact);
  small : list_all (λ e. not (exceeds 44 (rounded l.p e.coef))) (take l.e-index l.exact) ≡ true;
}
