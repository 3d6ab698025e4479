use Rattle.mu_affine.proofs.Common.{◌++◌, ◌≡◌, filter, is_nonzero, map, named}
use Rattle.mu_affine.proofs.form_sum.nonzero_coefficients.Given as goal

abbrev pub invariant-loop-var : goal.invariant-loop-var
invariant-loop-var l = map named l.all.items ++ filter (λ c. is_nonzero c.1) l.var-iterator ≡ filter (λ c. is_nonzero c.1) l.row.entries
