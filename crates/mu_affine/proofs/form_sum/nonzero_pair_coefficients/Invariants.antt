use Rattle.mu_affine.proofs.Common.{◌++◌, ◌≡◌, filter, is_nonzero, map, paired}
use Rattle.mu_affine.proofs.form_sum.nonzero_pair_coefficients.Given as goal

abbrev pub invariant-loop-pair : goal.invariant-loop-pair
invariant-loop-pair l = map paired l.all.items ++ filter (λ c. is_nonzero c.1) l.pair-iterator ≡ filter (λ c. is_nonzero c.1) l.row.entries
