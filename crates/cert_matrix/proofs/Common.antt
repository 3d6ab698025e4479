-- Names from outside the lemmas of this crate that several of its proofs cite, passed on from one place.
pub use Rattle.std.proofs.Common.{ℕ, ℤ, ◌*ℤ◌, ◌*◌, ◌+ℤ◌, ◌+◌, ◌-ℤ◌, ◌<ℤ◌, ◌<◌, ◌==◌, ◌^◌, ◌∙◌, ◌≡◌}
pub use Rattle.std.proofs.Common.{◌≤ℤ◌, ◌≤◌, ◌⊎◌, add-one, ap, ap₂, arith, below_more, Bool, drop}
pub use Rattle.std.proofs.Common.{false, FitsSigned, get_or, if◌then◌else◌, inl, inr, length, List}
pub use Rattle.std.proofs.Common.{neg_ℤ, negsuc, pos, refl, rules, suc, sym, to_z-of_z, true}
pub use Rattle.std.proofs.Common.{unsigned_abs, zero}
pub use Rattle.std.proofs.Math.IntN.{*ℤ_comm}
pub use Rattle.std.proofs.lemmas.Bool.{cases_eq, cases_lt}
pub use Rattle.std.proofs.lemmas.Int.{by_lt_z, ints}
pub use Rattle.std.specs.Int.{w128}
pub use Rattle.mu_num.proofs.Integers.{mul-add, mul-neg}
pub use Rattle.mu_num.proofs.Sums.{sum_below-add, sum_below-le, sum_below-same, sum_below-zero}
pub use Rattle.mu_num.specs.IndexedSums.{abs_of, sum_below}
pub use Rattle.cert_matrix.specs.Form.{form, IsNeverNegative, IsSymmetric, minus_gram}
pub use Rattle.cert_matrix.specs.Form.{off_diagonal_abs, off_diagonal_sum, product, Table, times}
pub use Rattle.cert_matrix.specs.Form.{Vector}
pub use Rattle.cert_matrix.specs.Matrix.{table, vector, weight}
pub use Rattle.cert_matrix.specs.Sums.{products, weights}
