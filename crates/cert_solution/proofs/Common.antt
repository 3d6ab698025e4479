-- Names from outside the lemmas of this crate that several of its proofs cite, passed on from one place.
pub use Rattle.std.proofs.Common.{[], ℕ, ℤ, ◌*ℤ◌, ◌*◌, ◌+ℤ◌, ◌+◌, ◌-ℤ◌, ◌-◌, ◌/◌, ◌<ℤ◌, ◌<◌, ◌^◌}
pub use Rattle.std.proofs.Common.{◌∙◌, ◌∷◌, ◌≡◌, ◌≤ℤ◌, ◌≤◌, add-one, add-suc, add-zero, ap, ap₂}
pub use Rattle.std.proofs.Common.{arith, inl, inr, length, List, mul_right_comm, neg_ℤ, pos, refl}
pub use Rattle.std.proofs.Common.{subst, suc, sym, zero}
pub use Rattle.std.proofs.Math.IntN.{*ℤ_comm, zero-*ℤ}
pub use Rattle.std.proofs.Math.Nat.{le_of_mul-le-mul_right, mul-le-mul_left, mul-le-mul_right}
pub use Rattle.std.proofs.Math.Nat.{mul_comm, one-le-pow, pow-le-pow_left, pow-suc, pow-zero}
pub use Rattle.std.proofs.Math.Nat.{suc-mul, zero-mul}
pub use Rattle.std.proofs.lemmas.Bool.{cases_lt}
pub use Rattle.std.proofs.lemmas.Int.{ints}
pub use Rattle.std.proofs.lemmas.List.{length-map}
pub use Rattle.std.proofs.lemmas.List.FromFn.{length-map-range_with_len}
pub use Rattle.std.proofs.lemmas.Nat.{mul-le, pow-add, pow_pos}
pub use Rattle.std.specs.Int.RustNames.{unsigned_abs}
pub use Rattle.std.specs.Prelude.{slice_index_or}
pub use Rattle.mu_num.proofs.Integers.{mul-add, mul_assoc, one-mul}
pub use Rattle.mu_num.proofs.Sums.{sum_below-same}
pub use Rattle.mu_num.specs.Fraction.{difference, Fraction, product, sum, whole}
pub use Rattle.mu_num.specs.IndexedSums.{abs_of, int_at, sum_below}
pub use Rattle.qss_machine.proofs.Near.{unit_positive}
pub use Rattle.qss_machine.specs.Legitimate.{entry_at, scaled_slope, start_coefficient}
pub use Rattle.qss_machine.specs.Legitimate.{start_constant_part}
pub use Rattle.qss_machine.specs.Machines.{level_unit, start_states, state_count}
pub use Rattle.qss_machine.specs.RunLaws.{levels_from, states_from}
pub use Rattle.qss_machine.specs.Runs.{IsFreeExecution}
pub use Rattle.qss_machine.specs.Ticks.{Snapshot, start_snapshot}
pub use Rattle.qss_machine.specs.declared.compiled_machine.Machine.{Machine}
pub use Rattle.cert_matrix.proofs.Bilinear.{times-add, times-neg, times-scale}
pub use Rattle.cert_matrix.proofs.Order.{mul->, mul-cancel, mul-mono, mul-≥}
pub use Rattle.cert_matrix.proofs.Ring.{expand}
pub use Rattle.cert_matrix.proofs.Sizes.{size-cancel, size-same, size-scale, size-≥, weighted-size}
pub use Rattle.cert_matrix.proofs.Totals.{total-scale}
pub use Rattle.cert_matrix.specs.Form.{form, Table, times, Vector}
pub use Rattle.cert_matrix.specs.Matrix.{vector}
pub use Rattle.cert_check.proofs.Join.{same-sum}
pub use Rattle.cert_check.proofs.Run.{IsCertifiedStart}
pub use Rattle.cert_check.specs.Bounds.{CoversOwnRuns, IsCertifiedRun}
pub use Rattle.cert_check.specs.Inequalities.{Holds}
pub use Rattle.cert_check.specs.declared.certificate.Certificate.{Certificate}
pub use Rattle.cert_solution.specs.Euler.{euler, step_refinement, unit_of}
pub use Rattle.cert_solution.specs.EulerRuns.{euler_levels, euler_states, scaled}
pub use Rattle.cert_solution.specs.Rates.{growth}
unfoldable pub use Rattle.cert_solution.specs.Rates.{slope_rate, start_bound, stiffness, value_rate}
pub use Rattle.cert_solution.specs.SolutionBounds.{IsStartOf}
pub use Rattle.cert_solution.specs.Solutions.{approximation, SolutionIsWithin}
unfoldable pub use Rattle.cert_solution.specs.Solutions.{steps_for}
pub use Rattle.cert_solution.specs.StateValues.{DifferByAtMost, euler_slope, euler_value}
pub use Rattle.cert_solution.specs.StateValues.{reciprocal, run_value}
