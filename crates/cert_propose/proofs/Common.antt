-- Names from outside the lemmas of this crate that several of its proofs cite, passed on from one place.
pub use Rattle.std.proofs.Common.{[], ℕ, ℤ, ◌*ℤ◌, ◌*◌, ◌++◌, ◌+ℤ◌, ◌+◌, ◌-ℤ◌, ◌-◌, ◌<ℤ◌, ◌<◌, ◌^◌}
pub use Rattle.std.proofs.Common.{◌∙◌, ◌∷◌, ◌≡◌, ◌≢◌, ◌≤ℤ◌, ◌≤◌, ◌⊎◌, ap, ap₂, arith, Bool, false}
pub use Rattle.std.proofs.Common.{FitsSigned, get_or, if◌then◌else◌, inl, inr, le-leb, length}
pub use Rattle.std.proofs.Common.{length-append, List, map, nat_le, neg_ℤ, None, Option, pos, refl}
pub use Rattle.std.proofs.Common.{rules, Some, subst, suc, sym, take, to_z-of_z, true, unsigned_abs}
pub use Rattle.std.proofs.Common.{zero}
pub use Rattle.std.proofs.lemmas.Bool.{cases_lt, le-ltb, lt-leb, lt-ltb}
pub use Rattle.std.proofs.lemmas.Int.{ints}
pub use Rattle.std.proofs.lemmas.List.FromFn.{get_or-map-range_with_len, length-map-range_with_len}
pub use Rattle.std.proofs.lemmas.List.FromFn.{map-range_with_len_more}
pub use Rattle.std.proofs.lemmas.Nat.{pow_below}
pub use Rattle.std.specs.Int.{int_max, w128}
pub use Rattle.std.specs.List.{range_with_len}
pub use Rattle.std.specs.Option.{option_and_then, option_map}
pub use Rattle.std.specs.Prelude.{int_le, Ok}
pub use Rattle.mu_num.specs.IndexedSums.{abs_of, sum_below, tabulate}
pub use Rattle.mu_num.specs.Rounding.{ceiling_of}
pub use Rattle.cert_matrix.proofs.Rows.{changed-square, length-changed}
pub use Rattle.cert_matrix.proofs.Weights.{beyond-base}
pub use Rattle.cert_matrix.specs.Form.{Table, Vector}
pub use Rattle.cert_matrix.specs.Matrix.{IsSquare, table, vector, weight, zeros}
pub use Rattle.cert_check.proofs.Tables.{changed-elsewhere}
pub use Rattle.cert_check.specs.CertificateData.{system}
pub use Rattle.cert_check.specs.CertificateLimits.{IsNumber, IsSquareTable, IsVector}
pub use Rattle.cert_check.specs.Inequalities.{System}
pub use Rattle.cert_propose.specs.Candidate.{basin_of, bounds_of, candidate, centre, centre_round}
pub use Rattle.cert_propose.specs.Candidate.{ellipsoid_of, exponent, form_matrix, form_round}
pub use Rattle.cert_propose.specs.Candidate.{is_exponent, least, on_diagonal, quotient_at, row_size}
pub use Rattle.cert_propose.specs.Candidate.{shifted}
pub use Rattle.cert_propose.specs.ProposalLimits.{AreSmall, IsBound}
pub use Rattle.cert_propose.specs.RangedSums.{collected, ranged, ranged_less, ranged_product}
pub use Rattle.cert_propose.specs.RangedSums.{ranged_sizes, ranged_sum, root_up_of, table_by}
pub use Rattle.cert_propose.specs.RangedSums.{vector_by, where_in_range}
unfoldable pub use Rattle.cert_propose.specs.RangedSums.{repeated, root_below}
pub use Rattle.cert_propose.specs.declared.candidate_basin.Basin.{Basin}
pub use Rattle.cert_propose.specs.declared.candidate_bounds.Bounds.{Bounds}
pub use Rattle.cert_propose.specs.declared.candidate_ellipsoid.Ellipsoid.{Ellipsoid}
pub use Rattle.cert_propose.specs.declared.certificate_proposal.Numbers.{Numbers}
