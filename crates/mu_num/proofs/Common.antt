-- Names from outside the lemmas of this crate that several of its proofs cite, passed on from one place.
pub use Rattle.std.proofs.Common.{[], ℕ, ℤ, ◌%◌, ◌*ℤ◌, ◌*◌, ◌++◌, ◌+ℤ◌, ◌+◌, ◌-ℤ◌, ◌-◌, ◌/◌, ◌<ℤ◌}
pub use Rattle.std.proofs.Common.{◌<◌, ◌^◌, ◌∙◌, ◌∷◌, ◌≡◌, ◌≢◌, ◌≤ℤ◌, ◌≤◌, add-one, ap, arith, Bool}
pub use Rattle.std.proofs.Common.{eq-eqb, false, get_or, inl, inr, length, List, lit≤, min, neg_ℤ}
pub use Rattle.std.proofs.Common.{negsuc, None, Option, pos, refl, rules, Some, subst, suc, sym}
pub use Rattle.std.proofs.Common.{take, to_z, true, zero}
pub use Rattle.std.proofs.Math.IntN.{*ℤ-one, suc_ℤ-*ℤ, zero-*ℤ}
pub use Rattle.std.proofs.Math.Nat.{dvd-mul_right, eq-one_of_dvd-one, le_of_dvd, mul-div_cancel}
pub use Rattle.std.proofs.Math.Nat.{mul-le-mul_right, mul_assoc, one-le-pow, pos_of_dvd_of_pos}
pub use Rattle.std.proofs.Math.Nat.{pow-le-pow_right, pow-suc}
pub use Rattle.std.proofs.lemmas.Bool.{both_ways, cases_Bool, cases_eq, cases_lt, eqb-true}
pub use Rattle.std.proofs.lemmas.Bool.{or_cases}
pub use Rattle.std.proofs.lemmas.Bool.Decides.{nat_tests}
pub use Rattle.std.proofs.lemmas.Int.{ints, to_z-of_z, unsigned_abs-mul}
pub use Rattle.std.proofs.lemmas.List.{take_more}
pub use Rattle.std.proofs.lemmas.List.Sums.{position_or_len_is}
pub use Rattle.std.proofs.lemmas.Nat.{mod_below, mul-le, pow-add, pow_below, pow_pos}
pub use Rattle.std.proofs.lemmas.Nat.Gcd.{IsGcd-from_mod, IsGcd-from_zero}
pub use Rattle.std.specs.Int.{int_rem_euclid, IsGcd}
pub use Rattle.std.specs.Int.RustNames.{FitsSigned, int_lt}
pub use Rattle.std.specs.List.{list_any}
pub use Rattle.std.specs.Prelude.{◌⊎◌, count_by, Err, if◌then◌else◌, int_div, nat_eq, Ok}
pub use Rattle.std.specs.Prelude.{unsigned_abs}
pub use Prim.Native.Nat.{◌∣◌}
pub use mir.Syntax.{w128}
pub use mir.Val.{of_z}
pub use Rattle.mu_num.specs.Curves.{curve_at}
pub use Rattle.mu_num.specs.Decimal.{digit_after, is_digit, is_exponent_mark, is_minus, is_point}
pub use Rattle.mu_num.specs.Decimal.{number_of}
pub use Rattle.mu_num.specs.Fraction.{Fraction, IsCoprime, IsReduced, IsSameValue, whole}
unfoldable pub use Rattle.mu_num.specs.Fraction.{checked, lowest, power}
pub use Rattle.mu_num.specs.ListedPlaces.{is_listed}
pub use Rattle.mu_num.specs.Rounding.{ceiling_of, even_of, floor_of, IsCeiling, IsFloor, IsNearest}
pub use Rattle.mu_num.specs.Rounding.{nearest_of}
pub use Rattle.mu_num.specs.Significand.{byte_after, Significand, significand}
unfoldable pub use Rattle.mu_num.specs.Significand.{scaled, value_read}
pub use Rattle.mu_num.specs.declared.NumErr.TheVariants.{Range}
