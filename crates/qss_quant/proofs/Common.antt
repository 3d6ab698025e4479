-- Names from outside the lemmas of this crate that several of its proofs cite, passed on from one place.
pub use Rattle.std.proofs.Common.{ℕ, ℤ, ◌*ℤ◌, ◌+ℤ◌, ◌-ℤ◌, ◌<ℤ◌, ◌^◌, ◌∙◌, ◌≡◌, ◌≤ℤ◌, ◌≤◌, arith}
pub use Rattle.std.proofs.Common.{Option, pos, rules, subst, sym, unsigned_abs}
pub use Rattle.std.proofs.lemmas.Int.{ints, to_z-of_z}
pub use Rattle.std.specs.Int.RustNames.{FitsSigned}
pub use mir.Syntax.{w128, w64}
pub use Rattle.mu_num.proofs.FirstTicks.{first_after-same}
pub use Rattle.mu_num.specs.Ticks.{FirstAfter}
pub use Rattle.qss_quant.specs.IntegratorLines.{IsAway}
