-- Names from outside the lemmas of this crate that several of its proofs cite, passed on from one place.
pub use Rattle.std.proofs.Common.{ℕ, ℤ, ◌*ℤ◌, ◌+ℤ◌, ◌-ℤ◌, ◌-◌, ◌<ℤ◌, ◌∙◌, ◌≡◌, ◌≢◌, ◌≤ℤ◌, ap, arith}
pub use Rattle.std.proofs.Common.{Option, pos, refl, subst, sym}
pub use Rattle.std.proofs.lemmas.Int.{ints, to_z-of_z}
pub use Rattle.std.specs.Int.RustNames.{FitsSigned}
pub use Rattle.std.specs.Prelude.{int_le, not}
pub use mir.Syntax.{w128}
pub use Rattle.mu_num.proofs.FirstTicks.{first_after-same}
pub use Rattle.mu_num.specs.Ticks.{FirstAfter}
pub use Rattle.qss_machine.specs.Machines.{compares}
pub use Rattle.qss_machine.specs.declared.machine_parts.Rel.{Rel}
pub use Rattle.qss_machine.specs.declared.machine_parts.Rel.TheVariants.{Greater, GreaterEq, Less}
pub use Rattle.qss_machine.specs.declared.machine_parts.Rel.TheVariants.{LessEq}
pub use Rattle.qss_cross.specs.Crossing.{bound_of}
