-- Names from outside the lemmas of this crate that several of its proofs cite, passed on from one place.
pub use Rattle.std.proofs.Common.{[], ℕ, ℤ, ◌++◌, ◌+◌, ◌<◌, ◌==◌, ◌∙◌, ◌∷◌, ◌≡◌, ◌≤◌, ap, arith}
pub use Rattle.std.proofs.Common.{Bool, drop, false, fold, get_or, length, List, map, of_z, pos}
pub use Rattle.std.proofs.Common.{refl, set, subst, suc, sym, take, to_z, true, zero}
pub use Rattle.std.proofs.lemmas.Int.{to_z-of_z}
pub use Rattle.std.proofs.lemmas.List.{drop_more, length-append, length-map, length-set}
pub use Rattle.std.proofs.lemmas.List.{with_items_is}
pub use Rattle.std.proofs.lemmas.List.Sums.{sum_by-cons}
pub use Rattle.std.specs.Int.RustNames.{FitsSigned}
pub use Rattle.std.specs.List.{flat_map, list_any}
pub use Rattle.std.specs.Prelude.{All, is_some, None, Some, sum_by, vec_capacity}
pub use Rattle.std.specs.Vec.{with_items}
pub use mir.Syntax.{w64}
pub use Rattle.mu_num.proofs.Tests.{if_cases}
pub use Rattle.mu_num.specs.IndexedSums.{int_at}
pub use Rattle.qss_machine.specs.Handlers.{HandlerState, run_action}
pub use Rattle.qss_machine.specs.MachineLimits.{IsClause, item_count}
pub use Rattle.qss_machine.specs.declared.compiled_machine.Machine.{Machine}
pub use Rattle.qss_machine.specs.declared.machine_parts.Action.{Action}
pub use Rattle.qss_machine.specs.declared.machine_parts.Action.TheVariants.{Reinit, Set}
pub use Rattle.qss_machine.specs.declared.machine_parts.BranchInfo.{BranchInfo}
pub use Rattle.qss_machine.specs.declared.machine_parts.ClauseInfo.{ClauseInfo}
pub use Rattle.qss_machine.specs.declared.machine_parts.Form.{Form}
pub use Rattle.qss_machine.specs.declared.machine_parts.Row.{Row}
pub use Rattle.qss_hand.specs.Assigned.{AreSameBut}
pub use Rattle.qss_hand.specs.Values.{Values}
pub use Rattle.qss_hand.specs.Works.{AreValuesOf, handling_of, row_room, values_after}
