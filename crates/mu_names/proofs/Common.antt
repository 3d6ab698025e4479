-- Names from outside the lemmas of this crate that several of its proofs cite, passed on from one place.
pub use Rattle.std.proofs.Common.{[], ℕ, ◌++◌, ◌+◌, ◌<◌, ◌∙◌, ◌∷◌, ◌≡◌, add-one, ap, append_assoc}
pub use Rattle.std.proofs.Common.{arith, drop, get_or, Global, inl, inr, length, List, map, pos}
pub use Rattle.std.proofs.Common.{refl, set, sym, take}
pub use Rattle.std.proofs.Math.Path.{fun_ext}
pub use Rattle.std.proofs.Math.Seq.{drop-cons}
pub use Rattle.std.proofs.lemmas.Result.{on_ok_weaker}
pub use Rattle.std.specs.List.{flat_map}
pub use Rattle.std.specs.Prelude.{◌||◌, Bool, bytes_eq, false, if◌then◌else◌, is_some, None, Option}
pub use Rattle.std.specs.Prelude.{Some, true}
pub use Prim.Native.Nat.{suc}
pub use Rattle.mu_num.specs.Fraction.{Fraction, whole}
pub use Rattle.mu_tree.specs.Expression.{Expression, expression, expression_step, factors_of, Power}
pub use Rattle.mu_tree.specs.Expression.{Reference, reference, reference_step, Scaled, scaled}
pub use Rattle.mu_tree.specs.Expression.{scaled_step, Signed, signed, signed_step, terms_of}
pub use Rattle.mu_tree.specs.ModelTree.{branch, Declaration, declaration, equation, equations_of}
pub use Rattle.mu_tree.specs.ModelTree.{model, Setting, setting, statement, statements_of}
pub use Rattle.mu_tree.specs.Nests.{statement_item, statement_items_of}
pub use Rattle.mu_tree.specs.declared.expr.Ref.{fold_out-Ref, out-Ref, Ref}
pub use Rattle.mu_tree.specs.declared.tree.SettingName.{SettingName}
pub use Rattle.mu_names.specs.Constant.{faults, product_faults, product_value, sum_faults}
pub use Rattle.mu_names.specs.Constant.{sum_value}
pub use Rattle.mu_names.specs.DeclarationFaults.{all_valued, constants_after, constants_with}
pub use Rattle.mu_names.specs.DeclarationFaults.{declarations_faults, meaning_after}
pub use Rattle.mu_names.specs.DeclarationFaults.{repeated_faults}
pub use Rattle.mu_names.specs.DeclaredRoles.{declared_by, derived_in, first_declared, is_among}
pub use Rattle.mu_names.specs.DeclaredRoles.{name_kind_in, role_by, role_of}
pub use Rattle.mu_names.specs.LeastFaults.{least_of}
unfoldable pub use Rattle.mu_names.specs.LeastFaults.{lesser}
pub use Rattle.mu_names.specs.NameTables.{added_at, entry_at, is_entry, name_kind_at}
pub use Rattle.mu_names.specs.Naming.{branches_faults, expression_faults, factors_faults}
pub use Rattle.mu_names.specs.Naming.{terms_faults}
pub use Rattle.mu_names.specs.Roles.{all_known, default_settings, is_set, model_faults}
pub use Rattle.mu_names.specs.Roles.{setting_number, settings_faults, settings_from}
pub use Rattle.mu_names.specs.declared.name_fault.NameErr.{NameErr}
pub use Rattle.mu_names.specs.declared.name_fault.NameErr.TheVariants.{Duplicate, EndName}
pub use Rattle.mu_names.specs.declared.name_kind.NameKind.{NameKind}
