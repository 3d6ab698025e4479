use Rattle.mu_names.proofs.Common
use Common.{[], ◌∙◌, ◌∷◌, ◌≡◌, all_known, all_valued, ap, branches_faults, bytes_eq}
use Common.{constants_after, declaration, declarations_faults, default_settings, derived_in}
use Common.{EndName, entry_at, equation, equations_of, fun_ext, if◌then◌else◌, least_of, length}
use Common.{List, map, meaning_after, model, name_kind_at, repeated_faults, setting}
use Common.{settings_faults, settings_from, statement, statement_item, statement_items_of}
use Common.{statements_of}
use Rattle.mu_tree.specs.declared.flat.Settings.{Settings}
use Rattle.mu_tree.specs.ModelTree.{clause, clauses_of}
use Rattle.mu_names.specs.declared.declared_scope.Known.{Known}
use Rattle.mu_names.specs.declared.declared_scope.Scope.{Scope}
use Rattle.mu_names.specs.DeclarationFaults.{no_constants}
use Rattle.mu_tree.specs.Nests.{clause_item, clause_items_of, equation_item, equation_items_of}
use Rattle.mu_names.specs.Naming.{clauses_faults, equations_faults, one_equation_faults}
use Rattle.mu_names.specs.Naming.{one_start_faults, starts_faults}
use Rattle.mu_names.specs.Roles.{meaning_in, settings_in, scope_of}
use Rattle.mu_names.specs.DeclaredRoles.{declared_in}
use Rattle.mu_names.proofs.LeastLemmas.{noted_seven}
use Rattle.mu_names.proofs.NestedFaults.{named}
use Rattle.mu_names.proofs.TableLemmas.{empty_table, length-all_valued}
use Rattle.mu_names.proofs.name_checks.check_scope.Goals as goal

pub known_declared_names-requires-clause-same : goal.known_declared_names-requires-clause-same
known_declared_names-requires-clause-same c =
    ap length (c.deref-7.ensures.value ∙ c.in_ok-values.ensures.values)
    ∙ length-all_valued (name_kind_at c.in_ok-declared.declared) (entry_at c.new-constants.result) (map declaration c.deref-2.result.now)
    ∙ ap (λ ds. length (map declaration ds)) c.deref-2.ensures.value

pub returns-clause-scope : goal.returns-clause-scope
returns-clause-scope c =
    let m = model c.args.m.now in
    let none : entry_at c.new-constants.result ≡ no_constants = fun_ext (empty_table c.new-constants.result c.new-constants.ensures.empty) in
    let declared : name_kind_at c.in_ok-declared.declared ≡ declared_in m = c.in_ok-declared.ensures.table in
    let values : c.deref-7.result.now ≡ all_valued (declared_in m) no_constants m.decls =
    c.deref-7.ensures.value ∙ c.in_ok-values.ensures.values
    ∙ ap (λ d. all_valued d (entry_at c.new-constants.result) (map declaration c.deref-2.result.now)) declared
    ∙ ap (λ k. all_valued (declared_in m) k (map declaration c.deref-2.result.now)) none
    ∙ ap (λ ds. all_valued (declared_in m) no_constants (map declaration ds)) c.deref-2.ensures.value in
    let constants : entry_at c.evaluate_declarations.new.constants ≡ constants_after (declared_in m) no_constants m.decls =
    c.in_ok-values.ensures.constants
    ∙ ap (λ d. constants_after d (entry_at c.new-constants.result) (map declaration c.deref-2.result.now)) declared
    ∙ ap (λ k. constants_after (declared_in m) k (map declaration c.deref-2.result.now)) none
    ∙ ap (λ ds. constants_after (declared_in m) no_constants (map declaration ds)) c.deref-2.ensures.value in
    let settings : c.model_settings-settings.result ≡ settings_in m =
    c.model_settings-settings.ensures.settings
    ∙ ap (λ d. settings_from (meaning_after (entry_at c.evaluate_declarations.new.constants) d) default_settings (map setting c.deref-3.result.now)) declared
    ∙ ap (λ k. settings_from (meaning_after k (declared_in m)) default_settings (map setting c.deref-3.result.now)) constants
    ∙ ap (λ xs. settings_from (meaning_in m) default_settings (map setting xs)) c.deref-3.ensures.value in
    let known : c.new.result ≡ all_known (settings_in m).quantum (derived_in m) m.decls (all_valued (declared_in m) no_constants m.decls) =
    c.new.ensures ∙ c.in_ok-known.ensures
    ∙ ap (λ (s : Settings). all_known s.quantum (derived_in m) m.decls c.deref-7.result.now) settings
    ∙ ap (all_known (settings_in m).quantum (derived_in m) m.decls) values in
    let scope_with : List Known → Settings → Scope = λ k s. record { known = k; settings = s } in
    ap (λ k. scope_with k c.model_settings-settings.result) known ∙ ap (scope_with (scope_of m).known) settings

pub returns-clause-faults : goal.returns-clause-faults
returns-clause-faults c =
    let m = model c.args.m.now in
    let none : entry_at c.new-constants.result ≡ no_constants = fun_ext (empty_table c.new-constants.result c.new-constants.ensures.empty) in
    let declared : name_kind_at c.in_ok-declared.declared ≡ declared_in m = c.in_ok-declared.ensures.table in
    let constants : entry_at c.evaluate_declarations.new.constants ≡ constants_after (declared_in m) no_constants m.decls =
    c.in_ok-values.ensures.constants
    ∙ ap (λ d. constants_after d (entry_at c.new-constants.result) (map declaration c.deref-2.result.now)) declared
    ∙ ap (λ k. constants_after (declared_in m) k (map declaration c.deref-2.result.now)) none
    ∙ ap (λ ds. constants_after (declared_in m) no_constants (map declaration ds)) c.deref-2.ensures.value in
    noted_seven _ _ _ _ _ _ _ _
    (if bytes_eq m.name m.end_name then [] else EndName m.end_at ∷ [])
    (repeated_faults (derived_in m) [] m.decls)
    (declarations_faults (declared_in m) no_constants m.decls)
    (settings_faults (meaning_in m) [] m.settings)
    (starts_faults (declared_in m) [] (statements_of m.starts))
    (equations_faults (declared_in m) [] (equations_of m.equations))
    (clauses_faults (declared_in m) [] (clauses_of m.clauses))
    c.check_end_name.ensures
    c.in_ok-declared.ensures.faults
    (c.in_ok-values.ensures.faults
    ∙ ap (λ d. least_of c.declared_names.new.least (declarations_faults d (entry_at c.new-constants.result) (map declaration c.deref-2.result.now))) declared
    ∙ ap (λ k. least_of c.declared_names.new.least (declarations_faults (declared_in m) k (map declaration c.deref-2.result.now))) none
    ∙ ap (λ ds. least_of c.declared_names.new.least (declarations_faults (declared_in m) no_constants (map declaration ds))) c.deref-2.ensures.value)
    (c.model_settings-settings.ensures.faults
    ∙ ap (λ d. least_of c.evaluate_declarations.new.least (settings_faults (meaning_after (entry_at c.evaluate_declarations.new.constants) d) [] (map setting c.deref-3.result.now))) declared
    ∙ ap (λ k. least_of c.evaluate_declarations.new.least (settings_faults (meaning_after k (declared_in m)) [] (map setting c.deref-3.result.now))) constants
    ∙ ap (λ xs. least_of c.evaluate_declarations.new.least (settings_faults (meaning_in m) [] (map setting xs))) c.deref-3.ensures.value)
    (c.in_ok-check_items.ensures.faults
    ∙ ap (least_of c.model_settings-settings.new.least)
    (named one_start_faults statement statement_item _ (declared_in m) _ [] _ c.args.m.now.starts.items
    _ declared c.new-loops.ensures.items c.deref-4.ensures.value (statement_items_of m.starts)))
    (c.in_ok-check_items-2.ensures.faults
    ∙ ap (least_of c.check_items.new.least)
    (named one_equation_faults equation equation_item _ (declared_in m) _ [] _
    c.args.m.now.equations.items _ declared
    (c.in_ok-check_items.ensures.loops ∙ c.new-loops.ensures.items) c.deref-5.ensures.value
    (equation_items_of m.equations)))
    (c.in_ok-check_items-3.ensures.faults
    ∙ ap (least_of c.check_items-2.new.least)
    (named branches_faults clause clause_item _ (declared_in m) _ [] _ c.args.m.now.clauses.items
    _ declared
    (c.in_ok-check_items-2.ensures.loops ∙ c.in_ok-check_items.ensures.loops
    ∙ c.new-loops.ensures.items) c.deref-6.ensures.value (clause_items_of m.clauses)))
