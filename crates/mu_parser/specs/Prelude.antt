-- The names of other crates that the clauses of this crate cite, passed on from one place. Declares nothing.
pub use Rattle.mu_grammar.specs.BodyMachine.{begin_bare, begin_clause, begin_equation, begin_start, begin_statement, body_token, branches_of, close_assignment, close_equation, close_first, close_index, close_last, close_restart, close_side, condition_turn, end_branch, end_loop, enter, follow_target, follow_target_name, leave, new_branch, new_loop, next_branch, put_clause, put_equation, put_start, put_statement, target_token, variable_token}
pub use Rattle.mu_grammar.specs.Closing.{is_close, is_open_square}
pub use Rattle.mu_grammar.specs.ConditionMachine.{after_left, begin_condition, compares, complete, depth_of, left_move, right_move, turn}
pub use Rattle.mu_grammar.specs.Conditions.{compared, relation_of}
pub use Rattle.mu_grammar.specs.DeclarationGrammar.{setting_of, with_setting}
pub use Rattle.mu_grammar.specs.DeclarationMachine.{begin_argument, begin_bare_mod, begin_first_item, begin_item, begin_mod, begin_own, begin_setting, begin_skipped, between, close_size, closed, component_token, follow_component, follow_item, follow_modifications, follow_name, follow_size, follow_string, follow_title, follow_value, head, import_token, new_component, new_draft, open_experiment, skip_first, skip_shape, type_token, with_component, with_quantum, with_size, with_start, with_value}
pub use Rattle.mu_grammar.specs.Grammar.{exponent_of, product_of, sum_of}
pub use Rattle.mu_grammar.specs.ModelGrammar.{SpellsModel}
pub use Rattle.mu_grammar.specs.ModelMachine.{end_name_token, last_token, meets, model_machine, model_turn, receive, sum_move, title_token}
pub use Rattle.mu_grammar.specs.Prefixes.{Gives, IsFault}
pub use Rattle.mu_grammar.specs.ReaderMachines.{advances, allow, go, step_on}
pub use Rattle.mu_grammar.specs.Shapes.{is_fixed, shape_of}
pub use Rattle.mu_grammar.specs.States.{aim_level, begin, body_level, branch_level, for_side, in_branch, in_clauses, in_equations, in_starts, level, outside, place_level, settings, side_level}
pub use Rattle.mu_grammar.specs.SumMachine.{after_sum, begin_bracket, begin_name, begin_sum, behind, deeper, depth, depth_at, first_part, follow_caret, follow_factor, follow_primary, follow_reference, follow_term, next_factor, operand, power, step, with_term}
pub use Rattle.mu_grammar.specs.SymbolViews.{symbol_view}
pub use Rattle.mu_grammar.specs.Symbols.{symbols}
pub use Rattle.mu_grammar.specs.declared.parse_fault.ParseErr.{ParseErr}
pub use Rattle.mu_lexer.specs.Tokens.{IsWithin}
pub use Rattle.mu_tree.specs.Expression.{Element, Whole, expression, reference, scaled, signed}
pub use Rattle.mu_tree.specs.ModelTree.{Algebraic, Assign, Branches, Derivative, ModelTree, Restart, clause, condition, equation, model, statement}
pub use Rattle.mu_tree.specs.Nests.{owned_range}
