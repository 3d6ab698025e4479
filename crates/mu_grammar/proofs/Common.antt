-- Names from outside the lemmas of this crate that several of its proofs cite, passed on from one place.
pub use Rattle.std.proofs.Common.{[], ℕ, ◌++◌, ◌+◌, ◌-◌, ◌<◌, ◌||◌, ◌∙◌, ◌∷◌, ◌≡◌, ◌≤◌, ◌⊎◌, ap}
pub use Rattle.std.proofs.Common.{append-nil, append_assoc, arith, Bool, drop, Err, false, get_or}
pub use Rattle.std.proofs.Common.{IfOk, if◌then◌else◌, inl, inr, length, List, map, nat_lt, None}
pub use Rattle.std.proofs.Common.{Ok, Option, refl, Result, Some, subst, suc, sym, take, true, zero}
pub use Rattle.std.proofs.lemmas.List.{take-append-drop, take_all}
pub use Rattle.std.proofs.lemmas.List.Elements.{All-cons, All-nil}
pub use Rattle.std.specs.List.{All, AllByRecursion}
pub use Rattle.std.specs.Prelude.{codes}
pub use Rattle.std.specs.Str.{bytes_eq}
pub use Rattle.mu_lexer.proofs.TokenKinds.{kind_spelled}
pub use Rattle.mu_lexer.specs.Spelling.{mark_text, SpellsToken}
pub use Rattle.mu_lexer.specs.declared.token.Mark.{Mark}
pub use Rattle.mu_lexer.specs.declared.token.Token.{Token}
pub use Rattle.mu_lexer.specs.declared.token.Word.{Word}
pub use Rattle.mu_tree.specs.Bare.{bare, bare_clause, bare_declaration, bare_equation}
pub use Rattle.mu_tree.specs.Bare.{bare_reference, bare_setting, bare_statement}
pub use Rattle.mu_tree.specs.Canonical.{Texts, written, written_clause, written_clauses}
pub use Rattle.mu_tree.specs.Canonical.{written_equation, written_equations, written_statement}
pub use Rattle.mu_tree.specs.Canonical.{written_statements}
pub use Rattle.mu_tree.specs.Expression.{Element, Expression, Now, Number, Power, Previous}
pub use Rattle.mu_tree.specs.Expression.{Reference, Scaled, Signed, Variable, Whole}
pub use Rattle.mu_tree.specs.ModelTree.{Algebraic, Assign, Branches, BranchTree, clause_then}
pub use Rattle.mu_tree.specs.ModelTree.{clauses_of, ClauseTree, Condition, Declaration, Derivative}
pub use Rattle.mu_tree.specs.ModelTree.{EachClause, EachEquation, EachStatement, equation_then}
pub use Rattle.mu_tree.specs.ModelTree.{equations_of, EquationTree, ModelTree, no_clauses, Range}
pub use Rattle.mu_tree.specs.ModelTree.{range, Restart, Setting, statement_then, statements_of}
pub use Rattle.mu_tree.specs.ModelTree.{StatementTree}
pub use Rattle.mu_tree.specs.declared.tree.Prefix.{Prefix}
pub use Rattle.mu_tree.specs.declared.tree.Rel.{Rel}
pub use Rattle.mu_tree.specs.declared.tree.SettingName.{SettingName}
pub use Rattle.mu_grammar.specs.Bodies.{AreBranches, branch, clause_kind, equation_kind}
pub use Rattle.mu_grammar.specs.Bodies.{IsBareClause, IsBareEquation, IsBareStatement, IsClause}
pub use Rattle.mu_grammar.specs.Bodies.{IsEquation, IsStatement, statement_kind}
pub use Rattle.mu_grammar.specs.BodyMachine.{branches_of, close_equation, condition_turn, enter}
pub use Rattle.mu_grammar.specs.BodyMachine.{new_branch, new_when, next_branch, put_clause}
pub use Rattle.mu_grammar.specs.BodyMachine.{put_equation, put_start, put_statement, with_clause}
pub use Rattle.mu_grammar.specs.BodyMachine.{with_equation, with_initial, with_item, with_statement}
pub use Rattle.mu_grammar.specs.ConditionMachine.{after_left, before, behind, compares, complete}
pub use Rattle.mu_grammar.specs.ConditionMachine.{depth_of, fails, goes, holds, in_left, in_right}
pub use Rattle.mu_grammar.specs.ConditionMachine.{inside, left_move, nested, nests, right_move}
pub use Rattle.mu_grammar.specs.ConditionMachine.{Stage, Turn, turn}
pub use Rattle.mu_grammar.specs.Conditions.{brackets, compare, compared, IsCondition, relation_of}
pub use Rattle.mu_grammar.specs.DeclarationGrammar.{annotation, begins_arg, begins_mod, begins_own}
pub use Rattle.mu_grammar.specs.DeclarationGrammar.{begins_set, component, declares, experiment}
pub use Rattle.mu_grammar.specs.DeclarationGrammar.{first_experiment, is_none, IsAnnotation, IsArg}
pub use Rattle.mu_grammar.specs.DeclarationGrammar.{IsBareMod, IsComponent, IsExperiment, IsKind}
pub use Rattle.mu_grammar.specs.DeclarationGrammar.{IsMod, IsMods, IsOwnAnnotation, IsOwnArg, IsSet}
pub use Rattle.mu_grammar.specs.DeclarationGrammar.{IsSize, IsValue, mods, no_annotation, no_mods}
pub use Rattle.mu_grammar.specs.DeclarationGrammar.{no_settings, no_size, no_value, not}
pub use Rattle.mu_grammar.specs.DeclarationGrammar.{own_annotation, own_quantum, set, setting_of}
pub use Rattle.mu_grammar.specs.DeclarationGrammar.{Settled, size, start, value, whole_of}
pub use Rattle.mu_grammar.specs.DeclarationGrammar.{with_setting}
pub use Rattle.mu_grammar.specs.DeclarationMachine.{argument_or_skipped, begin_argument}
pub use Rattle.mu_grammar.specs.DeclarationMachine.{begin_bare_mod, begin_first_item, begin_item}
pub use Rattle.mu_grammar.specs.DeclarationMachine.{begin_mod, begin_own, begin_setting}
pub use Rattle.mu_grammar.specs.DeclarationMachine.{begin_skipped, between, close_bracket, closed}
pub use Rattle.mu_grammar.specs.DeclarationMachine.{follow_component, follow_declared}
pub use Rattle.mu_grammar.specs.DeclarationMachine.{follow_modifications, follow_name, follow_size}
pub use Rattle.mu_grammar.specs.DeclarationMachine.{follow_string, follow_title, follow_value, head}
pub use Rattle.mu_grammar.specs.DeclarationMachine.{new_component, new_draft, open_experiment}
pub use Rattle.mu_grammar.specs.DeclarationMachine.{own_or_skipped, setting_or_skipped}
pub use Rattle.mu_grammar.specs.DeclarationMachine.{settings_seen, skip_first, skip_shape}
pub use Rattle.mu_grammar.specs.DeclarationMachine.{start_or_skipped, unsettled, with_component}
pub use Rattle.mu_grammar.specs.DeclarationMachine.{with_quantum, with_size, with_start, with_value}
pub use Rattle.mu_grammar.specs.Grammar.{exponent_of, first_place, IsFactor, IsPrimary, IsProduct}
pub use Rattle.mu_grammar.specs.Grammar.{IsReference, IsSum, mark, MoreFactors, MoreTerms, name}
pub use Rattle.mu_grammar.specs.Grammar.{number, place, product_of, quoted, scaled, signed, sum_of}
pub use Rattle.mu_grammar.specs.Grammar.{Symbol, word}
pub use Rattle.mu_grammar.specs.Lists.{a_string, Commas, InRound, last_one, Listed, listed_end}
pub use Rattle.mu_grammar.specs.Lists.{listed_then, MaybeString, no_more, no_string, nothing_inside}
pub use Rattle.mu_grammar.specs.Lists.{one_more, one_then, Runs, some_inside}
pub use Rattle.mu_grammar.specs.Loops.{AreItems, in_range, IsItem, IsRange, item_then, Kind, loop}
pub use Rattle.mu_grammar.specs.Loops.{no_items}
pub use Rattle.mu_grammar.specs.ModelGrammar.{AddsClause, AddsEquation, AddsStart, declaration}
pub use Rattle.mu_grammar.specs.ModelGrammar.{IsHead, IsSection, model_of, Sections, sections}
pub use Rattle.mu_grammar.specs.ModelGrammar.{SpellsModel}
pub use Rattle.mu_grammar.specs.ModelMachine.{meets, model_machine, model_turn, receive, sum_move}
pub use Rattle.mu_grammar.specs.Prefixes.{Decides, IsInputPrefix, IsToken, StopsAtAnyDepth}
pub use Rattle.mu_grammar.specs.Prefixes.{StopsByDepth}
pub use Rattle.mu_grammar.specs.ReaderMachines.{advances, after, allow, deep, deeper, descends}
pub use Rattle.mu_grammar.specs.ReaderMachines.{done, Effect, finishes, go, Machine, Next, refuses}
pub use Rattle.mu_grammar.specs.ReaderMachines.{step_on, syntax}
pub use Rattle.mu_grammar.specs.Shapes.{closing, fixed_token, is_fixed, is_same, shape_of}
pub use Rattle.mu_grammar.specs.Skipped.{Balanced, balanced_end, balanced_nested, balanced_token}
pub use Rattle.mu_grammar.specs.Skipped.{closer, import_end, import_token, is_named, is_plain_token}
pub use Rattle.mu_grammar.specs.Skipped.{IsImported, IsSkipped, skipped, skipped_nested}
pub use Rattle.mu_grammar.specs.States.{Aim, aim_level, arguments, assigned, at_body, at_component}
pub use Rattle.mu_grammar.specs.States.{at_each, at_end_name, at_first_item, at_heads, at_item}
pub use Rattle.mu_grammar.specs.States.{at_last, at_model_name, at_target, at_type, at_variable}
pub use Rattle.mu_grammar.specs.States.{begin, behind_annotation, behind_item, behind_modifications}
pub use Rattle.mu_grammar.specs.States.{behind_name, behind_size, behind_string, behind_target}
pub use Rattle.mu_grammar.specs.States.{behind_target_name, behind_title, Body, body_level}
pub use Rattle.mu_grammar.specs.States.{branch_level, Component, derivative, Draft, expects}
pub use Rattle.mu_grammar.specs.States.{for_first, for_index, for_last, for_quantum, for_setting}
pub use Rattle.mu_grammar.specs.States.{for_side, for_size, for_start, for_value, importing}
pub use Rattle.mu_grammar.specs.States.{in_branch, in_clauses, in_condition, in_equations}
pub use Rattle.mu_grammar.specs.States.{in_starts, in_sum, initial, level, Loop, modifications}
pub use Rattle.mu_grammar.specs.States.{of_component, of_model, OpenBranch, OpenWhen, outside}
pub use Rattle.mu_grammar.specs.States.{own_arguments, Owner, Place, place_level, plain, restarted}
pub use Rattle.mu_grammar.specs.States.{settings, skipping, State, Waiting}
pub use Rattle.mu_grammar.specs.SumMachine.{after_factor, after_name, after_primary}
pub use Rattle.mu_grammar.specs.SumMachine.{after_reference, after_sum, at_bracket, at_exponent}
pub use Rattle.mu_grammar.specs.SumMachine.{at_name, at_operand, at_sum, at_term, begin_sum}
pub use Rattle.mu_grammar.specs.SumMachine.{bracket, depth, depth_at, first_part, follow_term}
pub use Rattle.mu_grammar.specs.SumMachine.{Frame, index, Move, moves, opens, operand, Part}
pub use Rattle.mu_grammar.specs.SumMachine.{Position, previous, step, Use, with_term, wrong}
pub use Rattle.mu_grammar.specs.Symbols.{symbol_of, symbol_with, symbols}
pub use Rattle.mu_grammar.specs.declared.parse_fault.ParseErr.{ParseErr}
pub use Rattle.mu_grammar.specs.declared.symbol.Bracket.{Bracket}
pub use Rattle.mu_grammar.specs.declared.symbol.Fixed.{Fixed}
pub use Rattle.mu_grammar.specs.declared.symbol.Shape.{Shape}
