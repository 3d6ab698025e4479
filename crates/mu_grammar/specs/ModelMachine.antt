-- The state machine that parses a whole model.
use Rattle.std.specs.Prelude.{ℕ, suc, Bool, true, false, List}
use Rattle.mu_lexer.specs.declared.token.Mark.TheVariants as marks
use Rattle.mu_tree.specs.Expression.{Expression, Element}
use Rattle.mu_tree.specs.ModelTree.{range, Setting, ModelTree}
use Rattle.mu_grammar.specs.declared.symbol.Fixed.TheVariants as fixed
use Rattle.mu_grammar.specs.Grammar.{Symbol, name, mark}
use Rattle.mu_grammar.specs.ReaderMachines.{Effect, advances, descends, finishes, refuses, Machine}
use Rattle.mu_grammar.specs.Shapes.{is_fixed, shape_of}
use Rattle.mu_grammar.specs.SumMachine.{Move, moves, opens, ends, wrong, step, depth_at}
use Rattle.mu_grammar.specs.ConditionMachine.{turn, depth_of}
use Rattle.mu_grammar.specs.DeclarationGrammar.{with_setting}
use Rattle.mu_grammar.specs.ModelGrammar.{model_of}
use Rattle.mu_grammar.specs.States.{Draft, modifications, own_arguments, settings, Waiting, for_size, for_start, for_value, for_quantum, for_setting, for_index, for_side, for_first, for_last, State, expects, in_sum, in_condition, at_model_name, behind_title, at_heads, importing, at_type, at_component, behind_name, behind_size, behind_modifications, behind_string, behind_annotation, at_first_item, at_item, at_each, behind_item, skipping, at_body, at_variable, at_target, behind_target_name, behind_target, at_end_name, at_last, level, outside}
use Rattle.mu_grammar.specs.DeclarationMachine.{new_draft, with_size, with_start, with_value, with_quantum, head, follow_title, import_token, type_token, component_token, follow_component, follow_string, follow_value, follow_modifications, follow_size, follow_name, follow_item, skip_shape, begin_bare_mod, begin_item, begin_first_item, close_size}
use Rattle.mu_grammar.specs.BodyMachine.{body_token, variable_token, close_first, close_last, target_token, follow_target, follow_target_name, close_index, close_side, condition_turn}

-- an expression is complete, and this token follows
abbrev pub receive : Waiting → Expression → Symbol → Effect State ModelTree
receive (for_size c) e x = close_size (with_size c e) x
receive (for_start c) e x = follow_item (modifications (with_start c e)) x
receive (for_value c) e x = follow_value (with_value c e) x
receive (for_quantum c) e x = follow_item (own_arguments (with_quantum c e)) x
receive (for_setting o ss which at) e x = follow_item (settings o (with_setting ss which e at)) x
receive (for_index n i a) e x = close_index (Element n e i) a x
receive (for_side a r) e x = close_side a r e x
receive (for_first b n at) e x = close_first b n at e x
receive (for_last b n at e) f x = close_last b (range n at e f) x

-- the effect of a move in an expression; d is the nesting depth
abbrev pub sum_move : Waiting → ℕ → Move → Symbol → Effect State ModelTree
sum_move w d (moves p fs) x = advances (in_sum w p fs)
sum_move w d (opens p fs) x = descends d (in_sum w p fs)
sum_move w d (ends e) x = receive w e x
sum_move w d wrong x = refuses

-- whether the required token was found
abbrev pub meets : Bool → State → Effect State ModelTree
meets true s = advances s
meets false s = refuses

-- the model's name is required
abbrev pub title_token : Symbol → Effect State ModelTree
title_token (name n at) = advances (behind_title (new_draft n))
title_token _ = refuses

-- the name after the last end is required
abbrev pub end_name_token : Draft → List Setting → Symbol → Effect State ModelTree
end_name_token d ss (name n at) = advances (at_last (model_of d.name n at d.decls d.held ss))
end_name_token d ss _ = refuses

-- the last semicolon of the model is required
abbrev pub last_token : ModelTree → Symbol → Effect State ModelTree
last_token m (mark marks.Semicolon at) = finishes m
last_token m _ = refuses

-- the transition for one token
abbrev pub model_turn : State → Symbol → Effect State ModelTree
model_turn (expects f s) x = meets (is_fixed f x) s
model_turn (in_sum w p fs) x = sum_move w (depth_at (outside w) p fs) (step p fs x) x
model_turn (in_condition w s) x = condition_turn w (depth_of (suc (level 0 w.loops)) s) (turn s x)
model_turn at_model_name x = title_token x
model_turn (behind_title d) x = follow_title d x
model_turn (at_heads d) x = head d x
model_turn (importing d) x = import_token d x
model_turn (at_type d prefix) x = type_token d prefix x
model_turn (at_component d prefix whole) x = component_token d prefix whole x
model_turn (behind_name c) x = follow_name c x
model_turn (behind_size c) x = follow_size c x
model_turn (behind_modifications c) x = follow_modifications c x
model_turn (behind_string c) x = follow_string c x
model_turn (behind_annotation c) x = follow_component c x
model_turn (at_first_item p) x = begin_first_item p x
model_turn (at_item p) x = begin_item p x
model_turn (at_each c) x = begin_bare_mod c x
model_turn (behind_item p) x = follow_item p x
model_turn (skipping p bs) x = skip_shape p bs (shape_of x)
model_turn (at_body b) x = body_token b x
model_turn (at_variable b) x = variable_token b x
model_turn (at_target a) x = target_token a x
model_turn (behind_target_name n at a) x = follow_target_name n at a x
model_turn (behind_target r a) x = follow_target r a x
model_turn (at_end_name d ss) x = end_name_token d ss x
model_turn (at_last m) x = last_token m x

-- the machine of a whole model
abbrev pub model_machine : Machine State ModelTree
model_machine = record { start = expects fixed.ModelWord at_model_name; turn = model_turn }
