-- The transitions of the model machine in the head of a model, in declarations and in annotations.
use Rattle.std.specs.Prelude.{ℕ, Bool, true, false, List, [], ◌∷◌, ◌++◌, Option, Some, None, codes}
use Rattle.mu_lexer.specs.declared.token.Word.TheVariants as words
use Rattle.mu_lexer.specs.declared.token.Mark.TheVariants as marks
use Rattle.mu_tree.specs.declared.tree.Prefix.{Prefix}
use Rattle.mu_tree.specs.declared.tree.Prefix.TheVariants as prefixes
use Rattle.mu_tree.specs.declared.tree.SettingName.{SettingName}
use Rattle.mu_tree.specs.Expression.{Expression}
use Rattle.mu_tree.specs.ModelTree.{Setting, ModelTree}
use Rattle.mu_grammar.specs.declared.symbol.Fixed.TheVariants as fixed
use Rattle.mu_grammar.specs.declared.symbol.Bracket.{Bracket}
use Rattle.mu_grammar.specs.declared.symbol.Bracket.TheVariants as brackets
use Rattle.mu_grammar.specs.declared.symbol.Shape.{Shape}
use Rattle.mu_grammar.specs.declared.symbol.Shape.TheVariants as shapes
use Rattle.mu_grammar.specs.Grammar.{Symbol, name, quoted, word, mark}
use Rattle.mu_grammar.specs.ReaderMachines.{Effect, advances, descends, refuses}
use Rattle.mu_grammar.specs.Shapes.{shape_of, is_same}
use Rattle.mu_grammar.specs.Skipped.{is_named}
use Rattle.mu_grammar.specs.DeclarationGrammar.{Settled, setting_of}
use Rattle.mu_grammar.specs.ModelGrammar.{sections}
use Rattle.mu_grammar.specs.States.{Draft, Component, Owner, of_component, of_model, Place, modifications, own_arguments, arguments, settings, for_size, for_start, for_value, for_quantum, for_setting, State, expects, at_heads, importing, at_type, at_component, behind_name, behind_size, behind_modifications, behind_string, behind_annotation, at_first_item, at_item, at_each, behind_item, skipping, at_body, at_end_name, in_equations, in_starts, in_clauses, begin, level, place_level}

-- the model with only its name
abbrev pub new_draft : List ℕ → Draft
new_draft n = record { name = n; decls = []; held = sections [] [] [] }

-- the component with only its name
abbrev pub new_component : Draft → Prefix → Bool → List ℕ → ℕ → Component
new_component d prefix whole n at = record { draft = d; declared = record { prefix = prefix; whole = whole; name = n; size = None; start = None; value = None; quantum = None; at = at } }

abbrev pub with_size : Component → Expression → Component
with_size c e = record c { declared = record c.declared { size = Some e } }

abbrev pub with_start : Component → Expression → Component
with_start c e = record c { declared = record c.declared { start = Some e } }

abbrev pub with_value : Component → Expression → Component
with_value c e = record c { declared = record c.declared { value = Some e } }

abbrev pub with_quantum : Component → Expression → Component
with_quantum c e = record c { declared = record c.declared { quantum = Some e } }

-- the model with the component appended
abbrev pub with_component : Component → Draft
with_component c = record c.draft { decls = c.draft.decls ++ c.declared ∷ [] }

-- the experiment was not read
abbrev pub unsettled : Settled
unsettled = record { seen = false; settings = [] }

-- an experiment with these settings was read
abbrev pub settings_seen : List Setting → Settled
settings_seen ss = record { seen = true; settings = ss }

-- the tokens that may follow the head of a model, a section, or the last item of a section
abbrev pub between : Draft → Symbol → Effect State ModelTree
between d (word words.Equation at) = advances (at_body (in_equations d []))
between d (word words.Algorithm at) = advances (at_body (in_clauses d []))
between d (word words.Initial at) = advances (expects fixed.AlgorithmWord (at_body (in_starts d [])))
between d (word words.Annotation at) = descends 0 (expects fixed.OpenBracket (at_first_item (arguments d unsettled)))
between d (word words.End at) = advances (at_end_name d [])
between d _ = refuses

-- an import line, a declaration, or a token that follows them
abbrev pub head : Draft → Symbol → Effect State ModelTree
head d (word words.Import at) = advances (importing d)
head d (word words.Parameter at) = advances (at_type d prefixes.Parameter)
head d (word words.Constant at) = advances (at_type d prefixes.Constant)
head d (word words.Discrete at) = advances (expects fixed.RealWord (at_component d prefixes.Discrete false))
head d (word words.RealType at) = advances (at_component d prefixes.Plain false)
head d x = between d x

-- after the model's name
abbrev pub follow_title : Draft → Symbol → Effect State ModelTree
follow_title d (quoted at) = advances (at_heads d)
follow_title d x = head d x

-- in an import line
abbrev pub import_token : Draft → Symbol → Effect State ModelTree
import_token d (mark marks.Semicolon at) = advances (at_heads d)
import_token d _ = advances (importing d)

-- after the word parameter or constant
abbrev pub type_token : Draft → Prefix → Symbol → Effect State ModelTree
type_token d prefix (word words.RealType at) = advances (at_component d prefix false)
type_token d prefix (word words.IntegerType at) = advances (at_component d prefix true)
type_token d prefix _ = refuses

-- a component's name is required
abbrev pub component_token : Draft → Prefix → Bool → Symbol → Effect State ModelTree
component_token d prefix whole (name n at) = advances (behind_name (new_component d prefix whole n at))
component_token d prefix whole _ = refuses

-- after a complete component; d is the model with this component
abbrev pub follow_declared : Draft → Prefix → Bool → Symbol → Effect State ModelTree
follow_declared d prefix whole (mark marks.Comma at) = advances (at_component d prefix whole)
follow_declared d prefix whole (mark marks.Semicolon at) = advances (at_heads d)
follow_declared d prefix whole _ = refuses

-- after a component's annotation
abbrev pub follow_component : Component → Symbol → Effect State ModelTree
follow_component c x = follow_declared (with_component c) c.declared.prefix c.declared.whole x

-- after a component's string
abbrev pub follow_string : Component → Symbol → Effect State ModelTree
follow_string c (word words.Annotation at) = descends 0 (expects fixed.OpenBracket (at_first_item (own_arguments c)))
follow_string c x = follow_component c x

-- after a component's value
abbrev pub follow_value : Component → Symbol → Effect State ModelTree
follow_value c (quoted at) = advances (behind_string c)
follow_value c x = follow_string c x

-- after a component's modifications
abbrev pub follow_modifications : Component → Symbol → Effect State ModelTree
follow_modifications c (mark marks.Equal at) = advances (begin (for_value c))
follow_modifications c x = follow_value c x

-- after a component's size
abbrev pub follow_size : Component → Symbol → Effect State ModelTree
follow_size c (mark marks.OpenRound at) = descends 0 (at_item (modifications c))
follow_size c x = follow_modifications c x

-- after a component's name
abbrev pub follow_name : Component → Symbol → Effect State ModelTree
follow_name c (mark marks.OpenSquare at) = descends 0 (begin (for_size c))
follow_name c x = follow_size c x

-- the state after the bracket that closes a list of items
abbrev pub closed : Place → State
closed (modifications c) = behind_modifications c
closed (own_arguments c) = behind_annotation c
closed (arguments d s) = expects fixed.Semicolon (expects fixed.EndWord (at_end_name d s.settings))
closed (settings (of_component c) ss) = behind_item (own_arguments c)
closed (settings (of_model d) ss) = behind_item (arguments d (settings_seen ss))

-- after an item
abbrev pub follow_item : Place → Symbol → Effect State ModelTree
follow_item p (mark marks.Comma at) = advances (at_item p)
follow_item p (mark marks.CloseRound at) = advances (closed p)
follow_item p _ = refuses

-- a bracket closes the innermost bracket of a skipped item
abbrev pub close_bracket : Bool → Place → List Bracket → Effect State ModelTree
close_bracket true p bs = advances (skipping p bs)
close_bracket false p bs = refuses

-- a token of this shape in a skipped item; bs are the open brackets of the item
abbrev pub skip_shape : Place → List Bracket → Shape → Effect State ModelTree
skip_shape p bs (shapes.Opening b) = descends (level (place_level p) bs) (skipping p (b ∷ bs))
skip_shape p bs shapes.Other = advances (skipping p bs)
skip_shape p [] shapes.Comma = advances (at_item p)
skip_shape p [] (shapes.Closing brackets.Round) = advances (closed p)
skip_shape p [] (shapes.Closing b) = refuses
skip_shape p (b ∷ bs) shapes.Comma = advances (skipping p (b ∷ bs))
skip_shape p (b ∷ bs) (shapes.Closing c) = close_bracket (is_same b c) p bs

-- the first token of a skipped item has this shape
abbrev pub skip_first : Place → Shape → Effect State ModelTree
skip_first p (shapes.Opening b) = descends (place_level p) (skipping p (b ∷ []))
skip_first p shapes.Other = advances (skipping p [])
skip_first p _ = refuses

-- a skipped item begins
abbrev pub begin_skipped : Place → Symbol → Effect State ModelTree
begin_skipped p x = skip_first p (shape_of x)

-- an item of a component's modifications begins with this token; the Bool is whether the token is
-- the name start
abbrev pub start_or_skipped : Component → Bool → Symbol → Effect State ModelTree
start_or_skipped c true x = advances (expects fixed.EqualSign (begin (for_start c)))
start_or_skipped c false x = begin_skipped (modifications c) x

-- a modification begins, after the optional word each
abbrev pub begin_bare_mod : Component → Symbol → Effect State ModelTree
begin_bare_mod c x = start_or_skipped c (is_named (codes "start") x) x

-- a modification begins
abbrev pub begin_mod : Component → Symbol → Effect State ModelTree
begin_mod c (word words.Each at) = advances (at_each c)
begin_mod c x = begin_bare_mod c x

-- after the name experiment
abbrev pub open_experiment : Owner → Effect State ModelTree
open_experiment o = descends 1 (expects fixed.OpenBracket (at_first_item (settings o [])))

-- an argument of a component's annotation begins with this token; the Bools are whether it is
-- experiment or QSS_Quantum
abbrev pub own_or_skipped : Component → Bool → Bool → Symbol → Effect State ModelTree
own_or_skipped c true quantum x = open_experiment (of_component c)
own_or_skipped c false true x = advances (expects fixed.EqualSign (begin (for_quantum c)))
own_or_skipped c false false x = begin_skipped (own_arguments c) x

abbrev pub begin_own : Component → Symbol → Effect State ModelTree
begin_own c x = own_or_skipped c (is_named (codes "experiment") x) (is_named (codes "QSS_Quantum") x) x

-- an argument of the model's annotation begins; named is whether the token is experiment,
-- seen is whether an experiment was read before
abbrev pub argument_or_skipped : Draft → Settled → Bool → Bool → Symbol → Effect State ModelTree
argument_or_skipped d s true false x = open_experiment (of_model d)
argument_or_skipped d s named seen x = begin_skipped (arguments d s) x

abbrev pub begin_argument : Draft → Settled → Symbol → Effect State ModelTree
begin_argument d s x = argument_or_skipped d s (is_named (codes "experiment") x) s.seen x

-- an item of an experiment begins with a name, which may be the name of a setting
abbrev pub setting_or_skipped : Owner → List Setting → Option SettingName → ℕ → Effect State ModelTree
setting_or_skipped o ss (Some which) at = advances (expects fixed.EqualSign (begin (for_setting o ss which at)))
setting_or_skipped o ss None at = advances (skipping (settings o ss) [])

abbrev pub begin_setting : Owner → List Setting → Symbol → Effect State ModelTree
begin_setting o ss (name n at) = setting_or_skipped o ss (setting_of n) at
begin_setting o ss x = begin_skipped (settings o ss) x

-- an item begins
abbrev pub begin_item : Place → Symbol → Effect State ModelTree
begin_item (modifications c) x = begin_mod c x
begin_item (own_arguments c) x = begin_own c x
begin_item (arguments d s) x = begin_argument d s x
begin_item (settings o ss) x = begin_setting o ss x

-- an item begins, or the list is empty
abbrev pub begin_first_item : Place → Symbol → Effect State ModelTree
begin_first_item p (mark marks.CloseRound at) = advances (closed p)
begin_first_item p x = begin_item p x

-- after a size
abbrev pub close_size : Component → Symbol → Effect State ModelTree
close_size c (mark marks.CloseSquare at) = advances (behind_size c)
close_size c _ = refuses
