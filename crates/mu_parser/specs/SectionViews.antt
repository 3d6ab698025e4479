-- Logical views of the parser's states and effects.
use Rattle.std.specs.Prelude.{Bool, false, List, map, reverse}
use Rattle.mu_tree.specs.Expression.{expression, reference}
use Rattle.mu_parser.specs.declared.section.state.Draft.{Draft}
use Rattle.mu_parser.specs.declared.section.state.Component.{Component}
use Rattle.mu_parser.specs.declared.section.loops.Loop.{Loop}
use Rattle.mu_parser.specs.declared.section.state.OpenWhen.{OpenWhen}
use Rattle.mu_parser.specs.declared.section.state.OpenBranch.{OpenBranch}
use Rattle.mu_parser.specs.declared.section.state.Body.{Body}
use Rattle.mu_parser.specs.declared.section.state.Aim.{Aim}
use Rattle.mu_parser.specs.declared.section.state.Owner.{Owner}
use Rattle.mu_parser.specs.declared.section.state.Place.{Place}
use Rattle.mu_parser.specs.declared.section.state.Waiting.{Waiting}
use Rattle.mu_parser.specs.declared.section.state.Then.{Then}
use Rattle.mu_parser.specs.declared.section.state.State.{State}
use Rattle.mu_parser.specs.declared.section.state.Effect.{Effect}
use Rattle.mu_parser.specs.declared.section.state.Body.TheVariants as bodies
use Rattle.mu_parser.specs.declared.section.state.Aim.TheVariants as aims
use Rattle.mu_parser.specs.declared.section.state.Owner.TheVariants as owners
use Rattle.mu_parser.specs.declared.section.state.Place.TheVariants as places
use Rattle.mu_parser.specs.declared.section.state.Waiting.TheVariants as waits
use Rattle.mu_parser.specs.declared.section.state.Then.TheVariants as thens
use Rattle.mu_parser.specs.declared.section.state.State.TheVariants as states
use Rattle.mu_parser.specs.declared.section.state.Effect.TheVariants as effects
use Rattle.mu_grammar.specs.ReaderMachines as machines
use Rattle.mu_grammar.specs.ModelGrammar.{sections}
use Rattle.mu_grammar.specs.DeclarationGrammar.{Settled}
use Rattle.mu_grammar.specs.States as model
use Rattle.mu_grammar.specs.declared.symbol.Fixed.TheVariants as fixed
use Rattle.mu_tree.specs.declared.tree.Prefix.TheVariants as prefixes
use Rattle.mu_tree.specs.declared.tree.SettingItem.{SettingItem}
use Rattle.mu_tree.specs.ModelTree as trees
use Rattle.mu_tree.specs.ModelTree.{ModelTree}
use Rattle.mu_tree.specs.Nests.{owned_range}
use Rattle.mu_parser.specs.ExpressionViews.{frames_of, position_of, stage_of}

-- the logical view of a draft
abbrev pub draft_of : Draft → model.Draft
draft_of d = record { name = d.name; decls = map trees.declaration d.decls.items; held = sections (map trees.statement d.starts.items) (map trees.equation d.equations.items) (map trees.clause d.clauses.items) }

-- the logical view of an incomplete component
abbrev pub component_of : Component → model.Component
component_of c = record { draft = draft_of c.draft.value; declared = trees.declaration c.declared.value }

-- the logical view of an open loop, by the logical view of its items
abbrev pub loop_of : {T A : Type 0} → (T → A) → Loop T → model.Loop A
loop_of tree l = record { range = owned_range l.range; items = map tree l.items.items }

-- the logical view of open loops, innermost first
abbrev pub loops_of : {T A : Type 0} → (T → A) → List (Loop T) → List (model.Loop A)
loops_of tree ls = map (loop_of tree) (reverse ls)

-- the logical view of an open clause
abbrev pub when_of : OpenWhen → model.OpenWhen
when_of w = record {
  draft = draft_of w.draft.value;
  loops = loops_of trees.clause w.loops.items;
  branches = map trees.branch w.branches.items;
}

-- the logical view of an open branch
abbrev pub branch_of : OpenBranch → model.OpenBranch
branch_of b = record { clause = when_of b.clause; branch = trees.branch b.branch.value }

-- the logical view of a body
abbrev pub body_of : Body → model.Body
body_of (bodies.Equations d ls) =
    model.in_equations (draft_of d.value) (loops_of trees.equation ls.items)
body_of (bodies.Starts d ls) =
    model.in_starts (draft_of d.value) (loops_of trees.statement ls.items)
body_of (bodies.Clauses d ls) = model.in_clauses (draft_of d.value) (loops_of trees.clause ls.items)
body_of (bodies.Branch b ls) = model.in_branch (branch_of b) (loops_of trees.statement ls.items)

-- the logical view of an aim
abbrev pub aim_of : Aim → model.Aim
aim_of (aims.Plain d ls) = model.plain (draft_of d.value) (loops_of trees.equation ls.items)
aim_of (aims.Derivative d ls) =
    model.derivative (draft_of d.value) (loops_of trees.equation ls.items)
aim_of (aims.Initial d ls) = model.initial (draft_of d.value) (loops_of trees.statement ls.items)
aim_of (aims.Assigned b ls) = model.assigned (branch_of b) (loops_of trees.statement ls.items)
aim_of (aims.Restarted b ls) = model.restarted (branch_of b) (loops_of trees.statement ls.items)

-- the logical view of an owner
abbrev pub owner_of : Owner → model.Owner
owner_of (owners.OfComponent c) = model.of_component (component_of c)
owner_of (owners.OfModel d) = model.of_model (draft_of d.value)

-- whether an experiment was read, and its settings
abbrev pub settled_of : Bool → List SettingItem → Settled
settled_of seen ss = record { seen = seen; settings = map trees.setting ss }

-- the logical view of a place
abbrev pub place_of : Place → model.Place
place_of (places.Modifications c) = model.modifications (component_of c)
place_of (places.OwnArguments c) = model.own_arguments (component_of c)
place_of (places.Arguments d seen ss) = model.arguments (draft_of d.value) (settled_of seen ss.items)
place_of (places.Settings o ss) = model.settings (owner_of o) (map trees.setting ss.items)

-- the logical view of the role of an expression
abbrev pub waiting_of : Waiting → model.Waiting
waiting_of (waits.Size c) = model.for_size (component_of c)
waiting_of (waits.Start c) = model.for_start (component_of c)
waiting_of (waits.Value c) = model.for_value (component_of c)
waiting_of (waits.Quantum c) = model.for_quantum (component_of c)
waiting_of (waits.Setting o ss which at) = model.for_setting (owner_of o) (map trees.setting ss.items) which at
waiting_of (waits.Index n at a) = model.for_index n at (aim_of a)
waiting_of (waits.Side a r) = model.for_side (aim_of a) (reference r)
waiting_of (waits.First b n at) = model.for_first (body_of b) n at
waiting_of (waits.Last b n at e) = model.for_last (body_of b) n at (expression e)

-- the logical view of the state after a required word or mark
abbrev pub then_of : Then → model.State
then_of thens.ModelName = model.at_model_name
then_of (thens.Component d) = model.at_component (draft_of d.value) prefixes.Discrete false
then_of (thens.Items p) = model.at_first_item (place_of p)
then_of (thens.Sum w) = model.begin (waiting_of w)
then_of (thens.End d ss) = model.expects fixed.EndWord (model.at_end_name (draft_of d.value) (map trees.setting ss.items))
then_of (thens.EndName d ss) = model.at_end_name (draft_of d.value) (map trees.setting ss.items)
then_of (thens.Semicolon b) = model.expects fixed.Semicolon (model.at_body (body_of b))
then_of (thens.Body b) = model.at_body (body_of b)
then_of (thens.Target a) = model.at_target (aim_of a)

-- the logical view of a state
abbrev pub state_of : State → model.State
state_of (states.Expects f t) = model.expects f (then_of t)
state_of (states.Sum w p fs) = model.in_sum (waiting_of w) (position_of p) (frames_of fs.items)
state_of (states.Condition w s) = model.in_condition (when_of w) (stage_of s)
state_of states.ModelName = model.at_model_name
state_of (states.BehindTitle d) = model.behind_title (draft_of d.value)
state_of (states.Heads d) = model.at_heads (draft_of d.value)
state_of (states.Importing d) = model.importing (draft_of d.value)
state_of (states.Type d prefix) = model.at_type (draft_of d.value) prefix
state_of (states.Component d prefix whole) = model.at_component (draft_of d.value) prefix whole
state_of (states.BehindName c) = model.behind_name (component_of c)
state_of (states.BehindSize c) = model.behind_size (component_of c)
state_of (states.BehindModifications c) = model.behind_modifications (component_of c)
state_of (states.BehindString c) = model.behind_string (component_of c)
state_of (states.BehindAnnotation c) = model.behind_annotation (component_of c)
state_of (states.FirstItem p) = model.at_first_item (place_of p)
state_of (states.Item p) = model.at_item (place_of p)
state_of (states.Each c) = model.at_each (component_of c)
state_of (states.BehindItem p) = model.behind_item (place_of p)
state_of (states.Skipping p bs) = model.skipping (place_of p) (reverse bs.items)
state_of (states.Body b) = model.at_body (body_of b)
state_of (states.Variable b) = model.at_variable (body_of b)
state_of (states.Target a) = model.at_target (aim_of a)
state_of (states.BehindTargetName n at a) = model.behind_target_name n at (aim_of a)
state_of (states.BehindTarget r a) = model.behind_target (reference r) (aim_of a)
state_of (states.EndName d ss) = model.at_end_name (draft_of d.value) (map trees.setting ss.items)
state_of (states.Last m) = model.at_last (trees.model m)

-- the logical view of an effect
abbrev pub effect_of : Effect → machines.Effect model.State ModelTree
effect_of (effects.Advances s) = machines.advances (state_of s)
effect_of (effects.Descends d s) = machines.descends d (state_of s)
effect_of (effects.Finishes m) = machines.finishes (trees.model m)
effect_of effects.Refuses = machines.refuses
