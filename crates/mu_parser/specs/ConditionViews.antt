-- The logical view of the effect of a token in a condition.
use Rattle.mu_tree.specs.ModelTree.{condition}
use Rattle.mu_parser.specs.declared.expression.condition.Turn.{Turn}
use Rattle.mu_parser.specs.declared.expression.condition.Turn.TheVariants as turns
use Rattle.mu_grammar.specs.ConditionMachine as conditions
use Rattle.mu_parser.specs.ExpressionViews.{stage_of}

-- the logical view of a turn
abbrev pub turn_of : Turn → conditions.Turn
turn_of (turns.Goes s) = conditions.goes (stage_of s)
turn_of (turns.Nests s) = conditions.nests (stage_of s)
turn_of (turns.Holds c) = conditions.holds (condition c)
turn_of turns.Fails = conditions.fails
