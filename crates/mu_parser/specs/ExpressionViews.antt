-- Logical views of the parser's machines for expressions and conditions.
use Rattle.std.specs.Prelude.{List, map, reverse}
use Rattle.mu_tree.specs.Expression.{expression, reference, signed, scaled}
use Rattle.mu_parser.specs.declared.expression.machine.Part.{Part}
use Rattle.mu_parser.specs.declared.expression.machine.Use.{Use}
use Rattle.mu_parser.specs.declared.expression.machine.Use.TheVariants as uses
use Rattle.mu_parser.specs.declared.expression.machine.Frame.{Frame}
use Rattle.mu_parser.specs.declared.expression.machine.Frame.TheVariants as frames
use Rattle.mu_parser.specs.declared.expression.machine.Position.{Position}
use Rattle.mu_parser.specs.declared.expression.machine.Position.TheVariants as positions
use Rattle.mu_parser.specs.declared.expression.machine.Move.{Move}
use Rattle.mu_parser.specs.declared.expression.machine.Move.TheVariants as moves
use Rattle.mu_parser.specs.declared.expression.condition.Stage.{Stage}
use Rattle.mu_parser.specs.declared.expression.condition.Stage.TheVariants as stages
use Rattle.mu_grammar.specs.SumMachine as machine
use Rattle.mu_grammar.specs.ConditionMachine as conditions
use Rattle.mu_tree.specs.ModelTree as trees

-- the logical view of a part
abbrev pub part_of : Part → machine.Part
part_of p = record { terms = map signed p.terms.items; minus = p.minus; at = p.at; factors = map scaled p.factors.items; divide = p.divide; place = p.place }

-- the logical view of a use
abbrev pub use_of : Use → machine.Use
use_of (uses.Variable p) = machine.variable (part_of p)
use_of (uses.Previous p) = machine.previous (part_of p)

-- the logical view of a frame
abbrev pub frame_of : Frame → machine.Frame
frame_of (frames.Bracket p) = machine.bracket (part_of p)
frame_of (frames.Index n at u) = machine.index n at (use_of u)

-- the logical view of a stack of frames; the last frame is the top of the stack
abbrev pub frames_of : List Frame → List machine.Frame
frames_of fs = map frame_of (reverse fs)

-- the logical view of a position
abbrev pub position_of : Position → machine.Position
position_of positions.Sum = machine.at_sum
position_of (positions.Term terms minus at) = machine.at_term (map signed terms.items) minus at
position_of (positions.Operand p) = machine.at_operand (part_of p)
position_of (positions.Bracket p) = machine.at_bracket (part_of p)
position_of (positions.Name u) = machine.at_name (use_of u)
position_of (positions.AfterName n at u) = machine.after_name n at (use_of u)
position_of (positions.AfterReference r u) = machine.after_reference (reference r) (use_of u)
position_of (positions.AfterPrimary e p) = machine.after_primary (expression e) (part_of p)
position_of (positions.Exponent e at p) = machine.at_exponent (expression e) at (part_of p)
position_of (positions.AfterFactor f p) = machine.after_factor (expression f) (part_of p)

-- the logical view of a move, with the frames after it
abbrev pub move_of : Move → List Frame → machine.Move
move_of (moves.Moves p) fs = machine.moves (position_of p) (frames_of fs)
move_of (moves.Opens p) fs = machine.opens (position_of p) (frames_of fs)
move_of (moves.Ends e) fs = machine.ends (expression e)
move_of moves.Wrong fs = machine.wrong

-- the logical view of a stage of a condition
abbrev pub stage_of : Stage → conditions.Stage
stage_of (stages.Before ps) = conditions.before (reverse ps.items)
stage_of (stages.Left ps p fs) = conditions.in_left (reverse ps.items) (position_of p) (frames_of fs.items)
stage_of (stages.Right left rel at k p fs) = conditions.in_right (expression left) rel at k (position_of p) (frames_of fs.items)
stage_of (stages.Behind c k) = conditions.behind (trees.condition c) k
