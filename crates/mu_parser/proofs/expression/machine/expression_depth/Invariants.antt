use Rattle.mu_parser.proofs.Common.{◌≡◌, frames_of, take}
use Rattle.std.proofs.Common.{◌*◌, ◌≤◌}
use Rattle.mu_grammar.specs.SumMachine.{depth}
use Rattle.mu_parser.proofs.expression.machine.expression_depth.Given as goal

-- the depth of the frames so far
abbrev pub invariant-loop-frame : goal.invariant-loop-frame
invariant-loop-frame l = (l.d ≡ depth 0 (frames_of (take l.frame-index l.frames))) × (l.d ≤ 2 * l.frame-index)
