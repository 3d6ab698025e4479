use Rattle.std.proofs.Common.{◌≡◌, ◌-◌, ◌++◌}
use Rattle.qss_generate.specs.Source.{start_lines}
use Rattle.qss_generate.proofs.generated_source.add_generated_start_lines.Given as goal

-- the lines so far and those that are left are all of them
abbrev pub invariant-loop-last : goal.invariant-loop-last
invariant-loop-last l = l.text.items ++ start_lines l.number l.last (l.cells - l.last) ≡ l.fn.text.items ++ start_lines l.seed 0 l.cells
