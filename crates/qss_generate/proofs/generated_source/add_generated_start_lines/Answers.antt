use Rattle.std.proofs.Common.{◌++◌, rules}
use Rattle.qss_generate.specs.Source.{start_lines}
use Rattle.qss_generate.proofs.Lengths.{lines_go_on}
use Rattle.qss_generate.proofs.generated_source.add_generated_start_lines.Goals as goal

pub loop-last-preserved : goal.loop-last-preserved
loop-last-preserved c =
    lines_go_on c.loop-last.text.items c.add_generated_start_line.new.text.items (c.args.text.now.items ++ start_lines c.args.seed 0 c.args.cells)
    c.loop-last.number c.next_generated_value-number.result _ c.loop-last.last c.args.cells c.next_generated_value-number.ensures (search rules) c.loop-last-test.true c.in_ok-add_generated_start_line.ensures c.loop-last.invariant
