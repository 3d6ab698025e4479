use Rattle.std.proofs.Common.{codes, decimal}
use Rattle.qss_generate.proofs.Lengths.{joined}
use Rattle.qss_generate.proofs.generated_source.add_generated_front.Goals as goal

pub returns : goal.returns
returns c =
    joined c.args.text.now.items c.extend_from_slice.new.self.items c.add_generated_number.new.text.items c.extend_from_slice-2.new.self.items
    (codes "model chain\nReal u[") (decimal c.args.cells) (codes "];\ninitial algorithm\n")
    c.in_ok-extend_from_slice.ensures.items c.in_ok-add_generated_number.ensures c.in_ok-extend_from_slice-2.ensures.items
