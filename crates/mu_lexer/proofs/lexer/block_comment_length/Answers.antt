use Rattle.mu_lexer.proofs.Common.{◌∙◌, arith, sym}
use Rattle.mu_lexer.proofs.Scans.{block_on, block_end}
use Rattle.mu_lexer.proofs.lexer.block_comment_length.Goals as goal

pub loop-i-preserved : goal.loop-i-preserved
loop-i-preserved c = (omega arith, block_on c.args.rest.now c.loop-i.i c.loop-i-test.true (sym c.ends_block_comment.ensures ∙ c.if-ends_block_comment.false) c.loop-i.invariant.1)

pub returns : goal.returns
returns c = block_end c.args.rest.now c.loop-i.i c.loop-i-test.false c.loop-i.invariant.1
