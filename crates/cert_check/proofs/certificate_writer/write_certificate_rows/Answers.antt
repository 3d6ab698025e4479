use Rattle.cert_check.proofs.Common
use Common.{[], ℤ, ◌++◌, ◌∙◌, ap, arith, lines_text, List, row_lines, take_all}
use Rattle.cert_check.proofs.WrittenLines.{rows-more}
use Rattle.cert_check.proofs.certificate_writer.write_certificate_rows.Goals as goal

pub loop-i-preserved : goal.loop-i-preserved
loop-i-preserved c =
    c.in_ok-write_certificate_line.ensures
    ∙ rows-more c.args.keyword.now c.args.matrix.now c.loop-i.i c.args.text.now.items c.loop-i.text.items c.as_slice.result.now
    (omega (arith, c.loop-i-test.true, c.size-i-end.ensures)) (c.as_slice.ensures ∙ c.in_ok-row.ensures) c.loop-i.invariant

pub returns : goal.returns
returns c =
    c.loop-i.invariant
    ∙ ap (λ (rs : List (List ℤ)). c.args.text.now.items ++ lines_text (row_lines c.args.keyword.now rs))
    (take_all c.loop-i.i c.args.matrix.now (omega (arith, c.loop-i-test.false, c.size-i-end.ensures)))
