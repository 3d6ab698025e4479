use Rattle.cert_check.proofs.Common.{◌++◌, codes, row_lines}
use Rattle.cert_check.specs.Written.{second_lines}
use Rattle.cert_check.proofs.WrittenLines.{then-lines}
use Rattle.cert_check.proofs.certificate_writer.write_certificate_roots.Goals as goal

pub returns : goal.returns
returns c =
    then-lines _ _ _ (row_lines (codes "G1") c.args.c.now.g1) (second_lines c.args.c.now ++ row_lines (codes "G2") c.args.c.now.g2) c.in_ok-write_certificate_rows.ensures
    (then-lines _ _ _ (second_lines c.args.c.now) (row_lines (codes "G2") c.args.c.now.g2) c.in_ok-write_certificate_second.ensures c.in_ok-write_certificate_rows-2.ensures)
