use Rattle.cert_check.proofs.Common.{[], ◌∷◌, codes, line, pos, row_lines}
use Rattle.cert_check.proofs.WrittenLines.{next}
use Rattle.cert_check.proofs.certificate_writer.write_certificate_form.Goals as goal

pub returns : goal.returns
returns c =
    next _ _ _ (line (codes "form") (pos 3 ∷ [])) (row_lines (codes "P") c.args.c.now.pm) c.in_ok-write_certificate_line.ensures c.in_ok-write_certificate_rows.ensures
