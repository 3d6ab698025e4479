use Rattle.qss_rows.proofs.Plain.{lines_are_plain as proof}
use Rattle.qss_rows.proofs.line_writer.writer_lines_are_plain.Goals as goal

pub returns : goal.returns
returns c = proof
