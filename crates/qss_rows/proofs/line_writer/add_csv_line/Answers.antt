use Rattle.qss_rows.proofs.Common.{rules, subst}
use Rattle.qss_rows.specs.Writers.{Gains}
use Rattle.qss_rows.proofs.LineRecords.{line_record}
use Rattle.qss_rows.proofs.line_writer.add_csv_line.Goals as goal

pub returns-in-Ok : goal.returns-in-Ok
returns-in-Ok c =
    subst (Gains c.args.writer.now c.write_fields.new.self)
    (line_record c.args.line.now c.requires.some) (search rules)
