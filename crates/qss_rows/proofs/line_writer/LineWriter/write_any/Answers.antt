use Rattle.qss_rows.proofs.LineRecords.{plain_event}
use Rattle.qss_rows.proofs.line_writer.LineWriter.write_any.Goals as goal

pub write_values-requires : goal.write_values-requires
write_values-requires c = plain_event _ _ c.row_kind_word-event.ensures
