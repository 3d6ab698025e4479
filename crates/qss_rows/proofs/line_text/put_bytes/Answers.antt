use Rattle.qss_rows.proofs.Common.{◌-◌, arith, length}
use Rattle.qss_rows.proofs.LineRecords.{put_before}
use Rattle.qss_rows.proofs.line_text.put_bytes.Goals as goal

pub returns-clause-written : goal.returns-clause-written
returns-clause-written c =
    let bytes = c.args.bytes.now in
    let at = c.args.at in
    rw c.copy_from_slice.ensures.after
    (put_before c.args.line.now bytes (at - length bytes) at
    (omega (arith, c.requires.room)) (omega (arith, c.requires.within)))
