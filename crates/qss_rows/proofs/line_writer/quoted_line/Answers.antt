use Rattle.qss_rows.proofs.LineRecords.{quoted_line}
use Rattle.qss_rows.proofs.line_writer.quoted_line.Goals as goal

pub returns-in-Ok-clause-some : goal.returns-in-Ok-clause-some
returns-in-Ok-clause-some c =
    let a = c.args in
    let is = c.in-Ok.ensures in
    let size = c.in-Ok.line.ok.0 in
    (quoted_line a.tick.now a.event.now a.name.now a.level.now a.state.now _ _ _ is size
    c.pop.ensures.rest).0

pub returns-in-Ok-clause-text : goal.returns-in-Ok-clause-text
returns-in-Ok-clause-text c =
    let a = c.args in
    let is = c.in-Ok.ensures in
    let size = c.in-Ok.line.ok.0 in
    (quoted_line a.tick.now a.event.now a.name.now a.level.now a.state.now _ _ _ is size
    c.pop.ensures.rest).1
