use Rattle.qss_rows.proofs.Common
use Common.{[], ℕ, ◌≡◌, arith, decimal, drop, drop_all, List, number_text, refl}
use Rattle.qss_rows.proofs.LineRecords.{line_parts, plain_record}
use Rattle.qss_rows.proofs.Plain.{plain_decimal, plain_number}
use Rattle.qss_rows.proofs.line_text.put_values.Goals as goal

pub returns-clause-written : goal.returns-clause-written
returns-clause-written c =
    let a = c.args in
    let tick : List ℕ = decimal a.tick.now.tick in
    let level : List ℕ = number_text a.level in
    let state : List ℕ = number_text a.state in
    let name = c.in_ok-name_at.ensures in
    let none : drop 1004 a.line.now ≡ [] = drop_all 1004 a.line.now (omega arith) in
    let whole =
    line_parts tick a.event.now a.name.now level state _ _ _ _ _ _ _ _ _ _
    c.put.ensures.written c.put_comma-first.ensures.written
    c.put_bytes-event_at.ensures.written c.put_comma-middle.ensures.written
    name.written c.put_comma-last.ensures.written
    c.put_number-level_at.ensures.written c.put_comma-comma.ensures.written
    c.put_number-state_at.ensures.written none in
    plain_record tick a.event.now a.name.now level state _ whole
    (plain_decimal a.tick.now.tick) c.requires.unquoted (name.unquoted refl)
    (plain_number a.level) (plain_number a.state)
