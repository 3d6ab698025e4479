use Rattle.qss_rows.proofs.Common.{◌+◌, ◌-◌, ◌<◌, ◌≡◌, arith, drop-set, length}
use Rattle.qss_rows.proofs.line_text.put_comma.Goals as goal

pub returns-clause-written : goal.returns-clause-written
returns-clause-written c =
    let at = c.args.at in
    let next : at - 1 + 1 ≡ at = omega (arith, c.requires.room) in
    let inside : at - 1 < length c.args.line.now =
    omega (arith, c.requires.within, c.requires.room) in
    rw (drop-set c.args.line.now (at - 1) 44 inside, next)
