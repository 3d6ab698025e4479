use Rattle.qss_machine.proofs.Common.{◌^◌, ◌≤◌, arith, FitsSigned, pow_mono, unsigned_abs, w128}
use Rattle.qss_machine.proofs.Loops.{product_is, product_bound}
use Rattle.qss_machine.proofs.form_values.form_unit_tick.Goals as goal

pub returns-clause-bound : goal.returns-clause-bound
returns-clause-bound c =
    let tick_fits : FitsSigned w128 c.from.result = record { sfits = c.from.type_inv } in
    let unit_fits : FitsSigned w128 c.unit.result = record { sfits = c.unit.type_inv } in
    let power : 2 ^ c.args.bits ≤ 2 ^ 56 = pow_mono c.requires.bits in
    let tick : unsigned_abs c.from.result ≤ 2 ^ 32 = rw c.from.ensures (omega (arith, c.requires.tick)) in
    let one : unsigned_abs c.unit.result ≤ 2 ^ 56 = rw c.unit.ensures power in
    rw (product_is c.from.result c.unit.result (2 ^ 32) (2 ^ 56) tick_fits unit_fits tick one (omega arith))
    (product_bound c.from.result c.unit.result (2 ^ 32) (2 ^ 56) tick one)
