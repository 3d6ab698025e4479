-- The unit and the quantum are small.
use Rattle.qss_order2.proofs.Common.{IsPositiveWithin, subst, sym, to_z-of_z, unit_fits}
use Rattle.qss_order2.proofs.fixed_machine.fine_state_quantum.Goals as goal

pub fine_quantum-requires-clause-unit : goal.fine_quantum-requires-clause-unit
fine_quantum-requires-clause-unit c =
    let of_unit = c.ranges.unit in
    simp to_z-of_z (subst (IsPositiveWithin 44) (sym c.requires.unit) (unit_fits c.args.m.now))
