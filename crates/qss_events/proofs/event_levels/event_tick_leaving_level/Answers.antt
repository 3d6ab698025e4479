-- The first tick after a line's own, at the quantum of its level.
use Rattle.qss_events.proofs.Common
use Common.{◌∙◌, ◌≡◌, ap, arith, FitsSigned, ints, IsPositiveWithin, IsWithin, Line, quantum_of}
use Common.{refl, subst, sym, to_z-of_z, unit_fits, w128, w64}
use Rattle.qss_events.proofs.Ranges.{quantum_fits}
use Rattle.qss_events.proofs.NextLevels.{due_here}
use Rattle.qss_events.proofs.event_levels.event_tick_leaving_level.Goals as goal

pub due-requires-clause-quantum : goal.due-requires-clause-quantum
due-requires-clause-quantum c =
    let small : IsWithin 43 c.line.inside.level = c.line.invariant.small_level in
    let level : FitsSigned w64 c.line.inside.level = omega (arith, ints, small) in
    let fits : FitsSigned w64 c.quantum_at-quantum.result = record { sfits = c.quantum_at-quantum.type_inv } in
    let own : c.quantum_at-quantum.result ≡ quantum_of c.args.m.now c.args.j c.line.inside.level = simp to_z-of_z at c.quantum_at-quantum.ensures in
    rw (to_z-of_z w64 c.quantum_at-quantum.result fits) (subst (IsPositiveWithin 43) (sym own) (quantum_fits c.args.m.now c.args.j c.line.inside.level c.requires.state small))

pub due-requires-clause-unit : goal.due-requires-clause-unit
due-requires-clause-unit c =
    let fits : FitsSigned w128 c.level_unit.result = record { sfits = c.level_unit.type_inv } in
    rw (to_z-of_z w128 c.level_unit.result fits) (subst (IsPositiveWithin 44) (sym c.level_unit.ensures) (unit_fits c.args.m.now))

pub returns : goal.returns
returns c =
    let m = c.args.m.now in
    let line : Line = c.args.line.now in
    let small : IsWithin 43 c.line.inside.level = c.line.invariant.small_level in
    let level : FitsSigned w64 c.line.inside.level = omega (arith, ints, small) in
    let fits : FitsSigned w64 c.quantum_at-quantum.result = record { sfits = c.quantum_at-quantum.type_inv } in
    let unit : FitsSigned w128 c.level_unit.result = record { sfits = c.level_unit.type_inv } in
    let own : c.quantum_at-quantum.result ≡ quantum_of m c.args.j c.line.inside.level = simp to_z-of_z at c.quantum_at-quantum.ensures in
    let first = simp to_z-of_z at c.due.ensures in
    due_here m line.tick c.args.j line line.x line.slope line.level c.level_unit.result c.quantum_at-quantum.result c.due.result refl c.level_unit.ensures
    (own ∙ ap (λ (l : Line). quantum_of m c.args.j l.level) c.line.view_is) first
