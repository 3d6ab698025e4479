-- At levels of 0 a slope is what no level changes.
use Rattle.qss_order2.proofs.Common
use Common.{[], ◌∙◌, ◌≡◌, All, ap, arith, discretes_start, FitsSigned, IsWithin, pos, replicate}
use Common.{row_at, SlopeRow, start_constant_part, state_count, subst, sym, to_z-of_z, w128}
use Rattle.std.specs.Prelude.{IsTrue}
use Rattle.qss_machine.specs.Machines.{slope_at}
use Rattle.qss_machine.specs.Slopes.{mode_fits}
use Rattle.qss_order2.proofs.Sizes.{slope_of_zeros}
use Rattle.qss_order2.proofs.fixed_machine.constant_slope.Goals as goal

pub slope-requires-clause-small_discretes : goal.slope-requires-clause-small_discretes
slope-requires-clause-small_discretes c = subst (All (IsWithin 43)) (sym c.requires.start)
    (discretes_start c.args.m.now)

pub slope-requires-clause-modes : goal.slope-requires-clause-modes
slope-requires-clause-modes c =
    let m = c.args.m.now in
    let none : SlopeRow = record { entries = []; products = []; beta = pos 0 } in
    subst (λ d. IsTrue (mode_fits m.f (state_count m) (row_at m c.args.row) d))
    (sym c.requires.start)
    (m.has_rows.modes c.args.row none (omega (arith, c.requires.row, m.has_rows.one_each)))

pub returns : goal.returns
returns c =
    let m = c.args.m.now in
    let fits : FitsSigned w128 c.slope.result = record { sfits = c.slope.type_inv } in
    let own : c.slope.result ≡ start_constant_part m c.args.row =
    c.slope.ensures.value ∙ ap (λ l. slope_at m c.args.row l c.args.discretes.now) c.requires.zeros
    ∙ ap (λ d. slope_at m c.args.row (replicate (state_count m) (pos 0)) d) c.requires.start
    ∙ slope_of_zeros m c.args.row in
    simp to_z-of_z own
