-- The slope of one more row.
use Rattle.qss_states.proofs.Common
use Common.{ℕ, ℤ, ◌<◌, ◌∙◌, ◌≡◌, arith, FitsSigned, get_or, length-set, of_z, pos, row_is_light}
use Common.{slope_at, state_count, to_z, to_z-of_z, w128, written_all, written_more}
use Rattle.qss_states.proofs.GoingOn.{is_true}
use Rattle.qss_states.proofs.slope_updates.update_slopes_from_rows.Goals as goal

pub slope-requires-clause-modes : goal.slope-requires-clause-modes
slope-requires-clause-modes c =
    is_true _ (row_is_light c.args.at.now.machine.now c.args.at.now.levels.now c.args.handled.now.discretes.now c.requires.allowed.light (get_or c.args.rows.now c.loop-row.row-index 0)
    (c.requires.rows c.loop-row.row-index 0 c.loop-row-test.true)).modes

pub loop-row-preserved : goal.loop-row-preserved
loop-row-preserved c =
    let m = c.args.at.now.machine.now in
    let i = c.loop-row.row-index in
    let inv = c.loop-row.invariant in
    let row : ℕ = get_or c.args.rows.now i 0 in
    let known : row < state_count m = c.requires.rows i 0 c.loop-row-test.true in
    let fits : FitsSigned w128 c.slope.result = record { sfits = c.slope.type_inv } in
    let value : ℤ = to_z w128 (of_z w128 c.slope.result) in
    let here : value ≡ slope_at m row c.args.at.now.levels.now c.args.handled.now.discretes.now = to_z-of_z w128 c.slope.result fits ∙ c.slope.ensures.value in
    record {
      written = written_more (pos 0) (λ j slope. slope ≡ slope_at m j c.args.at.now.levels.now c.args.handled.now.discretes.now) c.args.rows.now c.args.slopes.now c.loop-row.slopes i value c.loop-row-test.true
          (omega (arith, known, inv.as_many)) inv.written here;
      as_many = length-set c.loop-row.slopes row value ∙ inv.as_many;
    }

pub returns : goal.returns
returns c =
    written_all (pos 0) (λ j slope. slope ≡ slope_at c.args.at.now.machine.now j c.args.at.now.levels.now c.args.handled.now.discretes.now) c.args.rows.now c.args.slopes.now c.loop-row.slopes c.loop-row.row-index
    c.loop-row-test.false c.loop-row.invariant.written
