-- One more absolute row sum.
use Rattle.qss_states.proofs.Common
use Common.{ℕ, ◌<◌, arith, fill_by_all, pos, row_is_light, state_count, weight_at}
use Rattle.qss_states.proofs.GoingOn.{is_true}
use Rattle.qss_states.proofs.kept_weights.weigh_all_kept_rows.Goals as goal

pub weight-requires-clause-modes : goal.weight-requires-clause-modes
weight-requires-clause-modes c =
    let row : ℕ = c.loop-row.row in
    let known : row < state_count c.args.m.now = omega (arith, c.loop-row-test.true, c.loop-row.invariant.as_many) in
    is_true _ (row_is_light c.args.m.now c.args.levels.now c.args.d.now c.requires.light row known).modes

pub returns : goal.returns
returns c =
    fill_by_all (λ j. weight_at c.args.m.now j c.args.levels.now c.args.d.now) c.loop-row.weights (state_count c.args.m.now) (pos 0) c.loop-row.invariant.as_many
    (λ j h. c.loop-row.invariant.own j (omega (arith, h, c.loop-row-test.false, c.loop-row.invariant.as_many)))
