-- The slope of one more row, which is known already or computed.
use Rattle.qss_states.proofs.Common
use Common.{ℕ, ℤ, ◌<◌, ◌∙◌, among_at, ap, arith, FitsSigned, get_or, iff_false, IsSlopeAt}
use Common.{length-set, of_z, pos, row_is_light, state_count, to_z, to_z-of_z, w128, written_all}
use Common.{written_more}
use Rattle.qss_states.proofs.GoingOn.{is_true}
use Rattle.qss_states.proofs.Marked.{still_known, one_known}
use Rattle.qss_states.proofs.slope_updates.sum_marked_rows.Goals as goal

pub loop-row-preserved-then-not-is_sum_marked : goal.loop-row-preserved-then-not-is_sum_marked
loop-row-preserved-then-not-is_sum_marked c =
    let m = c.args.at.now.machine.now in
    let i = c.loop-row.row-index in
    let inv = c.loop-row.invariant in
    let rows = c.args.rows.now in
    let old = c.args.slopes.now in
    let row : ℕ = get_or rows i 0 in
    let Has : ℕ → ℤ → Type 0 = IsSlopeAt m c.args.at.now.levels.now c.args.handled.now.discretes.now in
    let still = still_known Has rows _ old c.loop-row.slopes c.requires.marked inv.written in
    record {
      written = one_known Has rows old c.loop-row.slopes i c.loop-row-test.true inv.written
          (still.known row (among_at rows i c.loop-row-test.true)
          (λ e.
          iff_false c.is_sum_marked.ensures c.if-not-is_sum_marked.true
          (ap (λ z. to_z w128 (of_z w128 z)) e)));
      as_many = inv.as_many;
    }

pub slope-requires-clause-modes : goal.slope-requires-clause-modes
slope-requires-clause-modes c =
    let row : ℕ = get_or c.args.rows.now c.loop-row.row-index 0 in
    is_true _ (row_is_light c.args.at.now.machine.now c.args.at.now.levels.now c.args.handled.now.discretes.now c.requires.allowed.light row
    (c.requires.rows c.loop-row.row-index 0 c.loop-row-test.true)).modes

pub loop-row-preserved : goal.loop-row-preserved
loop-row-preserved c =
    let m = c.args.at.now.machine.now in
    let i = c.loop-row.row-index in
    let inv = c.loop-row.invariant in
    let row : ℕ = get_or c.args.rows.now i 0 in
    let known : row < state_count m = c.requires.rows i 0 c.loop-row-test.true in
    let fits : FitsSigned w128 c.slope.result = record { sfits = c.slope.type_inv } in
    let value : ℤ = to_z w128 (of_z w128 c.slope.result) in
    let Has : ℕ → ℤ → Type 0 = IsSlopeAt m c.args.at.now.levels.now c.args.handled.now.discretes.now in
    let here : Has row value = to_z-of_z w128 c.slope.result fits ∙ c.slope.ensures.value in
    record {
      written = written_more (pos 0) Has c.args.rows.now c.args.slopes.now c.loop-row.slopes i value
          c.loop-row-test.true (omega (arith, known, inv.as_many)) inv.written here;
      as_many = length-set c.loop-row.slopes row value ∙ inv.as_many;
    }

pub returns : goal.returns
returns c =
    written_all (pos 0) (IsSlopeAt c.args.at.now.machine.now c.args.at.now.levels.now c.args.handled.now.discretes.now)
    c.args.rows.now c.args.slopes.now c.loop-row.slopes c.loop-row.row-index c.loop-row-test.false
    c.loop-row.invariant.written
