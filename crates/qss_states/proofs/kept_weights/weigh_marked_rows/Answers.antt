-- The absolute row sum of one more row, which is known already or computed.
use Rattle.qss_states.proofs.Common
use Common.{ℕ, ◌<◌, among_at, ap, arith, FitsSigned, get_or, iff_false, IsWeighed, length, of_z}
use Common.{pos, state_count, subst, sym, to_z, to_z-of_z, w128, written_more}
use Rattle.qss_states.proofs.Marked.{still_known, one_known}
use Rattle.qss_states.proofs.kept_weights.weigh_marked_rows.Goals as goal

pub loop-row-preserved-then-not-is_sum_marked : goal.loop-row-preserved-then-not-is_sum_marked
loop-row-preserved-then-not-is_sum_marked c =
    let i = c.loop-row.row-index in
    let rows = c.args.rows.now in
    let old = c.args.weights.now in
    let Has = IsWeighed c.args.at.now.machine.now c.args.at.now.levels.now c.args.handled.now.discretes.now in
    let still =
    still_known Has rows _ old c.loop-row.weights c.requires.marked c.loop-row.invariant in
    one_known Has rows old c.loop-row.weights i c.loop-row-test.true c.loop-row.invariant
    (still.known (get_or rows i 0) (among_at rows i c.loop-row-test.true)
    (λ e.
    iff_false c.is_sum_marked.ensures c.if-not-is_sum_marked.true
    (ap (λ z. to_z w128 (of_z w128 z)) e)))

pub loop-row-preserved : goal.loop-row-preserved
loop-row-preserved c =
    let m = c.args.at.now.machine.now in
    let i = c.loop-row.row-index in
    let row : ℕ = get_or c.args.rows.now i 0 in
    let known : row < state_count m = c.requires.rows i 0 c.loop-row-test.true in
    let fits : FitsSigned w128 c.weigh_kept_row.result =
    record { sfits = c.weigh_kept_row.type_inv } in
    let inside : row < length c.loop-row.weights =
    omega (arith, known, c.loop-row.invariant.as_many, c.requires.allowed.one_each) in
    let Has = IsWeighed m c.args.at.now.levels.now c.args.handled.now.discretes.now in
    written_more (pos 0) Has c.args.rows.now c.args.weights.now c.loop-row.weights i _
    c.loop-row-test.true inside c.loop-row.invariant
    (subst (Has row) (sym (to_z-of_z w128 c.weigh_kept_row.result fits)) c.weigh_kept_row.ensures)
