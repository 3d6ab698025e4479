-- One more sum is marked.
use Rattle.qss_states.proofs.Common
use Common.{ℕ, ◌<◌, ◌≡◌, arith, get_or, length, pos, refl, SUM_MARK, written_more}
use Rattle.qss_states.proofs.sum_marks.mark_sums.Goals as goal

pub loop-row-preserved : goal.loop-row-preserved
loop-row-preserved c =
    let i = c.loop-row.row-index in
    let row : ℕ = get_or c.args.rows.now i 0 in
    let known : row < length c.args.sums.now = c.requires i 0 c.loop-row-test.true in
    let inside : row < length c.loop-row.sums =
    omega (arith, known, c.loop-row.invariant.as_many) in
    written_more (pos 0) (λ row sum. sum ≡ SUM_MARK) c.args.rows.now c.args.sums.now
    c.loop-row.sums i _ c.loop-row-test.true inside c.loop-row.invariant refl
