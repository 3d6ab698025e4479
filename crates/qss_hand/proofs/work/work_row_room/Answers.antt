-- The rows of the clauses so far and of one more are among all.
use Rattle.qss_hand.proofs.Common
use Common.{ℕ, ◌+◌, ◌<◌, ◌≡◌, ◌≤◌, ap, arith, BranchInfo, ClauseInfo, get_or, length, List}
use Common.{row_room, sum_by, take}
use Rattle.std.proofs.lemmas.List.Sums.{sum_by_more, sum_by_more_le}
use Rattle.qss_hand.proofs.work.work_row_room.Goals as goal

abbrev rows_of : ClauseInfo → ℕ
rows_of clause = 1 + sum_by (λ (branch : BranchInfo). length branch.actions) clause.branches

within : (clauses : List ClauseInfo) (i : ℕ) (item : ClauseInfo) → i < length clauses → item ≡ get_or clauses i item → row_room clauses ≤ 16384 →
    row_room (take i clauses) + rows_of item ≤ 16384
within clauses i item h is few =
    let own : rows_of item ≡ rows_of (get_or clauses i item) = ap rows_of is in
    omega (arith, own, sum_by_more_le rows_of clauses i item h, few)

pub count_work_statements-requires : goal.count_work_statements-requires
count_work_statements-requires c =
    rw c.as_slice.ensures (omega (arith, within c.args.clauses.now c.loop-clause.clause-index c.clause-item.result c.loop-clause-test.true c.clause-item.is c.requires))

pub overflow_add-room-in-loop-clause : goal.overflow_add-room-in-loop-clause
overflow_add-room-in-loop-clause c =
    let count = rw c.as_slice.ensures at c.count_work_statements.ensures in
    omega (arith, count, c.loop-clause.invariant, within c.args.clauses.now c.loop-clause.clause-index c.clause-item.result c.loop-clause-test.true c.clause-item.is c.requires)

pub loop-clause-preserved : goal.loop-clause-preserved
loop-clause-preserved c =
    let count = rw c.as_slice.ensures at c.count_work_statements.ensures in
    let own : rows_of c.clause-item.result ≡ rows_of (get_or c.args.clauses.now c.loop-clause.clause-index c.clause-item.result) = ap rows_of c.clause-item.is in
    omega (arith, count, own, c.loop-clause.invariant, sum_by_more rows_of c.args.clauses.now c.loop-clause.clause-index c.clause-item.result c.loop-clause-test.true)
