-- Each state has its column.
use Rattle.qss_order2.proofs.Common
use Common.{◌<◌, ◌∙◌, ◌≡◌, ap, AreColumnsBelow, arith, IsColumn, length, state_count, subst, sym}
use Rattle.qss_machine.proofs.KeptReaders.{rows_many, rows_kept}
use Rattle.qss_order2.proofs.ColumnSums.{columns_more}
use Rattle.qss_order2.proofs.fixed_machine.list_coefficient_columns.Goals as goal

pub rows_of-readers-requires : goal.rows_of-readers-requires
rows_of-readers-requires c = omega (
  arith,
  c.loop-state-test.true,
  ap length c.as_slice-state-end.ensures,
  rows_many c.args.m.now c.in_ok-uses.uses c.in_ok-uses.ensures,
)

pub coefficient_column-requires-clause-readers : goal.coefficient_column-requires-clause-readers
coefficient_column-requires-clause-readers c =
    let below : c.loop-state.state < state_count c.args.m.now =
    omega (arith, c.loop-state-test.true, ap length c.as_slice-state-end.ensures) in
    c.rows_of-readers.ensures ∙ rows_kept c.args.m.now c.in_ok-uses.uses c.in_ok-uses.ensures
    c.loop-state.state (omega (arith, below))

pub loop-state-preserved : goal.loop-state-preserved
loop-state-preserved c =
    let m = c.args.m.now in
    let state = c.loop-state.state in
    let column : IsColumn m state c.new-in-loop-state.result =
    subst (IsColumn m state) (sym c.new-in-loop-state.ensures) c.in_ok-entries.ensures in
    columns_more m state c.loop-state.columns.items c.push.new.self.items c.new-in-loop-state.result
    c.loop-state.invariant c.in_ok-push.ensures.items column

pub returns : goal.returns
returns c =
    let m = c.args.m.now in
    let all : c.loop-state.state ≡ state_count m = omega (
      arith,
      c.loop-state-test.false,
      c.loop-state.auto.state-end,
      ap length c.as_slice-state-end.ensures,
    ) in
    subst (λ n. AreColumnsBelow m n c.loop-state.columns.items) all c.loop-state.invariant
