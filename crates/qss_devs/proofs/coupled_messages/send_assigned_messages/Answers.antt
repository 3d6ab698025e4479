-- One more row is sent.
use Rattle.qss_devs.proofs.Common
use Common.{Agrees, get_or, get_or_default, pos, Row, subst, take, Values, values_after_rows}
use Rattle.qss_devs.proofs.MessagesReceived.{rows_each, row_more}
use Rattle.qss_machine.specs.declared.machine_parts.RowKind.TheVariants as kind
use Rattle.qss_devs.proofs.coupled_messages.send_assigned_messages.Goals as goal

pub loop-row-init : goal.loop-row-init
loop-row-init g c = record {
  ruled = λ name ruled. ruled;
  ready = c.requires.ready;
  agree = λ v each a. a;
}

pub send_row_messages-requires-clause-ready : goal.send_row_messages-requires-clause-ready
send_row_messages-requires-clause-ready g c = c.loop-row.invariant.ready

pub loop-row-preserved : goal.loop-row-preserved
loop-row-preserved g c = record {
  ruled = λ name ruled. c.send_row_messages.ensures.ruled name (c.loop-row.invariant.ruled name ruled);
  ready = c.send_row_messages.ensures.ready;
  agree = λ v each a.
      let items = c.as_slice-row-items.result.now in
      let i = c.loop-row.row-index in
      let row : Row = get_or items i (record { tick = 0; kind = kind.Start; var = 0; level = pos 0; state = pos 0 }) in
      subst (λ (u : Values). Agrees c.args.m.now c.args.tick u c.send_row_messages.new.parts)
      (row_more c.args.m.now v items i row c.loop-row-test.true (get_or_default items i (record { tick = 0; kind = kind.Start; var = 0; level = pos 0; state = pos 0 }) row c.loop-row-test.true))
      (c.send_row_messages.ensures.agree (values_after_rows c.args.m.now v (take i items)) (rows_each c.args.m.now v (take i items) each) (c.loop-row.invariant.agree v each a));
}
