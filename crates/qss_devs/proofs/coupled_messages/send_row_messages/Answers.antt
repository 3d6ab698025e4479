-- The assignment of a row is sent.
use Rattle.qss_devs.proofs.Common
use Common.{Agrees, arith, Discrete, FitsSigned, HaveReceived, ints, IsMessage, RowKind, State}
use Common.{subst, sym, to_z-of_z, Values, values_after_row, w128, w64}
use Rattle.qss_devs.proofs.MessagesReceived.{agree_state, agree_discrete, kind_other}
use Rattle.qss_devs.proofs.coupled_messages.send_row_messages.Goals as goal

pub send_message-requires : goal.send_message-requires
send_message-requires g c = record {
  message =
      let m = c.args.m.now in
      let row = c.args.row.now in
      let own : IsMessage m (State row.var row.state) = c.requires.messages.reinit c.in-Reinit.is in
      let of_state : FitsSigned w128 row.state = omega (arith, ints, own.1) in
      simp to_z-of_z own;
  ready = c.requires.ready;
}

pub returns-in-Reinit : goal.returns-in-Reinit
returns-in-Reinit g c = record {
  agree = λ v each a.
      let m = c.args.m.now in
      let row = c.args.row.now in
      let own : IsMessage m (State row.var row.state) = c.requires.messages.reinit c.in-Reinit.is in
      let of_state : FitsSigned w128 row.state = omega (arith, ints, own.1) in
      let received : HaveReceived m c.args.tick (State row.var row.state) c.args.parts.now c.send_message.new.parts = simp to_z-of_z at c.send_message.ensures in
      subst (λ (k : RowKind). Agrees m c.args.tick (values_after_row m v k row) c.send_message.new.parts) (sym c.in-Reinit.is)
      (agree_state m c.args.tick v each c.args.parts.now c.send_message.new.parts row.var row.state own.0 received a);
  ruled = c.send_message.ensures.ruled;
  ready = c.send_message.ensures.ready;
}

pub send_message-requires-in-Set : goal.send_message-requires-in-Set
send_message-requires-in-Set g c = record {
  message =
      let m = c.args.m.now in
      let row = c.args.row.now in
      let own : IsMessage m (Discrete row.var row.level) = c.requires.messages.set c.in-Set.is in
      let of_level : FitsSigned w64 row.level = omega (arith, ints, own.2) in
      simp to_z-of_z own;
  ready = c.requires.ready;
}

pub returns-in-Set : goal.returns-in-Set
returns-in-Set g c = record {
  agree = λ v each a.
      let m = c.args.m.now in
      let row = c.args.row.now in
      let own : IsMessage m (Discrete row.var row.level) = c.requires.messages.set c.in-Set.is in
      let of_level : FitsSigned w64 row.level = omega (arith, ints, own.2) in
      let received : HaveReceived m c.args.tick (Discrete row.var row.level) c.args.parts.now c.send_message-in-Set.new.parts = simp to_z-of_z at c.send_message-in-Set.ensures in
      subst (λ (k : RowKind). Agrees m c.args.tick (values_after_row m v k row) c.send_message-in-Set.new.parts) (sym c.in-Set.is)
      (agree_discrete m c.args.tick v each c.args.parts.now c.send_message-in-Set.new.parts row.var row.level own received a);
  ruled = c.send_message-in-Set.ensures.ruled;
  ready = c.send_message-in-Set.ensures.ready;
}

pub returns-in_default : goal.returns-in_default
returns-in_default g c = record {
  agree = λ v each a.
      let m = c.args.m.now in
      let row = c.args.row.now in
      subst (λ (u : Values). Agrees m c.args.tick u c.args.parts.now) (sym (kind_other m v row.kind row c.in_default.not-Set c.in_default.not-Reinit)) a;
  ruled = λ name ruled. ruled;
  ready = c.requires.ready;
}
