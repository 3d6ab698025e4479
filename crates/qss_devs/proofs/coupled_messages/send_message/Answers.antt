-- A message goes where it is about.
use Rattle.qss_devs.proofs.Common.{inl, inr, IsMessage, refl, subst}
use Rattle.qss_devs.proofs.coupled_messages.send_message.Goals as goal

pub send_line_message-requires-clause-own : goal.send_line_message-requires-clause-own
send_line_message-requires-clause-own g c = inl (_, refl)

pub send_line_message-requires-clause-known : goal.send_line_message-requires-clause-known
send_line_message-requires-clause-known g c = (subst (IsMessage c.args.m.now) c.in-Slope.is c.requires.message).0

pub send_line_message-requires-in-State-clause-own : goal.send_line_message-requires-in-State-clause-own
send_line_message-requires-in-State-clause-own g c = inr (_, refl)

pub send_line_message-requires-in-State-clause-known : goal.send_line_message-requires-in-State-clause-known
send_line_message-requires-in-State-clause-known g c = (subst (IsMessage c.args.m.now) c.in-State.is c.requires.message).0

pub send_level_message-requires-clause-own : goal.send_level_message-requires-clause-own
send_level_message-requires-clause-own g c = (_, refl)

pub send_level_message-requires-clause-known : goal.send_level_message-requires-clause-known
send_level_message-requires-clause-known g c = (subst (IsMessage c.args.m.now) c.in-Level.is c.requires.message).0

pub send_discrete_message-requires-clause-own : goal.send_discrete_message-requires-clause-own
send_discrete_message-requires-clause-own g c = (_, refl)

pub send_discrete_message-requires-clause-known : goal.send_discrete_message-requires-clause-known
send_discrete_message-requires-clause-known g c = (subst (IsMessage c.args.m.now) c.in-Discrete.is c.requires.message).1

pub returns-in-Truth : goal.returns-in-Truth
returns-in-Truth g c = rw c.in-Truth.is (record {
  ruled = λ name ruled. ruled;
  ready = c.requires.ready;
  lines = λ j h. refl;
  functions = λ j h. refl;
  crossings = λ k h. refl;
})
