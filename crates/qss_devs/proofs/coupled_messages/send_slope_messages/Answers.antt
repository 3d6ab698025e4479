-- One more function makes its transition.
use Rattle.qss_devs.proofs.Common
use Common.{◌<◌, ◌≡◌, ap, arith, Err, length, refl, rules, sloped, state_count}
use Rattle.qss_devs.proofs.Overs.{no_overflow}
use Rattle.qss_devs.proofs.LevelsTaken.{sent_none, sent_more, sent_all, sent_over, sloped_values}
use Rattle.qss_devs.proofs.coupled_messages.send_slope_messages.Goals as goal

pub loop-j-init : goal.loop-j-init
loop-j-init g c = record {
  ruled = λ name ruled. ruled;
  ready = c.requires.ready;
  sent = λ v values a. sent_none c.args.m.now c.args.tick v c.args.parts.now a;
  later = λ v values a near later. later;
}

pub overflow_cast-j : goal.overflow_cast-j
overflow_cast-j g c =
    omega (arith, ap length c.as_slice-j-end.ensures, c.args.m.now.has_variables.few)

pub send_slope_message-requires : goal.send_slope_message-requires
send_slope_message-requires g c = record {
  known = omega (arith, ap length c.as_slice-j-end.ensures);
  ready = c.loop-j.invariant.ready;
}

pub returns-in_err-send_slope_message : goal.returns-in_err-send_slope_message
returns-in_err-send_slope_message g c =
    let j = c.loop-j.j in
    let inv = c.loop-j.invariant in
    let step = c.send_slope_message.ensures in
    let over = c.in_err-send_slope_message.field-0.0 in
    let given : c.from_residual.result ≡ Err over = search rules in
    let inside : j < state_count c.args.m.now = omega (arith, ap length c.as_slice-j-end.ensures) in
    record {
      ruled = λ name ruled. step.ruled name (inv.ruled name ruled);
      ready = step.ready;
      sent = λ v values a.
          let before = inv.sent v values a in
          let fits = sloped_values (omega (arith, inside)) values before in
          let sent = step.sent (sloped c.args.m.now v j) fits before.agree in
          rw given
          (sent_over values.each inside before (rw c.in_err-send_slope_message.was at sent));
      later = λ v values a near later none. no_overflow c.from_residual.result over given none;
    }

pub loop-j-preserved : goal.loop-j-preserved
loop-j-preserved g c =
    let m = c.args.m.now in
    let j = c.loop-j.j in
    let inv = c.loop-j.invariant in
    let step = c.send_slope_message.ensures in
    let was = c.in_ok-send_slope_message.was in
    let inside : j < state_count m = omega (arith, ap length c.as_slice-j-end.ensures) in
    record {
      ruled = λ name ruled. step.ruled name (inv.ruled name ruled);
      ready = step.ready;
      sent = λ v values a.
          let before = inv.sent v values a in
          let fits = sloped_values (omega (arith, inside)) values before in
          let sent = step.sent (sloped m v j) fits before.agree in
          sent_more inside before (rw was at sent) step.others;
      later = λ v values a near later.
          let before = inv.sent v values a in
          let fits = sloped_values (omega (arith, inside)) values before in
          step.later (sloped m v j) fits before.agree near (inv.later v values a near later)
          (rw was refl);
    }

pub returns : goal.returns
returns g c =
    let inv = c.loop-j.invariant in
    let all : c.loop-j.j ≡ state_count c.args.m.now =
    omega (arith, c.loop-j-test.false, c.loop-j.auto.j-end, ap length c.as_slice-j-end.ensures) in
    record {
      ruled = inv.ruled;
      ready = inv.ready;
      sent = λ v values a. sent_all values.each (rw all at (inv.sent v values a));
      later = λ v values a near later none. inv.later v values a near later;
    }
