-- One more integrator makes its transition.
use Rattle.qss_devs.proofs.Common
use Common.{ℕ, ◌<◌, ◌∙◌, ◌≡◌, ap, arith, cases_eq, Err, inl, inr, IsLineNext, length, leveled, Line}
use Common.{line_at, refl, rules, Some, state_count, subst}
use Rattle.qss_devs.proofs.Overs.{no_overflow}
use Rattle.qss_devs.proofs.LevelsTaken.{taken_none, taken_more, taken_all, taken_over}
use Rattle.qss_devs.proofs.LevelsTaken.{leveled_values}
use Rattle.qss_devs.proofs.coupled_messages.send_integrator_level_messages.Goals as goal

pub loop-j-init : goal.loop-j-init
loop-j-init g c = record {
  ruled = λ name ruled. ruled;
  ready = c.requires.ready;
  taken = λ rule v ruled values a.
      taken_none c.args.m.now rule c.args.tick v c.args.parts.now c.args.rows.now.items a;
  later = λ i next below. absurd (omega (arith, below));
  room = refl;
  count = omega arith;
}

pub overflow_cast-j : goal.overflow_cast-j
overflow_cast-j g c =
    omega (arith, ap length c.as_slice-j-end.ensures, c.args.m.now.has_variables.few)

pub send_integrator_level_message-requires : goal.send_integrator_level_message-requires
send_integrator_level_message-requires g c =
    let inv = c.loop-j.invariant in
    let rule = c.requires.ruled.0 in
    let many = ap length c.as_slice-j-end.ensures in
    record {
      ruled = (rule, inv.ruled (Some rule) c.requires.ruled.1);
      known = omega (arith, many);
      ready = inv.ready;
      room = omega (arith, many);
    }

pub returns-in_err-send_integrator_level_message : goal.returns-in_err-send_integrator_level_message
returns-in_err-send_integrator_level_message g c =
    let m = c.args.m.now in
    let j = c.loop-j.j in
    let inv = c.loop-j.invariant in
    let sent = c.send_integrator_level_message.ensures in
    let over = c.in_err-send_integrator_level_message.field-0.0 in
    let given : c.from_residual.result ≡ Err over = search rules in
    let inside : j < state_count m = omega (arith, ap length c.as_slice-j-end.ensures) in
    record {
      ruled = λ name ruled. sent.ruled name (inv.ruled name ruled);
      ready = sent.ready;
      taken = λ rule v ruled values a.
          let before = inv.taken rule v ruled values a in
          let now = inv.ruled (Some rule) ruled in
          let fits = leveled_values (omega (arith, inside)) values before in
          let step = sent.taken rule (leveled m rule v j) now fits before.agree in
          rw given
          (taken_over values.each inside before
          (rw c.in_err-send_integrator_level_message.was at step));
      later = λ none. no_overflow c.from_residual.result over given none;
      room = sent.room ∙ inv.room;
    }

pub loop-j-preserved : goal.loop-j-preserved
loop-j-preserved g c =
    let m = c.args.m.now in
    let j = c.loop-j.j in
    let inv = c.loop-j.invariant in
    let sent = c.send_integrator_level_message.ensures in
    let was = c.in_ok-send_integrator_level_message.was in
    let inside : j < state_count m = omega (arith, ap length c.as_slice-j-end.ensures) in
    record {
      ruled = λ name ruled. sent.ruled name (inv.ruled name ruled);
      ready = sent.ready;
      taken = λ rule v ruled values a.
          let before = inv.taken rule v ruled values a in
          let now = inv.ruled (Some rule) ruled in
          let fits = leveled_values (omega (arith, inside)) values before in
          let step = sent.taken rule (leveled m rule v j) now fits before.agree in
          taken_more before (rw was at step);
      later = λ i next below found. elim (cases_eq i j) [
        | inl e ↦
            sent.later next (rw was refl)
            (subst (λ (k : ℕ). IsLineNext m k (line_at c.send_integrator_level_message.new.parts k) (Some next)) e found)
        | inr ne ↦
            inv.later i next (omega (arith, below, ne))
            (subst (λ (l : Line). IsLineNext m i l (Some next))
            (sent.others i (omega (arith, below, inside)) ne) found)
      ];
      room = sent.room ∙ inv.room;
      count = omega (arith, sent.count, inv.count);
    }

pub returns : goal.returns
returns g c =
    let m = c.args.m.now in
    let inv = c.loop-j.invariant in
    let all : c.loop-j.j ≡ state_count m =
    omega (arith, c.loop-j-test.false, c.loop-j.auto.j-end, ap length c.as_slice-j-end.ensures) in
    record {
      ruled = inv.ruled;
      ready = inv.ready;
      taken = λ rule v ruled values a.
          taken_all values.each (rw all at (inv.taken rule v ruled values a));
      later = λ none i next h found. inv.later i next (omega (arith, h, all)) found;
      room = inv.room;
    }
