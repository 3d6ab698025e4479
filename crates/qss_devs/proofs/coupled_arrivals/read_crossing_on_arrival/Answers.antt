-- A crossing that changes at the tick makes its transition; another holds as it did.
use Rattle.qss_devs.proofs.Common
use Common.{ℕ, ◌∙◌, ◌≡◌, ◌≢◌, ◌≤◌, arith, HasSmallLevel, holds_at, inl, inr, IsCrossingNext, refl}
use Common.{Some, subst, sym, Truth}
use Rattle.qss_components.proofs.Standing.{still_holds}
use Rattle.qss_devs.proofs.Readings.{message_is}
use Rattle.qss_devs.proofs.coupled_arrivals.read_crossing_on_arrival.Goals as goal

pub returns-then-not-is_due : goal.returns-then-not-is_due
returns-then-not-is_due c = record {
  now =
      let w = c.args.crossing.now.detector in
      let found = c.is_due.ensures.next in
      c.requires.held
      ∙ sym (still_holds w c.args.tick found.0 c.requires.timely.not_before (omega (arith, c.requires.timely.in_time))
      (λ n is.
      let due : IsCrossingNext w (Some n) = subst (IsCrossingNext w) is found.1 in
      let before : c.args.tick ≤ n = c.requires.timely.not_past n due in
      let other : n ≢ c.args.tick = λ same. c.is_due.ensures.other c.if-not-is_due.true (subst (λ (k : ℕ). IsCrossingNext w (Some k)) same due) in
      omega (arith, before, other)) found.1);
  read = record {
    machine = refl;
    read = inl refl;
    later = λ n is.
        let before : c.args.tick ≤ n = c.requires.timely.not_past n is in
        let other : n ≢ c.args.tick = λ same. c.is_due.ensures.other c.if-not-is_due.true (subst (λ (k : ℕ). IsCrossingNext c.args.crossing.now.detector (Some k)) same is) in
        omega (arith, before, other);
  };
}

pub internal-requires : goal.internal-requires
internal-requires c = record {
  due = (c.args.tick, c.is_due.ensures.due c.if-not-is_due.false);
  size_limit = λ t sent n is. subst HasSmallLevel (sym is) tt;
}

pub returns : goal.returns
returns c = record {
  now =
      let x = c.args.crossing.now in
      let due = c.is_due.ensures.due c.if-not-is_due.false in
      let sent : c.output.result ≡ Some (Truth x.place (holds_at x.detector c.args.tick)) =
      message_is c.output.result (Truth x.place (holds_at x.detector c.args.tick)) ((c.output.ensures.when (Some c.args.tick) due).1 refl) (c.output.ensures.what c.args.tick due) in
      c.message_truth-now.ensures x.place (holds_at x.detector c.args.tick) sent;
  read =
      let due = c.is_due.ensures.due c.if-not-is_due.false in
      let turned = c.internal.ensures.turned c.args.tick due in
      record {
        machine = turned.2.0;
        read = inr turned.2.1;
        later = λ n is. c.internal.ensures.later c.args.tick n due is;
      };
}
