-- A model that is due sends its message, and makes its transition, unless what it sends passes its limit.
use Rattle.qss_components.proofs.Common
use Common.{ℕ, ◌∙◌, ◌≡◌, ap, false, HasSmallLevel, Message, Option, passes_limit, refl, Some, subst}
use Common.{sym, true}
use Rattle.std.specs.Prelude.{IsSome, IfSome}
use Rattle.qss_components.proofs.Passing.{level_small}
use Rattle.qss_components.proofs.atomic.make_transition.Goals as goal

pub returns-then-not-is_due : goal.returns-then-not-is_due
returns-then-not-is_due g c = record {
  rests = λ e. (refl, c.is_due.ensures.other c.if-not-is_due.true);
  passes = λ e. absurd (cc);
  sends = λ a e. absurd (cc);
  later = λ a next e. absurd (cc);
}

pub returns-in-None : goal.returns-in-None
returns-in-None g c =
    let due = c.is_due.ensures.due c.if-not-is_due.false in
    let none : false ≡ true = subst IsSome c.in-None.is ((c.output.ensures.when (Some c.args.tick) due).1 refl) in
    absurd (cc)

pub returns-then-is_atomic_past_limit : goal.returns-then-is_atomic_past_limit
returns-then-is_atomic_past_limit g c =
    let due = c.is_due.ensures.due c.if-not-is_due.false in
    let sends = subst (λ (o : Option Message). IfSome o (g.A.Atomic.sends c.args.model.now c.args.tick)) c.in-Some.is (c.output.ensures.what c.args.tick due) in
    record {
      rests = λ e. absurd (cc);
      passes = λ e. (refl, due, (c.in-Some.msg, sends, sym c.is_atomic_past_limit.ensures ∙ c.if-is_atomic_past_limit.true));
      sends = λ a e. absurd (cc);
      later = λ a next e. absurd (cc);
    }

pub internal-requires-clause-due : goal.internal-requires-clause-due
internal-requires-clause-due g c = (c.args.tick, c.is_due.ensures.due c.if-not-is_due.false)

pub internal-requires-clause-size_limit : goal.internal-requires-clause-size_limit
internal-requires-clause-size_limit g c t sent is sends =
    let due = c.is_due.ensures.due c.if-not-is_due.false in
    let msg : Message = c.in-Some.msg in
    let here : t ≡ c.args.tick = c.is_due.ensures.only t c.if-not-is_due.false is in
    let own = subst (λ (o : Option Message). IfSome o (g.A.Atomic.sends c.args.model.now c.args.tick)) c.in-Some.is (c.output.ensures.what c.args.tick due) in
    let same : sent ≡ msg = c.requires sent msg (subst (λ (n : ℕ). g.A.Atomic.sends c.args.model.now n sent) here sends) own in
    subst HasSmallLevel (sym same) (level_small msg (sym c.is_atomic_past_limit.ensures ∙ c.if-is_atomic_past_limit.false))

pub returns : goal.returns
returns g c =
    let due = c.is_due.ensures.due c.if-not-is_due.false in
    let msg : Message = c.in-Some.msg in
    let own = subst (λ (o : Option Message). IfSome o (g.A.Atomic.sends c.args.model.now c.args.tick)) c.in-Some.is (c.output.ensures.what c.args.tick due) in
    let turned = c.internal.ensures.turned c.args.tick due in
    let one : turned.0 ≡ msg = c.requires turned.0 msg turned.1 own in
    let turns = subst (λ (a : Message). g.A.Atomic.turns c.args.model.now c.args.tick a c.internal.new.self) one turned.2 in
    record {
      rests = λ e. absurd (cc);
      passes = λ e. absurd (cc);
      sends = λ a e.
          let same : msg ≡ a = cc in (
            due,
            subst (g.A.Atomic.sends c.args.model.now c.args.tick) same own,
            sym (ap passes_limit same) ∙ sym c.is_atomic_past_limit.ensures ∙ c.if-is_atomic_past_limit.false,
            subst (λ (s : Message). g.A.Atomic.turns c.args.model.now c.args.tick s c.internal.new.self) same turns,
          );
      later = λ a next e is. c.internal.ensures.later c.args.tick next due is;
    }
