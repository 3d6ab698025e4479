-- The condition at one more place is scheduled, if it became true.
use Rattle.qss_run.proofs.Common
use Common.{ℕ, ◌+◌, ◌<◌, ◌∙◌, ◌≡◌, ap, AreRisenDue, arith, became_true, Bool, cases_Bool}
use Common.{Conditions, get_or, if◌then◌else◌, inl, inr, length, List, None, Option, set, Some}
use Common.{subst, sym, take}
use Rattle.qss_run.proofs.Apart.{apart_at}
use Rattle.qss_run.proofs.Called.{AreCalled, none_called, called_more, called_same, called_all}
use Rattle.qss_run.proofs.run_conditions.Conditions.make_flipped_due.Goals as goal

pub loop-condition-init : goal.loop-condition-init
loop-condition-init c = none_called c.args.states c.args.tick c.args.self.now.at_arrival.items c.args.self.now.after_handlers.items c.args.agenda.now

pub is_risen-risen-requires-clause-place : goal.is_risen-risen-requires-clause-place
is_risen-risen-requires-clause-place c = (apart_at c.args.self.now c.places-flipped.result.now c.requires.flipped c.places-flipped.ensures.places c.places-flipped.ensures.below).below c.loop-condition.condition-index 0 c.loop-condition-test.true

pub make_risen_truth_due-requires : goal.make_risen_truth_due-requires
make_risen_truth_due-requires c = omega (arith, (apart_at c.args.self.now c.places-flipped.result.now c.requires.flipped c.places-flipped.ensures.places c.places-flipped.ensures.below).below c.loop-condition.condition-index 0 c.loop-condition-test.true, c.loop-condition.invariant.as_many, c.requires.places)

pub loop-condition-preserved : goal.loop-condition-preserved
loop-condition-preserved c =
    let n : ℕ = c.args.states in
    let tick : ℕ = c.args.tick in
    let i = c.loop-condition.condition-index in
    let flipped : List ℕ = c.places-flipped.result.now in
    let at : ℕ = get_or flipped i 0 in
    let at_arrival : List Bool = c.args.self.now.at_arrival.items in
    let after_handlers : List Bool = c.args.self.now.after_handlers.items in
    let old : List (Option ℕ) = c.args.agenda.now in
    let now : List (Option ℕ) = c.loop-condition.agenda in
    let inv = c.loop-condition.invariant in
    let h : i < length flipped = c.loop-condition-test.true in
    let below : at < length after_handlers = (apart_at c.args.self.now flipped c.requires.flipped c.places-flipped.ensures.places c.places-flipped.ensures.below).below i 0 h in
    let within : n + at < length now = omega (arith, below, inv.as_many, c.requires.places) in
    let risen : Bool = c.is_risen-risen.result in
    let is : risen ≡ became_true at_arrival after_handlers at = c.is_risen-risen.ensures in
    subst (AreCalled n tick (take (i + 1) flipped) at_arrival after_handlers old) (sym c.make_risen_truth_due.ensures)
    (elim (cases_Bool risen) [
      | inl rises ↦
          subst (λ (b : Bool). AreCalled n tick (take (i + 1) flipped) at_arrival after_handlers old (if b then set now (n + at) (Some tick) else now)) (sym rises)
          (called_more n tick flipped i at_arrival after_handlers old now h inv within (sym is ∙ rises))
      | inr rests ↦
          subst (λ (b : Bool). AreCalled n tick (take (i + 1) flipped) at_arrival after_handlers old (if b then set now (n + at) (Some tick) else now)) (sym rests)
          (called_same n tick flipped i at_arrival after_handlers old now h inv (sym is ∙ rests))
    ])

pub returns : goal.returns
returns c =
    let all : Conditions = c.args.self.now in
    let flipped : List ℕ = c.places-flipped.result.now in
    let apart = apart_at all flipped c.requires.flipped c.places-flipped.ensures.places c.places-flipped.ensures.below in
    let left : List (Option ℕ) = c.loop-condition.agenda in
    subst (AreRisenDue c.args.states c.args.tick all c.args.agenda.now) (sym (c.set.ensures ∙ ap (λ truths. set left (c.args.states + length truths) None) c.as_slice.ensures.value))
    (called_all c.args.states c.args.tick flipped c.loop-condition.condition-index all c.args.agenda.now left c.loop-condition-test.false
    apart.alike c.loop-condition.invariant (omega (arith, c.loop-condition.invariant.as_many, c.requires.places)))
