-- At first all are as after the last handlers.
use Rattle.qss_run.proofs.Common
use Common.{◌∙◌, ◌≡◌, ap, Bool, both_ways, Conditions, detector_at, false, flag_at, holds_at}
use Common.{IsWritten, length, List, refl, subst, sym, with_items, with_items_is, written_all}
use Rattle.qss_run.proofs.run_conditions.Conditions.read_changed.Goals as goal

pub loop-condition-init : goal.loop-condition-init
loop-condition-init c =
    let settled : c.as_mut_slice-at_arrival.result.now ≡ c.args.self.now.after_handlers.items = c.as_mut_slice-at_arrival.ensures.value ∙ c.copy_all_settled.ensures.at_arrival in
    record {
      as_many = ap length settled;
      each = λ place e. absurd (both_ways false refl e);
      others = λ place e. ap (λ flags. flag_at flags place) settled;
    }

pub returns-clause-at_arrival : goal.returns-clause-at_arrival
returns-clause-at_arrival c =
    let all : Conditions = c.args.self.now in
    let settled : List Bool = all.after_handlers.items in
    let left : Conditions = c.copy_all_settled.new.self in
    let now : List Bool = c.loop-condition.at_arrival in
    let held : c.as_slice-detectors.result.now ≡ all.detectors.items = c.as_slice-detectors.ensures.value ∙ ap (λ (v : Conditions). v.detectors.items) c.copy_all_settled.ensures.rest in
    let is : (with_items left.at_arrival now).items ≡ now = with_items_is left.at_arrival now (c.loop-condition.auto.at_arrival ∙ c.as_mut_slice-at_arrival.ensures.len) in
    subst (IsWritten false (λ place flag. flag ≡ holds_at (detector_at all.detectors.items place) c.args.tick) c.args.changed.now settled) (sym is)
    (subst (λ ds. IsWritten false (λ place flag. flag ≡ holds_at (detector_at ds place) c.args.tick) c.args.changed.now settled now) held
    (written_all false (λ place flag. flag ≡ holds_at (detector_at c.as_slice-detectors.result.now place) c.args.tick) c.args.changed.now settled now c.loop-condition.condition-index c.loop-condition-test.false c.loop-condition.invariant))
