-- The flags at these places are written, and the others were the same.
use Rattle.qss_run.proofs.Common
use Common.{ℕ, ◌<◌, ◌∙◌, ◌≡◌, ap, arith, Bool, both_ways, Conditions, false, flag_at, get_or}
use Common.{length, List, refl, sym, with_items_is, written_all}
use Rattle.mu_num.proofs.Writes.{written_more}
use Rattle.qss_run.proofs.Apart.{all_alike, apart_at}
use Rattle.qss_run.proofs.run_conditions.Conditions.copy_all_settled.Goals as goal

pub loop-condition-init : goal.loop-condition-init
loop-condition-init c = record { as_many = refl; each = λ place e. absurd (both_ways false refl e); others = λ place e. refl }

pub bounds-after_handlers-place : goal.bounds-after_handlers-place
bounds-after_handlers-place c =
    let apart = apart_at c.args.self.now c.places-flipped.result.now c.requires c.places-flipped.ensures.places c.places-flipped.ensures.below in
    omega (arith, apart.below c.loop-condition.condition-index 0 c.loop-condition-test.true, ap length c.as_slice-after_handlers.ensures.value)

pub bounds-at_arrival-place : goal.bounds-at_arrival-place
bounds-at_arrival-place c =
    let apart = apart_at c.args.self.now c.places-flipped.result.now c.requires c.places-flipped.ensures.places c.places-flipped.ensures.below in
    omega (arith, apart.below c.loop-condition.condition-index 0 c.loop-condition-test.true, c.loop-condition.invariant.as_many, ap length c.as_mut_slice-at_arrival.ensures.value, apart.as_many)

pub loop-condition-preserved : goal.loop-condition-preserved
loop-condition-preserved c =
    let i : ℕ = c.loop-condition.condition-index in
    let flipped : List ℕ = c.places-flipped.result.now in
    let settled : List Bool = c.as_slice-after_handlers.result.now in
    let apart = apart_at c.args.self.now flipped c.requires c.places-flipped.ensures.places c.places-flipped.ensures.below in
    let h : i < length flipped = c.loop-condition-test.true in
    let within : get_or flipped i 0 < length c.loop-condition.at_arrival = omega (arith, apart.below i 0 h, c.loop-condition.invariant.as_many, ap length c.as_mut_slice-at_arrival.ensures.value, apart.as_many) in
    written_more false (λ place flag. flag ≡ flag_at settled place) flipped c.as_mut_slice-at_arrival.result.now c.loop-condition.at_arrival i (flag_at settled (get_or flipped i 0)) h within c.loop-condition.invariant refl

pub returns-clause-at_arrival : goal.returns-clause-at_arrival
returns-clause-at_arrival c =
    let all : Conditions = c.args.self.now in
    let flipped : List ℕ = c.places-flipped.result.now in
    let settled : List Bool = c.as_slice-after_handlers.result.now in
    let old : List Bool = c.as_mut_slice-at_arrival.result.now in
    let now : List Bool = c.loop-condition.at_arrival in
    let apart = apart_at all flipped c.requires c.places-flipped.ensures.places c.places-flipped.ensures.below in
    with_items_is all.at_arrival now (c.loop-condition.auto.at_arrival ∙ c.as_mut_slice-at_arrival.ensures.len)
    ∙ all_alike flipped settled old now (ap length c.as_mut_slice-at_arrival.ensures.value ∙ apart.as_many ∙ sym (ap length c.as_slice-after_handlers.ensures.value))
    (λ place none. ap (λ flags. flag_at flags place) c.as_mut_slice-at_arrival.ensures.value ∙ apart.alike place none ∙ sym (ap (λ flags. flag_at flags place) c.as_slice-after_handlers.ensures.value))
    (written_all false (λ place flag. flag ≡ flag_at settled place) flipped old now c.loop-condition.condition-index c.loop-condition-test.false c.loop-condition.invariant)
    ∙ c.as_slice-after_handlers.ensures.value
