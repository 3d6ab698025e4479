-- One more truth, and all of them.
use Rattle.qss_devs.proofs.Common
use Common.{◌<◌, ◌∙◌, ◌≡◌, arith, Bool, compares, CrossingModel, false, flag_at, get_or-map, length}
use Common.{length-map, length-set, List, map, one_more, same_lists, sym}
use Rattle.qss_devs.proofs.coupled_arrivals.settle_all_arrival_truths.Goals as goal

pub loop-place-preserved : goal.loop-place-preserved
loop-place-preserved c =
    let place = c.loop-place.place in
    let inv = c.loop-place.invariant in
    let holds : CrossingModel → Bool = λ k. compares k.detector.rel k.detector.value in
    let within : place < length c.loop-place.flags = omega (arith, inv.as_many, c.loop-place-test.true) in
    let own = get_or-map holds c.args.crossings.now place c.index-crossings-place.result false c.loop-place-test.true in
    record {
      as_many = length-set c.loop-place.flags place c.truth.result ∙ inv.as_many;
      each = one_more false (flag_at (map holds c.args.crossings.now)) c.loop-place.flags place c.truth.result within inv.each (c.truth.ensures ∙ sym own);
    }

pub returns : goal.returns
returns c =
    let truths : List Bool = map (λ (k : CrossingModel). compares k.detector.rel k.detector.value) c.args.crossings.now in
    let all : length truths ≡ length c.args.crossings.now = length-map c.args.crossings.now (λ (k : CrossingModel). compares k.detector.rel k.detector.value) in
    same_lists false c.loop-place.flags truths (c.loop-place.invariant.as_many ∙ sym all) (λ k h. c.loop-place.invariant.each k (omega (arith, h, all, c.loop-place-test.false)))
