-- One more crossing is read.
use Rattle.qss_devs.proofs.Common
use Common.{◌<◌, ◌∙◌, ◌≡◌, ap, arith, compares, CrossingModel, false, flag_at, get_or, get_or-map}
use Common.{get_or-set_other, holds_at, IsCrossingNext, IsTimely, length, length-map, length-set}
use Common.{List, map, one_more, refl, same_lists, subst, sym}
use Rattle.qss_devs.proofs.Readings.{none_read, read_more}
use Rattle.qss_devs.proofs.coupled_arrivals.read_all_on_arrival.Goals as goal

pub loop-place-init : goal.loop-place-init
loop-place-init c = record {
  crossings = none_read c.args.tick c.args.crossings.now;
  as_many = refl;
  flags_are = λ k below. absurd (omega (arith, below));
  rest = λ k past. refl;
}

pub read_crossing_on_arrival-requires : goal.read_crossing_on_arrival-requires
read_crossing_on_arrival-requires c =
    let place = c.loop-place.place in
    let d = c.index-crossings-place.result in
    let h : place < length c.args.crossings.now = omega (arith, c.loop-place-test.true) in
    record {
      timely = subst (λ (k : CrossingModel). IsTimely k.detector.tick (IsCrossingNext k.detector) c.args.tick) (sym (c.loop-place.invariant.crossings.rest place d (omega arith))) (c.requires.timely place d h);
      held =
          c.loop-place.invariant.rest place (omega arith)
          ∙ ap (λ flags. flag_at flags place) c.requires.held
          ∙ get_or-map (λ (k : CrossingModel). compares k.detector.rel k.detector.value) c.args.crossings.now place d false h
          ∙ ap (λ (k : CrossingModel). compares k.detector.rel k.detector.value) (sym (c.loop-place.invariant.crossings.rest place d (omega arith)));
    }

pub loop-place-preserved : goal.loop-place-preserved
loop-place-preserved c =
    let tick = c.args.tick in
    let place = c.loop-place.place in
    let old : List CrossingModel = c.args.crossings.now in
    let xs : List CrossingModel = c.loop-place.crossings in
    let d = c.index-crossings-place.result in
    let x = c.read_crossing_on_arrival.new.crossing in
    let inv = c.loop-place.invariant in
    let h : place < length old = omega (arith, c.loop-place-test.true) in
    let same : get_or xs place d ≡ get_or old place d = inv.crossings.rest place d (omega arith) in
    let within : place < length c.loop-place.now = omega (arith, h, inv.as_many, c.requires.same_length) in
    let flags_are : c.read_crossing_on_arrival.result ≡ flag_at (map (λ (k : CrossingModel). holds_at k.detector tick) old) place =
    c.read_crossing_on_arrival.ensures.now ∙ ap (λ (k : CrossingModel). holds_at k.detector tick) same ∙ sym (get_or-map (λ (k : CrossingModel). holds_at k.detector tick) old place d false h) in
    record {
      crossings = read_more tick place old xs x d h inv.crossings (rw same at c.read_crossing_on_arrival.ensures.read);
      as_many = length-set c.loop-place.now place c.read_crossing_on_arrival.result ∙ inv.as_many;
      flags_are = one_more false (flag_at (map (λ (k : CrossingModel). holds_at k.detector tick) old)) c.loop-place.now place c.read_crossing_on_arrival.result within inv.flags_are flags_are;
      rest = λ k past. get_or-set_other c.loop-place.now place k c.read_crossing_on_arrival.result false (λ e. absurd (omega (arith, e, past))) ∙ inv.rest k (omega (arith, past));
    }

pub returns : goal.returns
returns c =
    let tick = c.args.tick in
    let old : List CrossingModel = c.args.crossings.now in
    let inv = c.loop-place.invariant in
    let all : length (map (λ (k : CrossingModel). holds_at k.detector tick) old) ≡ length old = length-map old (λ (k : CrossingModel). holds_at k.detector tick) in
    record {
      now = same_lists false c.loop-place.now (map (λ (k : CrossingModel). holds_at k.detector tick) old) (inv.as_many ∙ c.requires.same_length ∙ sym all)
          (λ k h. inv.flags_are k (omega (arith, h, all, c.loop-place-test.false)));
      read = λ k d h. inv.crossings.read k d (omega (arith, h, c.loop-place-test.false)) h;
    }
