-- The crossings of all conditions are read.
use Rattle.qss_devs.proofs.Common
use Common.{◌<◌, ◌∙◌, All, ap, arith, compares, Crossing, crossing_of, CrossingModel, false}
use Common.{flag_at, holds_at, IsCrossingNext, IsTimely, length, List, map, no_crossing, refl}
use Common.{subst, sym, with_items, with_items_is}
use Rattle.qss_devs.proofs.Lists.{at_twice}
use Rattle.qss_devs.proofs.Readings.{crossings_timely, crossings_hold, read_components, read_agree}
use Rattle.qss_devs.proofs.Readings.{read_later}
use Rattle.qss_devs.proofs.coupled_arrivals.read_crossings_on_arrival.Goals as goal

pub read_all_on_arrival-requires : goal.read_all_on_arrival-requires
read_all_on_arrival-requires g c = record {
  same_length = c.requires.flags ∙ sym (ap length c.deref_mut.ensures.value ∙ c.requires.parts.crossings);
  timely =
      subst (All (λ (k : CrossingModel). IsTimely k.detector.tick (IsCrossingNext k.detector) c.args.tick)) (sym c.deref_mut.ensures.value)
      (crossings_timely c.args.m.now c.args.tick c.args.parts.now c.requires.parts c.requires.timely);
  held =
      crossings_hold c.args.m.now c.args.parts.now c.requires.parts c.args.now.now c.requires.flags c.requires.held
      ∙ ap (map (λ (k : CrossingModel). compares k.detector.rel k.detector.value)) (sym c.deref_mut.ensures.value);
}

pub returns : goal.returns
returns g c =
    let m = c.args.m.now in
    let tick = c.args.tick in
    let old = c.args.parts.now in
    let ys = c.read_all_on_arrival.new.crossings in
    let xs : List CrossingModel = c.deref_mut.result.now in
    let was = c.deref_mut.ensures.value in
    let new = record old { crossings = with_items old.crossings ys } in
    let items = with_items_is old.crossings ys (c.read_all_on_arrival.auto.crossings ∙ c.deref_mut.ensures.len) in
    let as_many = ap length items ∙ c.read_all_on_arrival.auto.crossings ∙ ap length was in
    let read = rw (was, ← items) at c.read_all_on_arrival.ensures.read in
    record {
      unchanged = refl;
      parts = read_components m tick old new c.requires.parts refl refl refl as_many read;
      now = λ place h.
          let inside : place < length old.crossings.items = omega (arith, h, c.requires.parts.crossings) in
          ap (λ flags. flag_at flags place) (c.read_all_on_arrival.ensures.now ∙ ap (map (λ (k : CrossingModel). holds_at k.detector tick)) was)
          ∙ at_twice crossing_of (λ (k : Crossing). holds_at k.detector tick) old.crossings.items place no_crossing false inside;
      agree = λ v a. read_agree m tick old new c.requires.parts refl refl refl as_many read v a;
      later = read_later m tick old new c.requires.parts refl refl refl as_many read;
    }
