-- The states are written in place, and the first that exceeds its limit is found.
use Rattle.qss_devs.proofs.Common
use Common.{ℤ, ◌∙◌, ◌≡◌, ap, arith, first_exceeding, IntegratorModel, length, length-map, List, map}
use Common.{state_at, vec_capacity, with_items, with_items_is}
use Rattle.qss_hand.specs.Values.{Values}
use Rattle.qss_devs.proofs.coupled_arrivals.compute_arrival_states.Goals as goal

pub fill_arrival_states-requires-clause-same_length : goal.fill_arrival_states-requires-clause-same_length
fill_arrival_states-requires-clause-same_length g c =
    ap length c.deref_mut.ensures.value
    ∙ ap (λ (v : Values). length v.x) c.work.view_is
    ∙ c.requires.same_length

pub check_arrival_states-requires : goal.check_arrival_states-requires
check_arrival_states-requires g c =
    let many = c.fill_arrival_states.auto.x ∙ c.deref_mut.ensures.len in
    omega (
      arith,
      ap length c.deref.ensures.value,
      ap length (with_items_is c.work.inside.x c.fill_arrival_states.new.x many),
      ap length c.fill_arrival_states.ensures,
      length-map c.args.integrators.now (λ (i : IntegratorModel _ _). state_at i.line c.args.tick),
      c.requires.count_limit,
    )

pub returns : goal.returns
returns g c =
    let states : List ℤ =
    map (λ (i : IntegratorModel _ _). state_at i.line c.args.tick) c.args.integrators.now in
    let many = c.fill_arrival_states.auto.x ∙ c.deref_mut.ensures.len in
    let x : (with_items c.work.inside.x c.fill_arrival_states.new.x).items ≡ states =
    with_items_is c.work.inside.x c.fill_arrival_states.new.x many ∙ c.fill_arrival_states.ensures in
    record {
      work =
          ap (λ (y : List ℤ). record {
            x = y;
            d = c.work.inside.d.items;
            pre = c.work.inside.pre.items;
            tick = c.work.inside.tick;
            log = c.work.inside.log.items;
            room = vec_capacity c.work.inside.log;
          }) x
          ∙ ap (λ (v : Values). record v { x = states }) c.work.view_is;
      overflow = c.check_arrival_states.ensures ∙ ap (first_exceeding 88) (c.deref.ensures.value ∙ x);
    }
