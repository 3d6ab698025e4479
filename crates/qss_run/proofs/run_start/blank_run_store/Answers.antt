-- All lists have the machine's lengths.
use Rattle.qss_run.proofs.Common
use Common.{◌∙◌, ◌≡◌, All, ap, arith, conditions, conditions_few, count_start, discrete_count}
use Common.{DiscreteInfo, discretes_start, IsWithin, length, length-map, refl, state_count}
use Common.{StateInfo, states_start, subst, sym, Values}
use Rattle.qss_run.proofs.run_start.blank_run_store.Goals as goal

pub overflow_cast-states : goal.overflow_cast-states
overflow_cast-states c =
    let m = c.args.m.now in
    omega (
      arith,
      c.len-states.ensures,
      c.in_ok-levels.levels.ok.0,
      ap length c.in_ok-levels.ensures,
      count_start m,
      c.len-conditions.ensures,
      c.in_ok-condition_set.condition_set.branches.ok.0,
      c.in_ok-condition_set.ensures.branches.as_many,
      conditions_few m,
      m.has_variables.few,
    )

pub returns : goal.returns
returns c =
    let m = c.args.m.now in
    let states : c.len-states.result ≡ state_count m = omega (arith, c.len-states.ensures, c.in_ok-levels.levels.ok.0, ap length c.in_ok-levels.ensures, count_start m) in
    let places : c.len-conditions.result ≡ length (conditions m) = omega (arith, c.len-conditions.ensures, c.in_ok-condition_set.condition_set.branches.ok.0, c.in_ok-condition_set.ensures.branches.as_many) in
    let work = c.in_ok-work.ensures in
    let of_x = ap (λ (v : Values). v.x) work in
    let of_d = ap (λ (v : Values). v.d) work in
    let of_pre = ap (λ (v : Values). v.pre) work in
    let room = ap (λ (v : Values). v.room) work in
    let discretes : length c.in_ok-work.work.d ≡ discrete_count m = ap length of_d ∙ length-map m.discretes (λ (d : DiscreteInfo). d.d0) in
    record {
      fits = record {
        own_conditions = c.in_ok-condition_set.ensures;
        uses = c.in_ok-uses.ensures.0;
        lines = c.in_ok-lines.ensures.0 ∙ states;
        levels = ap length c.in_ok-levels.ensures ∙ count_start m;
        slopes = c.in_ok-lines.ensures.1 ∙ states;
        weights = c.in_ok-lines.ensures.2 ∙ states;
        places = omega (arith, c.in_ok-uses.ensures.1, states, places);
        values = record {
          states = ap length of_x ∙ length-map m.states (λ (s : StateInfo). s.x0);
          discretes = discretes;
          small_states = subst (All (IsWithin 88)) (sym of_x) (states_start m);
          small_discretes = subst (All (IsWithin 43)) (sym of_d) (discretes_start m);
        };
        before = ap length of_pre ∙ length-map m.discretes (λ (d : DiscreteInfo). d.d0);
        lists = record {
          moved = omega (arith, c.in_ok-moment.ensures.0, states);
          changed = omega (arith, c.in_ok-moment.ensures.1, places);
          fired = omega (arith, c.in_ok-moment.ensures.2, places);
          assigned = omega (arith, c.in_ok-moment.ensures.3, c.capacity.ensures, ap (λ (v : Values). v.room) c.work.view_is, room);
        };
        log = omega (arith, room);
        rows = omega (
          arith,
          c.in_ok-uses.ensures.3,
          c.capacity-2.ensures,
          c.len.ensures,
          c.work.inside.d.ok.0,
          ap (λ (v : Values). v.room) c.work.view_is,
          ap (λ (v : Values). length v.d) c.work.view_is,
          room,
          discretes,
          states,
        );
      };
      states = of_x;
      discretes = of_d;
      levels = c.in_ok-levels.ensures;
      no_dues = c.in_ok-uses.ensures.2;
      not_rising = refl;
    }
