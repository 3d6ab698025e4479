-- A tick is a step of the run: the limits are checked in their order.
use Rattle.qss_own_traces.proofs.Common
use Common.{ℕ, ℤ, ◌∙◌, ◌≡◌, ap, ap₂, arith, exceeds_row_limits, first_exceeding, floor_level}
use Common.{length, length-map-range_with_len, List, next_levels, None, Option, option_or}
use Common.{overflow_of, plain_world, position, rules, Some, start_discretes, state_count, sym}
use Rattle.qss_own_traces.specs.FirstPlaces.{snapshot_of}
use Rattle.qss_own_traces.proofs.FirstSteps.{all_within, found_some, heavy, moved, releveled}
use Rattle.qss_own_traces.proofs.FirstSteps.{same_items, step_as}
use Rattle.qss_own_traces.proofs.first_order_trace.FirstPlace.advance_tick.Goals as goal

pub check_sizes-requires-clause-count_limit : goal.check_sizes-requires-clause-count_limit
check_sizes-requires-clause-count_limit c =
    let count = ap length (c.deref.ensures.value ∙ c.move_states.ensures.moved)
    ∙ length-map-range_with_len _ 0 (state_count c.args.m.now) in
    omega (arith, count, c.args.m.now.has_variables.few)

pub check_sizes-requires-2-clause-count_limit : goal.check_sizes-requires-2-clause-count_limit
check_sizes-requires-2-clause-count_limit c =
    let count = ap length (c.deref-2.ensures.value ∙ c.update_levels.ensures.levels)
    ∙ length-map-range_with_len _ 0 (state_count c.args.m.now) in
    omega (arith, count, c.args.m.now.has_variables.few)

pub returns-in_err-check_sizes : goal.returns-in_err-check_sizes
returns-in_err-check_sizes c =
    let m = c.args.m.now in
    let p = c.args.self.now in
    let xs = p.states.items in
    let ms = p.levels.items in
    let var = c.in_err-check_sizes.field-0.0.var in
    let over : overflow_of c.from_residual.result ≡ Some var = search rules in
    let far : first_exceeding 88 (moved m xs ms) ≡ Some var =
    ap (first_exceeding 88) (sym (c.deref.ensures.value ∙ c.move_states.ensures.moved))
    ∙ sym c.check_sizes.ensures ∙ ap overflow_of c.in_err-check_sizes.was in
    record {
      step = λ tick. step_as m xs ms tick _ _ c.requires.plain
          (over ∙ sym (ap (λ (a : Option ℕ). option_or a
          (option_or (first_exceeding 43 (releveled m xs ms)) (heavy m xs ms))) far))
          (found_some _ var over);
      stands = found_some _ var over;
    }

pub update_levels-requires : goal.update_levels-requires
update_levels-requires c =
    let kept = c.move_states.ensures.kept in
    let none = ap (first_exceeding 88) (sym c.deref.ensures.value) ∙ sym c.check_sizes.ensures
    ∙ ap overflow_of c.in_ok-check_sizes.was in
    record {
      states = all_within c.args.m.now 88 c.move_states.new.self.states.items _
          c.move_states.ensures.moved none;
      levels = rw kept.0 c.requires.stands.levels;
      short = rw (kept.0, kept.1) c.requires.stands.short;
    }

pub returns-in_err-check_sizes-2 : goal.returns-in_err-check_sizes-2
returns-in_err-check_sizes-2 c =
    let m = c.args.m.now in
    let p = c.args.self.now in
    let xs = p.states.items in
    let ms = p.levels.items in
    let var = c.in_err-check_sizes-2.field-0.0.var in
    let over : overflow_of c.from_residual-in_err-check_sizes-2.result ≡ Some var = search rules in
    let far : first_exceeding 88 (moved m xs ms) ≡ None =
    ap (first_exceeding 88) (sym (c.deref.ensures.value ∙ c.move_states.ensures.moved))
    ∙ sym c.check_sizes.ensures ∙ ap overflow_of c.in_ok-check_sizes.was in
    let levels : c.deref-2.result.now ≡ releveled m xs ms =
    c.deref-2.ensures.value ∙ c.update_levels.ensures.levels
    ∙ ap₂ (next_levels floor_level m) c.move_states.ensures.moved
    (same_items c.move_states.ensures.kept.0) in
    let high : first_exceeding 43 (releveled m xs ms) ≡ Some var =
    ap (first_exceeding 43) (sym levels) ∙ sym c.check_sizes-2.ensures
    ∙ ap overflow_of c.in_err-check_sizes-2.was in
    record {
      step = λ tick. step_as m xs ms tick _ _ c.requires.plain
          (over ∙ sym (ap₂ (λ (a b : Option ℕ). option_or a (option_or b (heavy m xs ms))) far
          high)) (found_some _ var over);
      stands = found_some _ var over;
    }

pub shorten_levels-requires-clause-same_length : goal.shorten_levels-requires-clause-same_length
shorten_levels-requires-clause-same_length c =
    let stands = c.requires.stands in
    let short = same_items c.update_levels.ensures.kept.1 ∙ same_items c.move_states.ensures.kept.1
    ∙ stands.short in
    ap length short ∙ stands.levels.one_each
    ∙ sym (ap length c.update_levels.ensures.levels
    ∙ length-map-range_with_len _ 0 (state_count c.args.m.now))

pub shorten_levels-requires-clause-size_limit : goal.shorten_levels-requires-clause-size_limit
shorten_levels-requires-clause-size_limit c =
    let high = ap (first_exceeding 43) (sym c.deref-2.ensures.value) ∙ sym c.check_sizes-2.ensures
    ∙ ap overflow_of c.in_ok-check_sizes-2.was in
    (all_within c.args.m.now 43 c.update_levels.new.self.levels.items _
    c.update_levels.ensures.levels high).small

pub check_row_sums-requires-clause-levels : goal.check_row_sums-requires-clause-levels
check_row_sums-requires-clause-levels c =
    ap length (c.deref-3.ensures.value ∙ c.shorten_levels.ensures.shortened
    ∙ c.update_levels.ensures.levels) ∙ length-map-range_with_len _ 0 (state_count c.args.m.now)

pub check_row_sums-requires-clause-size_limit : goal.check_row_sums-requires-clause-size_limit
check_row_sums-requires-clause-size_limit c =
    let high = ap (first_exceeding 43) (sym c.deref-2.ensures.value) ∙ sym c.check_sizes-2.ensures
    ∙ ap overflow_of c.in_ok-check_sizes-2.was in
    rw (c.deref-3.ensures.value, c.shorten_levels.ensures.shortened)
    (all_within c.args.m.now 43 c.update_levels.new.self.levels.items _
    c.update_levels.ensures.levels high).small

pub returns : goal.returns
returns c =
    let m = c.args.m.now in
    let p = c.args.self.now in
    let xs = p.states.items in
    let ms = p.levels.items in
    let new = c.shorten_levels.new.self in
    let kept = c.shorten_levels.ensures.kept in
    let moves = c.move_states.ensures.moved in
    let before = c.update_levels.ensures.levels in
    let states : new.states.items ≡ moved m xs ms = same_items kept.0
    ∙ same_items c.update_levels.ensures.kept.0 ∙ moves in
    let takes : c.update_levels.new.self.levels.items ≡ releveled m xs ms = before
    ∙ ap₂ (next_levels floor_level m) moves (same_items c.move_states.ensures.kept.0) in
    let levels : new.levels.items ≡ releveled m xs ms = same_items kept.1 ∙ takes in
    let far : first_exceeding 88 (moved m xs ms) ≡ None =
    ap (first_exceeding 88) (sym (c.deref.ensures.value ∙ moves)) ∙ sym c.check_sizes.ensures
    ∙ ap overflow_of c.in_ok-check_sizes.was in
    let high : first_exceeding 43 (releveled m xs ms) ≡ None =
    ap (first_exceeding 43) (sym (c.deref-2.ensures.value ∙ takes)) ∙ sym c.check_sizes-2.ensures
    ∙ ap overflow_of c.in_ok-check_sizes-2.was in
    let over : overflow_of c.check_row_sums.result ≡ heavy m xs ms =
    c.check_row_sums.ensures ∙ ap (λ (ls : List ℤ). position
    (exceeds_row_limits m ls (start_discretes m)) m.rows)
    (c.deref-3.ensures.value ∙ c.shorten_levels.ensures.shortened ∙ takes) in
    record {
      step = λ tick. step_as m xs ms tick _ (snapshot_of m new) c.requires.plain
          (over ∙ sym (ap₂ (λ (a b : Option ℕ). option_or a (option_or b (heavy m xs ms))) far
          high)) (λ e. ap₂ (plain_world m) states levels);
      stands = λ e. record {
        states = all_within m 88 new.states.items _ states (ap (first_exceeding 88) states ∙ far);
        levels = all_within m 43 new.levels.items _ levels (ap (first_exceeding 43) levels ∙ high);
        short = c.shorten_levels.ensures.shortened ∙ sym (same_items kept.1);
      };
    }
