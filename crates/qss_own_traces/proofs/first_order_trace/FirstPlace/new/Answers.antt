-- The states and levels of the start.
use Rattle.qss_own_traces.proofs.Common
use Common.{ℤ, ◌∙◌, ◌≡◌, ap, floor_of, length, level_unit, map, start_snapshot, start_states}
use Common.{states_start, sym}
use Rattle.qss_own_traces.proofs.FirstSteps.{ones, start_plain, start_count, level_count}
use Rattle.qss_own_traces.proofs.FirstSteps.{same_items, start_small_levels}
use Rattle.qss_own_traces.proofs.first_order_trace.FirstPlace.new.Goals as goal

pub shorten_levels-requires-clause-size_limit : goal.shorten_levels-requires-clause-size_limit
shorten_levels-requires-clause-size_limit c =
    let m = c.args.m.now in
    let levels : c.in_ok-levels.levels.items ≡ (start_snapshot m).levels = c.in_ok-levels.ensures
    ∙ ap (map (λ (x : ℤ). floor_of x (level_unit m)))
    (c.deref.ensures.value ∙ c.in_ok-states.ensures ∙ ones (start_states m)) in
    rw levels (start_small_levels m)

pub returns : goal.returns
returns c =
    let m = c.args.m.now in
    let new = c.shorten_levels.new.self in
    let kept = c.shorten_levels.ensures.kept in
    let own : c.in_ok-states.states.items ≡ start_states m =
    c.in_ok-states.ensures ∙ ones (start_states m) in
    let states : new.states.items ≡ start_states m = same_items kept.0 ∙ own in
    let levels : new.levels.items ≡ (start_snapshot m).levels =
    same_items kept.1 ∙ c.in_ok-levels.ensures
    ∙ ap (map (λ (x : ℤ). floor_of x (level_unit m))) (c.deref.ensures.value ∙ own) in
    record {
      start = start_plain m new.states.items new.levels.items c.requires states levels;
      stands = record {
        states = record {
          one_each = ap length states ∙ start_count m;
          small = rw states (states_start m);
        };
        levels = record {
          one_each = ap length levels ∙ level_count m;
          small = rw levels (start_small_levels m);
        };
        short = c.shorten_levels.ensures.shortened ∙ sym (same_items kept.1);
      };
    }
