-- The states are written in place.
use Rattle.qss_run.proofs.Common
use Common.{ℤ, ◌∙◌, ◌≡◌, ap, arith, length, length-map-range_with_len, line_at, List, state_at}
use Common.{states_at, sym, Values, vec_capacity, with_items, with_items_is}
use Rattle.qss_run.proofs.event_steps.move_work_states.Goals as goal

pub move_states_along_lines-requires : goal.move_states_along_lines-requires
move_states_along_lines-requires c = record {
  as_many = ap length (c.as_mut_slice.ensures.value ∙ ap (λ (v : Values). v.x) c.work.view_is) ∙ c.requires.same_length;
  later = c.requires.not_later;
  in_time = omega (arith, c.requires.tick_limit);
}

pub returns : goal.returns
returns c =
    let many : length c.move_states_along_lines.new.x ≡ c.work.inside.x.len =
    ap length c.move_states_along_lines.ensures ∙ length-map-range_with_len (λ j. state_at (line_at c.args.lines.now j) c.args.tick) 0 (length c.args.lines.now)
    ∙ sym c.requires.same_length ∙ ap (λ (v : Values). length v.x) (sym c.work.view_is) ∙ sym c.work.inside.x.ok.0 in
    let x : (with_items c.work.inside.x c.move_states_along_lines.new.x).items ≡ states_at c.args.lines.now c.args.tick = with_items_is c.work.inside.x c.move_states_along_lines.new.x many ∙ c.move_states_along_lines.ensures in
    ap (λ (y : List ℤ). record { x = y; d = c.work.inside.d.items; pre = c.work.inside.pre.items; tick = c.work.inside.tick; log = c.work.inside.log.items; room = vec_capacity c.work.inside.log }) x
    ∙ ap (λ (v : Values). record { x = states_at c.args.lines.now c.args.tick; d = v.d; pre = v.pre; tick = v.tick; log = v.log; room = v.room }) c.work.view_is
