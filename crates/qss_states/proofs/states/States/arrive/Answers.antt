-- The first due state above its limit is the first of all.
use Rattle.qss_states.proofs.Common.{◌∙◌, ◌≡◌, arith, first_exceeding, overflow_of, states_at, sym}
use Rattle.qss_states.proofs.DueLevels.{past_on_arrival, arrived_within}
use Rattle.qss_states.proofs.states.States.arrive.Goals as goal

pub move_along_lines-requires : goal.move_along_lines-requires
move_along_lines-requires c =
    let can = c.requires in
    record {
      may_arrive = rw c.as_slice.ensures.value (record {
        as_many = can.as_many;
        later = can.later;
        in_time = omega (arith, can.in_time);
      });
      due = rw c.as_slice.ensures.value can.numbers;
    }

pub returns : goal.returns
returns c =
    let can = c.requires in
    let tick = c.args.tick in
    let lines = c.args.self.now.lines.items in
    let due = c.args.due.now in
    let found = overflow_of c.move_along_lines.result in
    let first = rw c.as_slice.ensures.value at c.move_along_lines.ensures.first in
    let arrived = rw c.as_slice.ensures.value at c.move_along_lines.ensures.arrived in
    let over : found ≡ first_exceeding 88 (states_at lines tick) =
    past_on_arrival tick lines due can.numbers found can.others_small first in
    record {
      over_is = over;
      at_arrival = arrived;
      small = λ none. arrived_within tick lines due can.numbers c.args.x.now c.move_along_lines.new.x arrived can.small (sym over ∙ none);
    }
