-- The slices of an event step have the lists of the states.
use Rattle.qss_states.proofs.Common
use Common.{ℕ, ℤ, ◌∙◌, ◌≡◌, CanRestart, HandlerArrival, HandlerResult, IsResultOf, Line, List}
use Common.{NewLevels, Option, refl, with_items_is}
use Rattle.qss_states.specs.EventContexts.{CanContinue}
use Rattle.qss_states.specs.declared.states.States.{States}
use Rattle.qss_states.proofs.Shifting.{handled_fits}
use Rattle.qss_states.proofs.states.States.continue_lines.Goals as goal

-- the tick and the machine of new levels
abbrev at_event : NewLevels → HandlerArrival → HandlerArrival
at_event event at =
    record at {
      machine = event.machine;
      uses = event.uses;
      tick = event.tick;
      moved = event.moved;
    }

-- at the levels of the states, their slices may restart as the states may
can_restart : (event : NewLevels) (at : HandlerArrival) (left : HandlerResult) (s : States)
    (slopes : List ℤ) (lines : List Line) (dues : List (Option ℕ)) →
    event.levels.now ≡ s.levels.items → slopes ≡ s.slopes.items → lines ≡ s.lines.items →
    IsResultOf (at_event event at) left → CanContinue (at_event event at) s dues →
    CanRestart event left slopes lines dues
can_restart event at left s slopes lines dues of_levels of_slopes of_lines is can =
    record {
      new = record {
        uses = can.ready.uses;
        moved = can.ready.moved;
        levels = rw of_levels can.count;
        small_levels = rw of_levels can.small_levels;
      };
      handled = handled_fits (at_event event at) left is can.ready;
      small_states = rw (of_lines, is.states) can.small_states;
      levels = rw (of_lines, is.states, of_levels, is.discretes) can.levels;
      one_each = rw (of_slopes, of_lines) can.one_each;
      held = rw (of_levels, is.before, of_slopes, of_lines) can.held;
    }

pub update_slopes_from_handlers-requires : goal.update_slopes_from_handlers-requires
update_slopes_from_handlers-requires g c =
    let can = can_restart _ c.args.at.now c.handler_result-handled.result c.args.self.now
    c.as_mut_slice.result.now c.as_slice-lines.result.now c.args.agenda.now c.as_slice.ensures.value
    c.as_mut_slice.ensures.value c.as_slice-lines.ensures.value c.handler_result-handled.ensures
    c.requires in
    record {
      allowed = record { new = can.new; handled = can.handled; many_lines = can.one_each.lines };
      light = can.levels.light;
      before = can.held.before;
    }

pub continue_states-requires : goal.continue_states-requires
continue_states-requires g c = record {
  before = (
    c.args.self.now.slopes.items,
    can_restart _ c.args.at.now c.handler_result-handled.result c.args.self.now
        c.args.self.now.slopes.items c.as_mut_slice-2.result.now c.args.agenda.now
        c.as_slice.ensures.value refl c.as_mut_slice-2.ensures.value
        c.handler_result-handled.ensures c.requires,
  );
  slopes = c.as_slice-2.ensures.value
      ∙ with_items_is c.args.self.now.slopes c.update_slopes_from_handlers.new.slopes
      (c.update_slopes_from_handlers.auto.slopes ∙ c.as_mut_slice.ensures.len)
      ∙ c.update_slopes_from_handlers.ensures;
}

pub returns : goal.returns
returns g c =
    let s = c.args.self.now in
    let of_x = c.handler_result-handled.ensures.states in
    let of_d = c.handler_result-handled.ensures.discretes in
    let of_levels = c.as_slice.ensures.value in
    let of_lines = c.as_mut_slice-2.ensures.value in
    let lines = with_items_is s.lines c.continue_states.new.lines
    (c.continue_states.auto.lines ∙ c.as_mut_slice-2.ensures.len) in
    let slopes = with_items_is s.slopes c.update_slopes_from_handlers.new.slopes
    (c.update_slopes_from_handlers.auto.slopes ∙ c.as_mut_slice.ensures.len)
    ∙ (rw (of_levels, of_d) at c.update_slopes_from_handlers.ensures) in
    let of_slopes = c.as_slice-2.ensures.value ∙ slopes in
    record {
      slopes = slopes;
      continued = rw lines
          (rw (of_lines, of_x, of_levels, of_d) at c.continue_states.ensures.continued);
      counted = rw (of_lines, of_x, of_levels, of_slopes) at c.continue_states.ensures.counted;
      same = refl;
    }
