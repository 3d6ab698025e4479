-- There are as many numbers as before.
use Rattle.qss_run.proofs.Common.{◌∙◌}
use Rattle.qss_run.proofs.condition_handlers.move_read_by_actions.Goals as goal

pub move_read_by_form-requires : goal.move_read_by_form-requires
move_read_by_form-requires c = record {
  as_many = c.loop-action.invariant.as_many ∙ c.requires.as_many;
  later = c.requires.later;
  in_time = c.requires.in_time;
}
