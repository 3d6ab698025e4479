-- There are as many numbers as before.
use Rattle.qss_run.proofs.Common.{◌∙◌}
use Rattle.qss_run.proofs.condition_handlers.move_read_by_branches.Goals as goal

pub move_read_by_actions-requires : goal.move_read_by_actions-requires
move_read_by_actions-requires c =
    rw c.as_slice-lines.ensures.value
    (record {
      as_many = c.loop-place.invariant.as_many ∙ c.requires.may_arrive.as_many;
      later = c.requires.may_arrive.later;
      in_time = c.requires.may_arrive.in_time;
    })
