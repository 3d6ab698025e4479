-- The numbers are the states of the values.
use Rattle.qss_run.proofs.Common.{◌∙◌, ap, length, Values}
use Rattle.qss_run.proofs.condition_handlers.move_work_read_by_branches.Goals as goal

pub move_read_by_branches-requires-clause-may_arrive : goal.move_read_by_branches-requires-clause-may_arrive
move_read_by_branches-requires-clause-may_arrive c = record {
  as_many = ap length (c.as_mut_slice.ensures.value ∙ ap (λ (v : Values). v.x) c.work.view_is) ∙ c.requires.may_arrive.as_many;
  later = c.requires.may_arrive.later;
  in_time = c.requires.may_arrive.in_time;
}
