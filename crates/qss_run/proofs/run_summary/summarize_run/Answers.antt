use Rattle.qss_run.proofs.Common
use Common.{◌+◌, ◌<◌, ◌∙◌, ap, discrete_count, end_sum, FitsSigned, IsCountFrom, Machine, of_z}
use Common.{Outcome, rules, RunView, state_count, subst, sym, to_z, to_z-of_z, w128}
use Rattle.qss_run.proofs.Counting.{tally_ended, over_own}
use Rattle.qss_run.proofs.run_summary.summarize_run.Goals as goal

pub count_summary_events-counted-requires : goal.count_summary_events-counted-requires
count_summary_events-counted-requires g c = record {
  unended = ap (λ (s : RunView). s.end) c.requires.start;
  start = ap (λ (s : RunView). s.tick) c.requires.start;
  named = c.requires.named;
}

pub line_variable_name-requires : goal.line_variable_name-requires
line_variable_name-requires g c =
    let course = c.args.sim.now.run in
    let new = c.count_summary_events-counted.new.sim.run in
    let levels = c.count_summary_events-counted.result.levels in
    let counted = subst (λ (o : Outcome). IsCountFrom course levels o new) c.in-Over.is c.count_summary_events-counted.ensures.counted in
    subst (λ (m : Machine). c.in-Over.var < state_count m + discrete_count m) (sym (c.machine.ensures ∙ c.count_summary_events-counted.ensures.machine))
    (over_own course.machine course new levels c.requires.start c.in-Over.tick c.in-Over.var counted)

pub returns-in-Done : goal.returns-in-Done
returns-in-Done g c =
    let course = c.args.sim.now.run in
    let new = c.count_summary_events-counted.new.sim.run in
    let levels = c.count_summary_events-counted.result.levels in
    let counted = subst (λ (o : Outcome). IsCountFrom course levels o new) c.in-Done.is c.count_summary_events-counted.ensures.counted in
    let fits : FitsSigned w128 c.summary_end_sum.result = search rules in
    let same = to_z-of_z w128 c.summary_end_sum.result fits in
    tally_ended course.machine course new levels c.requires.start (to_z w128 (of_z w128 c.summary_end_sum.result)) counted (same ∙ c.summary_end_sum.ensures ∙ ap end_sum c.rows.ensures)
