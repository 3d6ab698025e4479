-- A run whose levels are counted as it goes.
use Rattle.qss_run.proofs.Common
use Common.{[], ℕ, ℤ, ◌*◌, ◌++◌, ◌+◌, ◌<◌, ◌^◌, ◌∙◌, ◌≡◌, ◌≤◌, ap, append-nil, arith}
use Common.{discrete_count, Done, end_sum, Events, Floor, ints, IsCountFrom, last_snapshot}
use Common.{level_by, level_count, List, Machine, None, Outcome, Over, Row, rows_left, RunView}
use Common.{snapshot_rows, state_count, subst, sym}
use Rattle.qss_machine.specs.Runs.{run_rows}
use Rattle.qss_machine.specs.Ticks.{start_snapshot}
use Rattle.qss_rows.specs.RowTexts.{name_of}
use Rattle.qss_events.specs.RemainingRows.{first_view as first_of, remaining_run, EndsFrom, IsEndOf}
use Rattle.qss_events.specs.RunTexts.{run_by_rule}
use Rattle.qss_run.specs.RunSummaries.{IsSummary}
use Rattle.qss_run.specs.declared.run_summary.RunSummary.{RunSummary}
use Rattle.qss_run.proofs.Sums.{level_count-append, end_sum-append, AddsNothing, tick_nothing}
use Rattle.qss_run.proofs.Sums.{start_nothing, start_levels}
use Rattle.qss_events.proofs.FromStart.{rows_are, run_is, variable_known}
use Rattle.qss_events.proofs.RunEnds.{end_of, same_end, IsCall, event_end}
use Rattle.qss_machine.specs.declared.machine_parts.RowKind.TheVariants as kind
use Rattle.qss_run.specs.declared.run_summary.RunSummary.TheVariants as tallied

abbrev left : RunView → List Row
left s = rows_left (level_by Floor) s

-- the number of level changes between two states of a simulator
pub record IsCounting (first_view now : RunView) (levels : ℕ) : Type 0 where
  pub machine : now.machine ≡ first_view.machine
  pub unended : now.end ≡ None
  pub counted : level_count (left first_view) ≡ levels + level_count (left now)
  pub summed : end_sum (left first_view) ≡ end_sum (left now)
  pub end : end_of now.tick (remaining_run Floor now) ≡ end_of first_view.tick (remaining_run Floor first_view)
  pub few : levels ≤ now.tick * 2 ^ 64
  pub in_time : now.tick ≤ now.machine.last

module _ (first_view now new : RunView) (levels more : ℕ) (c : IsCounting first_view now levels) (ahead : left now ≡ new.rows ++ left new) (is : more ≡ level_count new.rows) where
  count_parts : level_count (left now) ≡ level_count new.rows + level_count (left new)
  count_parts = ap level_count ahead ∙ level_count-append new.rows (left new)

  sum_parts : end_sum (left now) ≡ end_sum (new.rows ++ left new)
  sum_parts = ap end_sum ahead

  pub counts_on : (tick : ℕ) → IsCall Floor now new (Events tick) → more ≤ 2 ^ 64 → IsCounting first_view new (levels + more)
  counts_on tick call some =
      let event = call.next.1 in
      let nothing : AddsNothing new.rows = ap end_sum event.own_rows ∙ tick_nothing now.machine tick (last_snapshot now.snapshot call.next.0) new.snapshot in
      let last : new.machine.last ≡ now.machine.last = ap (λ (m : Machine). m.last) call.machine in
      record {
        machine = call.machine ∙ c.machine;
        unended = call.next.2;
        counted = omega (arith, c.counted, count_parts, is);
        summed = c.summed ∙ sum_parts ∙ omega (arith, ints, end_sum-append new.rows (left new), nothing);
        end = sym (event_end Floor now new tick call) ∙ c.end;
        few = omega (arith, c.few, some, event.here, event.is_next);
        in_time = omega (arith, event.here, event.in_time, last);
      }

  pub counts_end : (outcome : Outcome) → left new ≡ [] → EndsFrom outcome now.tick (remaining_run Floor now) → IsCountFrom first_view (levels + more) outcome new
  counts_end outcome none ends =
      let all : end_sum (new.rows ++ left new) ≡ end_sum new.rows = ap (λ (l : List Row). end_sum (new.rows ++ l)) none ∙ ap end_sum (append-nil new.rows) in
      let no_more : level_count (left new) ≡ 0 = ap level_count none in
      record {
        ended = same_end outcome now.tick first_view.tick (remaining_run Floor now) (remaining_run Floor first_view) c.end ends;
        count = omega (arith, c.counted, count_parts, is, no_more);
        sum = sym (c.summed ∙ sum_parts ∙ all);
      }

-- ---- from the start on

module _ (m : Machine) (levels : ℕ) (outcome : Outcome) (new : RunView) (c : IsCountFrom (first_of m) levels outcome new) where
  rows_all : run_rows m (run_by_rule Floor m) ≡ snapshot_rows kind.Start 0 (start_snapshot m) ++ left (first_of m)
  rows_all = sym (rows_are Floor m)

  ended_all : EndsFrom outcome 0 (run_by_rule Floor m)
  ended_all = subst (EndsFrom outcome 0) (run_is Floor m) c.ended

  levels_all : levels ≡ level_count (run_rows m (run_by_rule Floor m))
  levels_all =
      let parts = ap level_count rows_all ∙ level_count-append (snapshot_rows kind.Start 0 (start_snapshot m)) (left (first_of m)) in
      omega (arith, c.count, parts, start_levels 0 (start_snapshot m))

  sum_all : end_sum new.rows ≡ end_sum (run_rows m (run_by_rule Floor m))
  sum_all =
      let parts = ap end_sum rows_all ∙ end_sum-append (snapshot_rows kind.Start 0 (start_snapshot m)) (left (first_of m)) in
      omega (arith, ints, c.sum, parts, start_nothing 0 (start_snapshot m))

  pub variable_own : IsEndOf m outcome
  variable_own = variable_known Floor m outcome c.ended

-- the same where a simulator's course is the one at the start
module _ (m : Machine) (course new : RunView) (levels : ℕ) (start : course ≡ first_of m) where
  from_start : (outcome : Outcome) → IsCountFrom course levels outcome new → IsCountFrom (first_of m) levels outcome new
  from_start outcome c = subst (λ (s : RunView). IsCountFrom s levels outcome new) start c

  pub tally_ended : (sum : ℤ) → IsCountFrom course levels Done new → sum ≡ end_sum new.rows → IsSummary m (run_by_rule Floor m) (tallied.Ended levels sum)
  tally_ended sum c is = let all = from_start Done c in (ended_all m levels Done new all, levels_all m levels Done new all, is ∙ sum_all m levels Done new all)

  pub over_own : (tick var : ℕ) → IsCountFrom course levels (Over tick var) new → var < state_count m + discrete_count m
  over_own tick var c = variable_own m levels (Over tick var) new (from_start (Over tick var) c)

  pub tally_over : (tick var : ℕ) (name : List ℕ) → IsCountFrom course levels (Over tick var) new → name ≡ name_of m var → IsSummary m (run_by_rule Floor m) (tallied.Overflowed name tick)
  tally_over tick var name c is =
      let end = ended_all m levels (Over tick var) new (from_start (Over tick var) c) in
      (var, end.0, is, omega (arith, end.1))

  pub tally_never : (tick : ℕ) → IsCountFrom course levels (Events tick) new → ⊥
  tally_never tick c = c.ended

pub tally_own : (m : Machine) (course : RunView) (result : RunSummary) → course ≡ first_of m → IsSummary course.machine (run_by_rule Floor course.machine) result → IsSummary m (run_by_rule Floor m) result
tally_own m course result start is = subst (λ (k : Machine). IsSummary k (run_by_rule Floor k) result) (ap (λ (s : RunView). s.machine) start) is
