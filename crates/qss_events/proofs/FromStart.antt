-- A first-order run from its start.
use Rattle.qss_events.proofs.Common
use Common.{ℕ, ◌++◌, ◌-◌, ◌∙◌, ◌≡◌, All, ap, arith, Done, EndsFrom, Events, first_view, HasVariable}
use Common.{level_by, Machine, Outcome, Over, remaining_rows, remaining_run, rows_from, Rule, Run}
use Common.{run_by_rule, run_from, run_rows, RunView, snapshot_rows, Some, start_snapshot, subst}
use Common.{sym}
use Rattle.qss_events.specs.RemainingRows.{IsEndOf}
use Rattle.qss_events.proofs.KnownRows.{run_known, over_known}
use Rattle.qss_machine.specs.declared.machine_parts.RowKind.TheVariants as kind

all_ticks : (m : Machine) → m.last - 0 ≡ m.last
all_ticks m = omega arith

pub rows_are : (rule : Rule) (m : Machine) → remaining_rows rule (first_view m) ≡ run_rows m (run_by_rule rule m)
rows_are rule m = ap (λ (n : ℕ). snapshot_rows kind.Start 0 (start_snapshot m) ++ rows_from (level_by rule) m n 0 (start_snapshot m)) (all_ticks m)

pub run_is : (rule : Rule) (m : Machine) → remaining_run rule (first_view m) ≡ run_by_rule rule m
run_is rule m = ap (λ (n : ℕ). run_from (level_by rule) m n 0 (start_snapshot m)) (all_ticks m)

pub first_known : (rule : Rule) (m : Machine) → All (HasVariable m) (remaining_rows rule (first_view m))
first_known rule m = subst (All (HasVariable m)) (sym (rows_are rule m)) (run_known (level_by rule) m)

pub variable_known : (rule : Rule) (m : Machine) (outcome : Outcome) → EndsFrom outcome 0 (remaining_run rule (first_view m)) → IsEndOf m outcome
variable_known rule m (Events tick) e = tt
variable_known rule m Done e = tt
variable_known rule m (Over tick var) e = over_known (level_by rule) m var (subst (λ (r : Run). r.overflow ≡ Some var) (run_is rule m) e.0)

-- the same where a simulator's course is the one at the start
pub course_known : (rule : Rule) (m : Machine) (course : RunView) → course ≡ first_view m → All (HasVariable course.machine) (remaining_rows rule course)
course_known rule m course e = subst (λ (s : RunView). All (HasVariable s.machine) (remaining_rows rule s)) (sym e) (first_known rule m)

-- a simulator of a machine begins with the machine that it keeps
pub course_own : (m : Machine) (course : RunView) → course ≡ first_view m → course ≡ first_view course.machine
course_own m course e = e ∙ ap first_view (sym (ap (λ (s : RunView). s.machine) e))
