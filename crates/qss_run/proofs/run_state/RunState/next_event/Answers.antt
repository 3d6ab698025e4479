-- Under a rule with a name the rows and the touches of a call are the first of those that were to come.
use Rattle.qss_run.proofs.Common
use Common.{ℕ, ◌++◌, ◌-◌, ◌∙◌, ◌≡◌, ap, arith, IsAllowedLevel, IsNext, level_by, Machine}
use Common.{MovesTouched, None, Option, Outcome, rows_left, RunView, snapshot_of, Some, Store}
use Common.{subst, sym, touches_left}
use Rattle.qss_run.specs.SimViews.{view_of}
use Rattle.qss_events.specs.Outcomes.{tick_of, end_of}
use Rattle.qss_events.proofs.NamedRows.{named_rows}
use Rattle.qss_run.proofs.NamedTouches.{named_touches}
use Rattle.qss_run.proofs.run_state.RunState.next_event.Goals as goal

pub returns-clause-rows : goal.returns-clause-rows
returns-clause-rows g c rule named going =
    let m : Machine = c.self.inside.machine in
    let from : ℕ = c.self.inside.tick in
    let s : Store = c.self.inside.store in
    let outcome : Outcome = c.go_to_next_event-outcome.result in
    let after : Store = c.go_to_next_event-outcome.new.s in
    let to : ℕ = tick_of m.last outcome in
    let none : c.self.inside.end ≡ None = ap (λ (v : RunView). v.end) c.self.view_is ∙ going in
    let next : IsNext (IsAllowedLevel (Some rule)) (view_of m from s None) (view_of m to after (end_of outcome)) outcome = subst (λ name. IsNext (IsAllowedLevel name) (view_of m from s None) (view_of m to after (end_of outcome)) outcome) named c.go_to_next_event-outcome.ensures.next in
    ap (rows_left (level_by rule)) (sym c.self.view_is)
    ∙ ap (λ (e : Option Outcome). rows_left (level_by rule) (view_of m from s e)) none
    ∙ named_rows rule m from (snapshot_of from s) s.rows.items outcome to (snapshot_of to after) after.rows.items (end_of outcome) next
    ∙ ap (λ (t : ℕ). after.rows.items ++ rows_left (level_by rule) (view_of m t after (end_of outcome))) (sym c.tick-self-inside.ensures)
    ∙ ap (λ (e : Option Outcome). after.rows.items ++ rows_left (level_by rule) (view_of m c.tick-self-inside.result after e)) (sym c.end-self-inside.ensures)

pub returns-clause-touched : goal.returns-clause-touched
returns-clause-touched g c rule named going =
    let m : Machine = c.self.inside.machine in
    let from : ℕ = c.self.inside.tick in
    let s : Store = c.self.inside.store in
    let outcome : Outcome = c.go_to_next_event-outcome.result in
    let after : Store = c.go_to_next_event-outcome.new.s in
    let to : ℕ = tick_of m.last outcome in
    let moves : ℕ = c.go_to_next_event-outcome.new.steps - c.args.steps.now in
    let none : c.self.inside.end ≡ None = ap (λ (v : RunView). v.end) c.self.view_is ∙ going in
    let next : IsNext (IsAllowedLevel (Some rule)) (view_of m from s None) (view_of m to after (end_of outcome)) outcome = subst (λ name. IsNext (IsAllowedLevel name) (view_of m from s None) (view_of m to after (end_of outcome)) outcome) named c.go_to_next_event-outcome.ensures.next in
    let few : MovesTouched (IsAllowedLevel (Some rule)) (view_of m from s None) (view_of m to after (end_of outcome)) outcome moves = subst (λ name. MovesTouched (IsAllowedLevel name) (view_of m from s None) (view_of m to after (end_of outcome)) outcome moves) named c.go_to_next_event-outcome.ensures.counted in
    let old : touches_left (level_by rule) c.args.self.now ≡ touches_left (level_by rule) (view_of m from s None) = ap (touches_left (level_by rule)) (sym c.self.view_is) ∙ ap (λ (e : Option Outcome). touches_left (level_by rule) (view_of m from s e)) none in
    let new : touches_left (level_by rule) (view_of m to after (end_of outcome)) ≡ touches_left (level_by rule) (view_of m c.tick-self-inside.result after c.end-self-inside.result) =
    ap (λ (t : ℕ). touches_left (level_by rule) (view_of m t after (end_of outcome))) (sym c.tick-self-inside.ensures)
    ∙ ap (λ (e : Option Outcome). touches_left (level_by rule) (view_of m c.tick-self-inside.result after e)) (sym c.end-self-inside.ensures) in
    omega (arith, old, new, named_touches rule m from (snapshot_of from s) s.rows.items outcome to (snapshot_of to after) after.rows.items (end_of outcome) moves next few)
