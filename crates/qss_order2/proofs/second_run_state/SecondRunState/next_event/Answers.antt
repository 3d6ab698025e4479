-- Under the nearest rule the rows of a call are the first of those that were to come.
use Rattle.qss_order2.proofs.Common
use Common.{ℕ, ◌∙◌, ◌≡◌, ap, end_of, IsNext2, IsRuled2, Machine, None, Outcome2, refl}
use Common.{SecondRunView, Store, tick_of, true, view_of}
use Rattle.qss_order2.proofs.Events.{within_then}
use Rattle.qss_order2.proofs.Ahead.{named_rows}
use Rattle.qss_order2.proofs.second_run_state.SecondRunState.next_event.Goals as goal

pub returns-clause-rows : goal.returns-clause-rows
returns-clause-rows g c nearest going =
    let m : Machine = c.self.inside.fixed.machine in
    let from : ℕ = c.self.inside.tick in
    let s : Store = c.self.inside.store in
    let outcome : Outcome2 = c.advance_to_event-outcome.result in
    let after : Store = c.advance_to_event-outcome.new.s in
    let to : ℕ = tick_of m.last outcome in
    let none : c.self.inside.end ≡ None = ap (λ (v : SecondRunView). v.end) c.self.view_is
    ∙ going in
    let next : IsNext2 (IsRuled2 true) (view_of m from s None) (view_of m to after (end_of outcome))
    outcome = rw nearest at c.advance_to_event-outcome.ensures.next in
    rw (← c.self.view_is, none, c.tick-self-inside.ensures, c.end-self-inside.ensures)
    (named_rows (view_of m from s None) (view_of m to after (end_of outcome)) outcome refl refl
    (within_then (IsRuled2 true) m from s outcome to after next
    c.advance_to_event-outcome.ensures.is_store) next)
