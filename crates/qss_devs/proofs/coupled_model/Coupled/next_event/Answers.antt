-- Under a rule with a name the rows of a call are the first of those that were to come.
use Rattle.qss_devs.proofs.Common
use Common.{ℕ, ◌++◌, ◌∙◌, ◌≡◌, ap, IsAllowedLevel, level_by, Machine, None, Option, Quantizer}
use Common.{snapshot_of, Some, Store, subst, sym, view_of}
use Rattle.qss_events.specs.declared.event_outcome.Outcome.{Outcome}
use Rattle.qss_events.specs.Events.{IsNext, rows_left}
use Rattle.qss_events.specs.Outcomes.{tick_of, end_of}
use Rattle.qss_events.proofs.NamedRows.{named_rows}
use Rattle.qss_devs.proofs.coupled_model.Coupled.next_event.Goals as goal

pub returns-clause-rows : goal.returns-clause-rows
returns-clause-rows g c rule named going =
    let m : Machine = c.args.self.now.machine.value in
    let from : ℕ = c.args.self.now.tick in
    let s : Store _ _ = c.args.self.now.store in
    let outcome : Outcome = c.go_to_next_rows-outcome.result in
    let after : Store _ _ = c.go_to_next_rows-outcome.new.s in
    let to : ℕ = tick_of m.last outcome in
    let of_machine : c.deref.result.now ≡ m = c.deref.ensures in
    let next : IsNext (IsAllowedLevel (Some rule)) (view_of m from s None) (view_of m to after (end_of outcome)) outcome =
    subst (λ name. IsNext (IsAllowedLevel name) (view_of m from s None) (view_of m to after (end_of outcome)) outcome) (ap (λ (q : Quantizer _ _). q.name) c.deref-2.ensures ∙ named)
    (subst (λ (n : Machine). IsNext (IsAllowedLevel c.deref-2.result.now.name) (view_of n from s None) (view_of n (tick_of n.last outcome) after (end_of outcome)) outcome) of_machine c.go_to_next_rows-outcome.ensures.next) in
    ap (λ (e : Option Outcome). rows_left (level_by rule) (view_of m from s e)) going
    ∙ named_rows rule m from (snapshot_of from s) s.rows.items outcome to (snapshot_of to after) after.rows.items (end_of outcome) next
    ∙ ap (λ (t : ℕ). after.rows.items ++ rows_left (level_by rule) (view_of m t after (end_of outcome))) (sym (c.tick-self.ensures ∙ ap (λ (n : Machine). tick_of n.last outcome) c.deref-3.ensures))
    ∙ ap (λ (e : Option Outcome). after.rows.items ++ rows_left (level_by rule) (view_of m c.tick-self.result after e)) (sym c.end-self.ensures)
