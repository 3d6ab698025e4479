-- One more entry.
use Rattle.qss_run.proofs.Common
use Common.{ℕ, ◌<◌, ◌==◌, ◌∙◌, ◌≡◌, ap, AreArrived, arith, Entry, FitsSigned, get_or, length}
use Common.{length-states_at, List, of_z, pos, set, states_at, subst, sym, to_z, w128}
use Rattle.qss_run.proofs.Arrived.{arrived_more, arrived_along, arrived_past}
use Rattle.qss_run.proofs.condition_handlers.move_read_by_form.Goals.{then-j-lines, else-j-lines}
use Rattle.qss_run.proofs.condition_handlers.move_read_by_form.Goals as goal

pub loop-entry-preserved : goal.loop-entry-preserved
loop-entry-preserved c =
    let entries = c.args.form.now.entries in
    let i = c.loop-entry.entry-index in
    let none : Entry = record { var = 0; coef = pos 0 } in
    let var : ℕ = (get_or entries i none).var in
    let x = c.loop-entry.x in
    let states = states_at c.args.lines.now c.args.tick in
    let many = length-states_at c.args.lines.now c.args.tick in
    let as_many = c.loop-entry.invariant.as_many ∙ c.requires.as_many in
    let items : c.as_slice-entry-items.result.now ≡ entries = c.as_slice-entry-items.ensures in
    let own = ap (λ (xs : List Entry). (get_or xs i none).var) items in
    let inside : i < length entries = omega (arith, c.loop-entry-test.true, ap length items) in
    arrived_more (λ (j : ℕ) (entry : Entry). entry.var == j) entries states c.args.x.now i none x c.if-j-lines.x inside c.loop-entry.invariant
    (elim c.if-j-lines.branch [
      | then-j-lines w ↦
          let fits : FitsSigned w128 w.value_at.result = record { sfits = w.value_at.type_inv } in
          subst (AreArrived (λ j. var == j) states x) (sym (w.x-is ∙ ap (λ n. set x n (to_z w128 (of_z w128 w.value_at.result))) own))
          (arrived_along c.args.lines.now c.args.tick var w.index-lines-j.result x w.value_at.result (omega (arith, own, w.if-j-lines.true)) as_many
          (w.index-lines-j.is ∙ ap (λ n. get_or c.args.lines.now n w.index-lines-j.result) own) fits w.value_at.ensures)
      | else-j-lines w ↦
          subst (AreArrived (λ j. var == j) states x) (sym w.x-is)
          (arrived_past var states x (omega (arith, own, w.if-j-lines.false, many)) (omega (arith, own, w.if-j-lines.false, as_many)))
    ])
