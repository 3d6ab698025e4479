use Rattle.mu_names.proofs.Common
use Common.{◌++◌, ◌∙◌, ap, expression, expression_faults, least_of, map, name_kind_at, name_kind_in}
use Common.{on_ok_weaker, refl, statement, statement_item, statement_items_of, statements_of}
use Rattle.mu_names.specs.Naming.{one_statement_faults, statements_faults}
use Rattle.mu_names.proofs.LeastLemmas.{noted_both}
use Rattle.mu_names.proofs.NestedFaults.{named}
use Rattle.mu_names.specs.declared.name_kind.NameContext.TheVariants as reading
use Rattle.mu_names.proofs.name_checks.check_branch.Goals as goal

pub returns-clause-faults : goal.returns-clause-faults
returns-clause-faults c =
    let d = name_kind_at c.args.declared.now in
    let loops = c.args.loops.now.items in
    let known = name_kind_in loops d in
    let b = c.args.one.now in
    let left = expression_faults reading.Clause known (expression b.cond.left) in
    let right = expression_faults reading.Clause known (expression b.cond.right) in
    let body = statements_faults d loops (statements_of (map statement b.body.items)) in
    on_ok_weaker c.check_items.result
    (λ noted. noted_both _ _ _ left (right ++ body) (left ++ (right ++ body))
    (rw c.deref.ensures.value at c.check_expression.ensures)
    (noted_both _ _ _ right body (right ++ body)
    (rw c.deref-2.ensures.value at c.check_expression-2.ensures)
    (noted ∙ ap (least_of c.check_expression-2.new.least)
    (named one_statement_faults statement statement_item d d loops loops c.deref-3.result.now
    b.body.items _ refl refl c.deref-3.ensures.value
    (statement_items_of (map statement b.body.items)))) refl) refl)
    c.check_items.ensures.faults
