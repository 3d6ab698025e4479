use Rattle.mu_unroll.proofs.Common
use Common.{[], ◌∙◌, ap, branch, flat_branch, flat_expression, FlatAction, in_order, map}
use Common.{map-append, meant_at, Ok, progress, progress_of, rules, Statement, statement, Step, sym}
use Common.{unrolled_statement}
use Rattle.mu_tree.specs.FlatExpression.{flat_action}
use Rattle.mu_unroll.proofs.Faulty.{fault_same}
use Rattle.mu_unroll.proofs.Orders.{statements_in_order}
use Rattle.mu_unroll.proofs.WalkSteps.{branch_unrolled}
use Rattle.mu_unroll.proofs.unroller.unroll_branch.Goals as goal

pub returns-in_err-unroll_items-clause-err : goal.returns-in_err-unroll_items-clause-err
returns-in_err-unroll_items-clause-err c =
    let env = c.args.env.now in
    let statements =
    fault_same _ _ _
    (statements_in_order c.deref.result.now (meant_at env.declared) env.loops.items _)
    c.in_err-unroll_items.ensures.err in
    search (rules, statements)

pub returns-clause-ok : goal.returns-clause-ok
returns-clause-ok c =
    let d = meant_at c.args.env.now.declared in
    let loops = c.args.env.now.loops.items in
    let b = c.args.one.now in
    let p = progress_of flat_branch c.args.output.now in
    let counts = c.in_ok-output.field-0 in
    let one : Statement → Step FlatAction = λ x e ls q. unrolled_statement e ls (statement x) q in
    let q = progress_of flat_action c.unroll_items.new.output in
    let statements =
    sym (ap (λ xs. in_order one xs d loops (progress (map flat_action c.new.result.items) counts))
    c.deref.ensures.value
    ∙ ap (λ ns. in_order one b.body.items d loops (progress (map flat_action ns) counts))
    c.new.ensures.items
    ∙ statements_in_order b.body.items d loops (progress [] counts))
    ∙ c.in_ok-unroll_items.ensures.ok in
    branch_unrolled d loops (branch b) p counts (flat_expression c.in_ok-left.left)
    (flat_expression c.in_ok-right.right) q (sym c.count_sides.ensures ∙ c.in_ok-output.was)
    c.in_ok-left.ensures.ok c.in_ok-right.ensures.ok statements
    ∙ ap (λ xs. Ok (progress xs q.counts))
    (sym (ap (map flat_branch) c.in_ok-push.ensures.items
    ∙ map-append flat_branch c.args.output.now.done.items _))
