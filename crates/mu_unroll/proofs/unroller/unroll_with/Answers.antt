use Rattle.mu_unroll.proofs.Common.{flat_variable, map, meant_at, progress_of}
use Rattle.mu_tree.specs.FlatExpression.{flat_clause, flat_equation}
use Rattle.mu_unroll.proofs.Orders.{clauses_refused, equations_refused, model_unrolled}
use Rattle.mu_unroll.proofs.Orders.{starts_refused}
use Rattle.mu_unroll.proofs.Walks.{raised}
use Rattle.mu_unroll.proofs.unroller.unroll_with.Goals as goal

pub returns-in_err-unroll_all-clause-err : goal.returns-in_err-unroll_all-clause-err
returns-in_err-unroll_all-clause-err c =
    let starts =
    rw (c.deref.ensures.value, c.new.ensures.items, c.zero_counts.ensures) at
    c.in_err-unroll_all.ensures.err in
    raised c.from_residual.result _ _ c.from_residual.ensures.1
    (starts_refused (meant_at c.args.declared) c.args.m.now (map flat_variable c.args.vars.items) _
    starts)

pub returns-in_err-unroll_all-2-clause-err : goal.returns-in_err-unroll_all-2-clause-err
returns-in_err-unroll_all-2-clause-err c =
    let starts =
    rw (c.deref.ensures.value, c.new.ensures.items, c.zero_counts.ensures) at
    c.in_ok-unroll_all.ensures.ok in
    let first = c.in_ok-unroll_all.ensures.env in
    let equations =
    rw (
      c.deref-2.ensures.value,
      first.declared,
      first.loops,
      c.new.ensures.items,
      c.new-2.ensures.items,
    ) at c.in_err-unroll_all-2.ensures.err in
    raised c.from_residual-in_err-unroll_all-2.result _ _
    c.from_residual-in_err-unroll_all-2.ensures.1
    (equations_refused (meant_at c.args.declared) c.args.m.now
    (map flat_variable c.args.vars.items) (progress_of flat_variable c.unroll_all.new.output) _
    starts equations)

pub returns-in_err-unroll_all-3-clause-err : goal.returns-in_err-unroll_all-3-clause-err
returns-in_err-unroll_all-3-clause-err c =
    let starts =
    rw (c.deref.ensures.value, c.new.ensures.items, c.zero_counts.ensures) at
    c.in_ok-unroll_all.ensures.ok in
    let first = c.in_ok-unroll_all.ensures.env in
    let equations =
    rw (
      c.deref-2.ensures.value,
      first.declared,
      first.loops,
      c.new.ensures.items,
      c.new-2.ensures.items,
    ) at c.in_ok-unroll_all-2.ensures.ok in
    let second = c.in_ok-unroll_all-2.ensures.env in
    let clauses =
    rw (
      c.deref-3.ensures.value,
      second.declared,
      second.loops,
      first.declared,
      first.loops,
      c.new.ensures.items,
      c.new-3.ensures.items,
    ) at c.in_err-unroll_all-3.ensures.err in
    raised c.from_residual-in_err-unroll_all-3.result _ _
    c.from_residual-in_err-unroll_all-3.ensures.1
    (clauses_refused (meant_at c.args.declared) c.args.m.now (map flat_variable c.args.vars.items)
    (progress_of flat_variable c.unroll_all.new.output)
    (progress_of flat_equation c.unroll_all-2.new.output) _ starts equations clauses)

pub returns-clause-ok : goal.returns-clause-ok
returns-clause-ok c =
    let starts =
    rw (c.deref.ensures.value, c.new.ensures.items, c.zero_counts.ensures) at
    c.in_ok-unroll_all.ensures.ok in
    let first = c.in_ok-unroll_all.ensures.env in
    let equations =
    rw (
      c.deref-2.ensures.value,
      first.declared,
      first.loops,
      c.new.ensures.items,
      c.new-2.ensures.items,
    ) at c.in_ok-unroll_all-2.ensures.ok in
    let second = c.in_ok-unroll_all-2.ensures.env in
    let clauses =
    rw (
      c.deref-3.ensures.value,
      second.declared,
      second.loops,
      first.declared,
      first.loops,
      c.new.ensures.items,
      c.new-3.ensures.items,
    ) at c.in_ok-unroll_all-3.ensures.ok in
    model_unrolled (meant_at c.args.declared) c.args.m.now (map flat_variable c.args.vars.items)
    (progress_of flat_variable c.unroll_all.new.output)
    (progress_of flat_equation c.unroll_all-2.new.output)
    (progress_of flat_clause c.unroll_all-3.new.output) starts equations clauses
