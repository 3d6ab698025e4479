use Rattle.mu_unroll.proofs.Common
use Common.{◌^◌, ◌∙◌, ◌≡◌, ap, declared_in, flat_variable, map, meant_at, model, nat_lt}
use Common.{scalar_count, scalars_in, sym, unrolled, unrolled_with}
use Rattle.mu_unroll.proofs.Whole.{flat_given, lists_given, numbered_given, ok_same, whole_is}
use Rattle.mu_unroll.proofs.unroller.unroll.Goals as goal

pub returns-clause-ok : goal.returns-clause-ok
returns-clause-ok c =
    let known : c.as_slice-known.result.now ≡ c.args.s.now.known = c.as_slice-known.ensures in
    let same : unrolled_with (meant_at c.in_ok-declared.declared) (model c.args.m.now) (map flat_variable c.in_ok-vars.vars.items) ≡ unrolled (model c.args.m.now) c.args.s.now.known =
    whole_is (model c.args.m.now) c.args.s.now.known (meant_at c.in_ok-declared.declared) (map flat_variable c.in_ok-vars.vars.items)
    (ap (λ xs. nat_lt (2 ^ 12) (scalar_count xs)) (sym known) ∙ sym c.are_too_many_variables.ensures ∙ c.if-are_too_many_variables.false)
    (c.in_ok-declared.ensures.names ∙ ap declared_in known)
    (c.in_ok-vars.ensures ∙ ap scalars_in known) in
    ok_same (unrolled_with (meant_at c.in_ok-declared.declared) (model c.args.m.now) (map flat_variable c.in_ok-vars.vars.items)) (unrolled (model c.args.m.now) c.args.s.now.known) c.unroll_with.result same c.unroll_with.ensures.ok

pub returns-clause-lists : goal.returns-clause-lists
returns-clause-lists c = lists_given (model c.args.m.now) c.args.s.now.known c.unroll_with.result (returns-clause-ok c)

pub returns-clause-flat : goal.returns-clause-flat
returns-clause-flat c = flat_given (model c.args.m.now) c.args.s.now.known c.unroll_with.result (returns-clause-ok c)

pub returns-clause-numbered : goal.returns-clause-numbered
returns-clause-numbered c = numbered_given (model c.args.m.now) c.args.s.now.known c.unroll_with.result (returns-clause-ok c)
