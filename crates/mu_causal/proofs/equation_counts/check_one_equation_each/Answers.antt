use Rattle.mu_causal.proofs.Common
use Common.{◌<◌, ◌∙◌, ◌≡◌, ap, arith, flat_model, flat_variable, inl, inr, IsGiven, length}
use Common.{length-map, map, slice_get, Some, sym}
use Rattle.mu_causal.specs.Dependencies.{equation_numbers}
use Rattle.mu_causal.proofs.Counting.{variable_there, counted_more, counted_all, given_there}
use Rattle.mu_causal.proofs.equation_counts.check_one_equation_each.Goals.{then-needs_equation+in-Once}
use Rattle.mu_causal.proofs.equation_counts.check_one_equation_each.Goals.{else-needs_equation}
use Rattle.mu_causal.proofs.equation_counts.check_one_equation_each.Goals as goal

pub returns-in-Never-clause-err : goal.returns-in-Never-clause-err
returns-in-Never-clause-err c =
    let items : length c.deref-variable-items.result.now ≡ length c.args.m.now.vars.items = ap length c.deref-variable-items.ensures.value in
    let within : c.loop-place.place < c.len.result = omega (arith, c.loop-place-test.true, items, c.len.ensures) in
    let given : IsGiven (equation_numbers (flat_model c.args.m.now) c.loop-place.place) c.index.result.now =
    rw c.deref.ensures.value at (given_there c.deref.result.now c.in-Ok.given.items c.loop-place.place c.index.result.now (omega (arith, within, c.in-Ok.ensures.count)) c.index.ensures (c.in-Ok.ensures.each c.loop-place.place within)) in
    let at : slice_get (flat_model c.args.m.now).vars c.loop-place.place ≡ Some (flat_variable c.variable-item.result) =
    rw (c.deref-variable-items.ensures.value) at (variable_there c.deref-variable-items.result.now c.loop-place.place c.variable-item.result c.loop-place-test.true c.variable-item.is) in (
      record { variable = flat_variable c.variable-item.result; at = at; wants = sym c.if-needs_equation.ensures },
      c.loop-place.invariant,
      rw c.in-Never.is at given,
    )

pub returns-in-Often-clause-err : goal.returns-in-Often-clause-err
returns-in-Often-clause-err c =
    let items : length c.deref-variable-items.result.now ≡ length c.args.m.now.vars.items = ap length c.deref-variable-items.ensures.value in
    let within : c.loop-place.place < c.len.result = omega (arith, c.loop-place-test.true, items, c.len.ensures) in
    let given : IsGiven (equation_numbers (flat_model c.args.m.now) c.loop-place.place) c.index.result.now =
    rw c.deref.ensures.value at (given_there c.deref.result.now c.in-Ok.given.items c.loop-place.place c.index.result.now (omega (arith, within, c.in-Ok.ensures.count)) c.index.ensures (c.in-Ok.ensures.each c.loop-place.place within)) in
    let at : slice_get (flat_model c.args.m.now).vars c.loop-place.place ≡ Some (flat_variable c.variable-item.result) =
    rw (c.deref-variable-items.ensures.value) at (variable_there c.deref-variable-items.result.now c.loop-place.place c.variable-item.result c.loop-place-test.true c.variable-item.is) in (
      record { variable = flat_variable c.variable-item.result; at = at; wants = sym c.if-needs_equation.ensures },
      c.loop-place.invariant,
      rw c.in-Often.is at given,
    )

pub loop-place-preserved : goal.loop-place-preserved
loop-place-preserved c =
    let at : slice_get (flat_model c.args.m.now).vars c.loop-place.place ≡ Some (flat_variable c.variable-item.result) =
    rw (c.deref-variable-items.ensures.value) at (variable_there c.deref-variable-items.result.now c.loop-place.place c.variable-item.result c.loop-place-test.true c.variable-item.is) in
    counted_more (flat_model c.args.m.now) c.loop-place.place (flat_variable c.variable-item.result) c.loop-place.invariant at
    (elim c.if-needs_equation.branch [
      | then-needs_equation+in-Once w ↦
          let items : length c.deref-variable-items.result.now ≡ length c.args.m.now.vars.items = ap length c.deref-variable-items.ensures.value in
          let within : c.loop-place.place < c.len.result = omega (arith, c.loop-place-test.true, items, c.len.ensures) in
          let given : IsGiven (equation_numbers (flat_model c.args.m.now) c.loop-place.place) w.index.result.now =
          rw c.deref.ensures.value at (given_there c.deref.result.now c.in-Ok.given.items c.loop-place.place w.index.result.now (omega (arith, within, c.in-Ok.ensures.count)) w.index.ensures (c.in-Ok.ensures.each c.loop-place.place within)) in
          inr (w.in-Once.field-0, rw w.in-Once.is at given)
      | else-needs_equation w ↦ inl (sym c.needs_equation.ensures ∙ w.if-needs_equation.false)
    ])

pub returns-clause-ok : goal.returns-clause-ok
returns-clause-ok c =
    let whole : length (map flat_variable c.args.m.now.vars.items) ≡ length c.args.m.now.vars.items = length-map c.args.m.now.vars.items flat_variable in
    let items : length c.deref-variable-items.result.now ≡ length c.args.m.now.vars.items = ap length c.deref-variable-items.ensures.value in
    counted_all (flat_model c.args.m.now) c.loop-place.place c.loop-place.invariant (omega arith)
