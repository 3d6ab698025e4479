use Rattle.qss_compile.proofs.Common.{err_from_is_err_and, flat_model, flat_source}
use Rattle.qss_compile.proofs.Answering.{order_answer, forms_answer, rounding_answer}
use Rattle.qss_compile.proofs.Bridge.{forms_for}
use Rattle.qss_compile.proofs.compiler.compile_flat_machine.Goals as goal

pub order-requires : goal.order-requires
order-requires c = c.requires.numbered

pub returns-in_err-order-clause-means : goal.returns-in_err-order-clause-means
returns-in_err-order-clause-means c = let p = err_from_is_err_and c.from_residual.result c.from_residual.ensures.1 in rw p.1 tt

pub returns-in_err-order-clause-refused : goal.returns-in_err-order-clause-refused
returns-in_err-order-clause-refused c =
    let p = err_from_is_err_and c.from_residual.result c.from_residual.ensures.1 in
    rw (p.1, p.2) (order_answer (flat_source c.args.flat.now) c.in_err-order.field-0.0 c.in_err-order.ensures.refused)

pub normal-requires-clause-flat : goal.normal-requires-clause-flat
normal-requires-clause-flat c = c.requires.model

pub normal-requires-clause-order : goal.normal-requires-clause-order
normal-requires-clause-order c = c.in_ok-order.ensures.order

pub returns-in_err-forms-clause-means : goal.returns-in_err-forms-clause-means
returns-in_err-forms-clause-means c = let p = err_from_is_err_and c.from_residual-in_err-forms.result c.from_residual-in_err-forms.ensures.1 in rw p.1 tt

pub returns-in_err-forms-clause-refused : goal.returns-in_err-forms-clause-refused
returns-in_err-forms-clause-refused c =
    let p = err_from_is_err_and c.from_residual-in_err-forms.result c.from_residual-in_err-forms.ensures.1 in
    rw (p.1, p.2) (forms_answer (flat_source c.args.flat.now) c.in_ok-order.order.vars c.in_err-forms.field-0.0 (c.in_ok-order.ensures.counted, c.in_ok-order.ensures.order) c.in_err-forms.ensures.err)

pub to_machine-requires-clause-model : goal.to_machine-requires-clause-model
to_machine-requires-clause-model c = c.requires.model

pub to_machine-requires-clause-forms : goal.to_machine-requires-clause-forms
to_machine-requires-clause-forms c = forms_for (flat_model c.args.flat.now.model) c.in_ok-order.order.vars c.in_ok-forms.forms c.in_ok-forms.ensures.ok

pub returns-in_err-machine-clause-means : goal.returns-in_err-machine-clause-means
returns-in_err-machine-clause-means c = let p = err_from_is_err_and c.from_residual-in_err-machine.result c.from_residual-in_err-machine.ensures.1 in rw p.1 tt

pub returns-in_err-machine-clause-refused : goal.returns-in_err-machine-clause-refused
returns-in_err-machine-clause-refused c =
    let p = err_from_is_err_and c.from_residual-in_err-machine.result c.from_residual-in_err-machine.ensures.1 in
    rw (p.1, p.2) (rounding_answer (flat_source c.args.flat.now) c.in_ok-order.order.vars c.in_ok-forms.forms c.in_err-machine.field-0.0 (c.in_ok-order.ensures.counted, c.in_ok-order.ensures.order) c.in_ok-forms.ensures.ok c.in_err-machine.ensures.refused)

pub returns-clause-means : goal.returns-clause-means
returns-clause-means c = (
  c.in_ok-order.order.vars,
  (c.in_ok-order.ensures.counted, c.in_ok-order.ensures.order),
  (c.in_ok-forms.forms, c.in_ok-forms.ensures.ok, c.in_ok-machine.ensures.machine),
)
