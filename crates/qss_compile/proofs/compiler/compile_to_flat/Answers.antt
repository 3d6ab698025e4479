use Rattle.qss_compile.proofs.Common
use Common.{◌≡◌, ap, err_from_is_err_and, flat_model, model, Ok, subst, symbols, unrolled}
use Rattle.mu_names.specs.declared.declared_scope.Scope.{Scope}
use Rattle.qss_compile.proofs.Answering.{names_answer, unrolling_answer}
use Rattle.qss_compile.proofs.WellFormed.{well_formed}
use Rattle.mu_unroll.specs.UnrollFaults as unroll
use Rattle.qss_compile.proofs.compiler.compile_to_flat.Goals as goal

pub returns-in_err-scope-clause-flat : goal.returns-in_err-scope-clause-flat
returns-in_err-scope-clause-flat c = let p = err_from_is_err_and c.from_residual.result c.from_residual.ensures.1 in rw p.1 tt

pub returns-in_err-scope-clause-model : goal.returns-in_err-scope-clause-model
returns-in_err-scope-clause-model c = let p = err_from_is_err_and c.from_residual.result c.from_residual.ensures.1 in rw p.1 tt

pub returns-in_err-scope-clause-numbered : goal.returns-in_err-scope-clause-numbered
returns-in_err-scope-clause-numbered c = let p = err_from_is_err_and c.from_residual.result c.from_residual.ensures.1 in rw p.1 tt

pub returns-in_err-scope-clause-refused : goal.returns-in_err-scope-clause-refused
returns-in_err-scope-clause-refused c =
    let p = err_from_is_err_and c.from_residual.result c.from_residual.ensures.1 in
    rw (p.1, p.2) (names_answer (model c.args.tree.now) c.in_err-scope.field-0.0 c.in_err-scope.ensures.refused)

pub returns-in_err-model-clause-flat : goal.returns-in_err-model-clause-flat
returns-in_err-model-clause-flat c = let p = err_from_is_err_and c.from_residual-in_err-model.result c.from_residual-in_err-model.ensures.1 in rw p.1 tt

pub returns-in_err-model-clause-model : goal.returns-in_err-model-clause-model
returns-in_err-model-clause-model c = let p = err_from_is_err_and c.from_residual-in_err-model.result c.from_residual-in_err-model.ensures.1 in rw p.1 tt

pub returns-in_err-model-clause-numbered : goal.returns-in_err-model-clause-numbered
returns-in_err-model-clause-numbered c = let p = err_from_is_err_and c.from_residual-in_err-model.result c.from_residual-in_err-model.ensures.1 in rw p.1 tt

pub returns-in_err-model-clause-refused : goal.returns-in_err-model-clause-refused
returns-in_err-model-clause-refused c =
    let p = err_from_is_err_and c.from_residual-in_err-model.result c.from_residual-in_err-model.ensures.1 in
    rw (p.1, p.2) (unrolling_answer (model c.args.tree.now) c.in_err-model.field-0.0 c.in_ok-scope.ensures.right
    (subst (λ (s : Scope). unroll.IsFault (unrolled (model c.args.tree.now) s.known) c.in_err-model.field-0.0) c.in_ok-scope.ensures.scope c.in_err-model.ensures.err))

pub returns-clause-flat : goal.returns-clause-flat
returns-clause-flat c = (
  c.in_ok-scope.ensures.right,
  subst (λ (s : Scope). unrolled (model c.args.tree.now) s.known ≡ Ok (flat_model c.in_ok-model.model)) c.in_ok-scope.ensures.scope c.in_ok-model.ensures.ok,
  ap (λ (s : Scope). s.settings) c.in_ok-scope.ensures.scope,
)

pub returns-clause-model : goal.returns-clause-model
returns-clause-model c =
    let spelled = c.requires in
    c.in_ok-model.ensures.flat (well_formed 64 (symbols spelled.0 spelled.1.0) (model c.args.tree.now) spelled.1.2)

pub returns-clause-numbered : goal.returns-clause-numbered
returns-clause-numbered c = c.in_ok-model.ensures.numbered
