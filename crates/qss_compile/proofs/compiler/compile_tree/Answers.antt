use Rattle.qss_compile.proofs.Common
use Common.{flat_model, flat_source, IsErr, IsFlatOf, IsFlatRefused, IsNotFlat, IsTreeRefused}
use Common.{model, Refused, subst, sym, without_names}
use Rattle.qss_compile.proofs.Answering.{first_answer, later_answer, named_answer}
use Rattle.qss_compile.proofs.compiler.compile_tree.Goals as goal

pub compile_to_flat-requires : goal.compile_to_flat-requires
compile_to_flat-requires c = c.requires

pub returns-in-Err-clause-refused : goal.returns-in-Err-clause-refused
returns-in-Err-clause-refused c =
    subst (λ (r : Refused). IsErr (IsTreeRefused (model c.args.tree.now)) r) (sym c.early_model_refusal.ensures)
    (first_answer (IsNotFlat (model c.args.tree.now)) (IsFlatOf (model c.args.tree.now)) IsFlatRefused (without_names c.in-Err.error) c.in-Err.ensures.refused)

pub compile_flat_machine-requires-clause-model : goal.compile_flat_machine-requires-clause-model
compile_flat_machine-requires-clause-model c = c.in-Ok.ensures.model

pub compile_flat_machine-requires-clause-numbered : goal.compile_flat_machine-requires-clause-numbered
compile_flat_machine-requires-clause-numbered c = c.in-Ok.ensures.numbered

pub returns-in-Ok-compile_flat_machine-clause-means : goal.returns-in-Ok-compile_flat_machine-clause-means
returns-in-Ok-compile_flat_machine-clause-means c = (flat_source c.in-Ok.flat, c.in-Ok.ensures.flat, c.in-Ok-compile_flat_machine.ensures.means)

pub returns-clause-refused : goal.returns-clause-refused
returns-clause-refused c =
    later_answer (IsNotFlat (model c.args.tree.now)) (IsFlatOf (model c.args.tree.now)) IsFlatRefused (flat_source c.in-Ok.flat) c.attach_compiled_names.result c.in-Ok.ensures.flat
    (named_answer (flat_model c.in-Ok.flat.model) (IsFlatRefused (flat_source c.in-Ok.flat)) c.in-Err-compile_flat_machine.error c.attach_compiled_names.result c.attach_compiled_names.ensures c.in-Err-compile_flat_machine.ensures.refused)
