use Rattle.qss_compile.proofs.Common
use Common.{ℕ, ◌∙◌, ◌≡◌, ap, flat_model, FlatVariable, inr, List, map, map_twice, ModelErr, Refused}
use Common.{sym}
use Rattle.mu_tree.specs.FlatExpression.{flat_variable}
use Rattle.mu_tree.specs.declared.flat.FlatVar.{FlatVar}
use Rattle.qss_compile.proofs.compiler.attach_compiled_names.Goals as goal

-- a refusal with these names
abbrev refused : ModelErr → List (List ℕ) → Refused
refused e names = record { error = e; names = names }

pub returns-in-Ok : goal.returns-in-Ok
returns-in-Ok c =
    let names : c.new.result ≡ map (λ (v : FlatVariable). v.name) (flat_model c.args.model.now).vars =
    c.new.ensures ∙ c.in-Ok.ensures ∙ ap (map (λ (v : FlatVar). v.name)) c.deref.ensures.value
    ∙ sym (map_twice flat_variable (λ (v : FlatVariable). v.name) c.args.model.now.vars.items) in
    inr (ap (refused c.args.error) names)
