use Rattle.mu_names.proofs.Common.{◌∙◌, model, model_faults, sym}
use Rattle.mu_names.proofs.LeastLaws.{none_left, refusal}
use Rattle.mu_names.proofs.name_checks.roles.Goals as goal

pub returns-in-None-clause-right : goal.returns-in-None-clause-right
returns-in-None-clause-right c = none_left (model_faults (model c.args.m.now)) (sym c.in-Ok.ensures.faults ∙ c.in-None.is)

pub returns-in-Some-clause-refused : goal.returns-in-Some-clause-refused
returns-in-Some-clause-refused c = refusal (model c.args.m.now) c.in-Some.fault (sym c.in-Ok.ensures.faults ∙ c.in-Some.is)
