use Rattle.qss_guarantees.proofs.command_laws.devs_answers_as_run.Goals as goal

pub returns : goal.returns
returns c model contents answer = (λ h. h, λ h. h)
