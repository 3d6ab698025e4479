-- The line moves to the tick of the message, and takes its values.
use Rattle.qss_components.proofs.Common.{◌∙◌, ap, Line, line_told, refl}
use Rattle.qss_components.proofs.integrator_model.IntegratorModelAtomic.external.Goals as goal

pub returns : goal.returns
returns g c = (refl, refl, refl, c.apply_message-self.ensures ∙ ap (λ (l : Line). line_told c.args.self.now.var l c.args.msg) c.moved-line.ensures)

pub moved-line-requires : goal.moved-line-requires
moved-line-requires g c = c.requires.timely

pub apply_message-self-requires : goal.apply_message-self-requires
apply_message-self-requires g c = c.requires.message
