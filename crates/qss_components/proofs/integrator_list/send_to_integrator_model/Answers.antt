-- The integrator of a state receives the message.
use Rattle.qss_components.proofs.Common
use Common.{get_or, get_or_default, IntegratorModel, IsMessage, Machine, refl, subst, sym}
use Rattle.qss_components.specs.ComponentModels.{IsGivenLine}
use Rattle.qss_components.proofs.integrator_list.send_to_integrator_model.Goals as goal

pub bounds-integrators-var : goal.bounds-integrators-var
bounds-integrators-var g c = c.requires.known

pub external-requires-clause-timely : goal.external-requires-clause-timely
external-requires-clause-timely g c = c.requires.timely c.args.var c.index-integrators-var.result c.requires.known

pub external-requires-clause-message : goal.external-requires-clause-message
external-requires-clause-message g c =
    subst (λ (n : Machine). IsMessage n c.args.msg) (sym (c.requires.machine c.args.var c.index-integrators-var.result c.requires.known)) c.requires.message

pub returns : goal.returns
returns g c =
    let t = c.external.new.self in
    let given = c.external.ensures in
    let told : IsGivenLine (get_or c.args.integrators.now c.args.var c.index-integrators-var.result) c.args.tick c.args.msg t =
    record { machine = given.0; rule = given.1; own = given.2; line = given.3 } in
    (t, refl, subst (λ (i : IntegratorModel _ _). IsGivenLine i c.args.tick c.args.msg t) (get_or_default c.args.integrators.now c.args.var c.index-integrators-var.result t c.requires.known) told)
