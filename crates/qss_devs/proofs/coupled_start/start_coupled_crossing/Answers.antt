-- The crossing has the form's coefficient of time and its constant.
use Rattle.qss_devs.proofs.Common.{to_z-of_z}
use Rattle.qss_devs.proofs.Begun.{form_fits}
use Rattle.qss_devs.proofs.coupled_start.start_coupled_crossing.Goals as goal

pub invariant_of-result : goal.invariant_of-result
invariant_of-result c =
    let of_time = (form_fits c.args.inputs.items c.args.condition.now.form.time c.args.condition.now.form.gamma c.requires.parts).0 in
    let of_gamma = (form_fits c.args.inputs.items c.args.condition.now.form.time c.args.condition.now.form.gamma c.requires.parts).1 in
    record { lines = c.requires.lines; stays = c.requires.stays; parts = simp to_z-of_z c.requires.parts }

pub returns-clause-crossing : goal.returns-clause-crossing
returns-clause-crossing c =
    let of_time = (form_fits c.args.inputs.items c.args.condition.now.form.time c.args.condition.now.form.gamma c.requires.parts).0 in
    let of_gamma = (form_fits c.args.inputs.items c.args.condition.now.form.time c.args.condition.now.form.gamma c.requires.parts).1 in
    simp to_z-of_z
