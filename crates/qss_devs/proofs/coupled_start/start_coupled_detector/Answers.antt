-- The detector has the form's value and its speed.
use Rattle.qss_devs.proofs.Common.{to_z-of_z}
use Rattle.qss_devs.proofs.Begun.{form_fits}
use Rattle.qss_devs.proofs.coupled_start.start_coupled_detector.Goals as goal

pub crossing_detector_of-requires-clause-parts : goal.crossing_detector_of-requires-clause-parts
crossing_detector_of-requires-clause-parts c =
    let of_time = (form_fits c.args.inputs.now c.args.condition.now.form.time c.args.condition.now.form.gamma c.requires.parts).0 in
    let of_gamma = (form_fits c.args.inputs.now c.args.condition.now.form.time c.args.condition.now.form.gamma c.requires.parts).1 in
    simp to_z-of_z c.requires.parts

pub returns : goal.returns
returns c =
    let of_time = (form_fits c.args.inputs.now c.args.condition.now.form.time c.args.condition.now.form.gamma c.requires.parts).0 in
    let of_gamma = (form_fits c.args.inputs.now c.args.condition.now.form.time c.args.condition.now.form.gamma c.requires.parts).1 in
    simp to_z-of_z at c.crossing_detector_of.ensures
