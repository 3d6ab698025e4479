use Rattle.qss_sched.proofs.Common.{refl}
use Rattle.qss_sched.proofs.Firsts.{place_found}
use Rattle.qss_sched.proofs.wheel_marks.first_marked_place.Goals as goal

pub returns : goal.returns
returns c =
    place_found c.args.places.now c.args.groups.now c.args.slot _ _ c.requires.grouped c.requires.slot c.requires.some (c.type_inv.groups _).fits refl
    (c.type_inv.places _).fits refl
