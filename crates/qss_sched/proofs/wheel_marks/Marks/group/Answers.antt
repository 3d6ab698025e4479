use Rattle.qss_sched.proofs.Common
use Common.{◌<◌, ◌∙◌, ◌≡◌, arith, common_steps, get_or_default_zero, length, slice_index}
use Rattle.qss_sched.proofs.Words.{group_found}
use Rattle.qss_sched.proofs.wheel_marks.Marks.group.Goals as goal

pub returns : goal.returns
returns c =
    let m = c.self.inside in
    let inside : c.args.slot < length m.groups.items = grind (arith, common_steps, c.self.invariant.grouped.many_groups) in
    let read = c.index-groups.result.now in
    let held : read ≡ slice_index m.groups.items c.args.slot = c.index-groups.ensures ∙ get_or_default_zero m.groups.items c.args.slot read inside in
    rw (← c.self.view_is) (group_found m.places.items m.groups.items c.args.slot _ c.self.invariant.grouped c.requires (rw held at c.lowest_marked_bit.ensures))
