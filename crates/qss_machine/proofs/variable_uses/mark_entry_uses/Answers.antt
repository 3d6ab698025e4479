use Rattle.qss_machine.proofs.Common
use Common.{◌==◌, Entry, has_entry, List, list_any_more, map, MarksBy, pos, subst, take_all}
use Rattle.qss_machine.proofs.Marking.{marks_more, items_of}
use Rattle.qss_machine.proofs.variable_uses.mark_entry_uses.Goals as goal

pub loop-entry-preserved : goal.loop-entry-preserved
loop-entry-preserved c =
    marks_more _ _ _ _ _ _ _ (λ v. list_any_more (λ (entry : Entry). entry.var == v) c.args.entries.now c.loop-entry.entry-index (record { var = 0; coef = pos 0 }) c.loop-entry-test.true)
    c.loop-entry.invariant c.in_ok-mark_reader.ensures

pub returns : goal.returns
returns c =
    subst (λ (entries : List Entry). MarksBy (map items_of c.args.lists.now.items) (map items_of c.loop-entry.lists.items) c.args.place (λ v. has_entry v entries))
    (take_all c.loop-entry.entry-index c.args.entries.now c.loop-entry-test.false) c.loop-entry.invariant
