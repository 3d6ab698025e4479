use Rattle.qss_machine.proofs.Common
use Common.{All-get_or, Collects, length-map, List, map, MarksBy, row_reads, SlopeRow, subst}
use Common.{take_all}
use Rattle.qss_machine.specs.Marks.{IsRowOf}
use Rattle.qss_machine.proofs.Marking.{collect_more, collected, items_of}
use Rattle.qss_machine.proofs.variable_uses.row_uses_by_variable.Goals as goal

pub mark_row_uses-requires : goal.mark_row_uses-requires
mark_row_uses-requires c =
    let row = c.index-rows-place.result in
    let here = All-get_or (IsRowOf c.args.count) c.args.rows.now c.loop-place.place row c.loop-place-test.true c.requires.known in
    rw (c.index-rows-place.is, ← length-map c.loop-place.lists.items items_of, c.loop-place.invariant.as_many) here

pub loop-place-preserved : goal.loop-place-preserved
loop-place-preserved c =
    let row = c.index-rows-place.result in
    collect_more row_reads c.args.count (map items_of c.loop-place.lists.items) (map items_of c.mark_row_uses.new.lists.items) c.args.rows.now c.loop-place.place row c.loop-place-test.true
    (subst (λ (row : SlopeRow). MarksBy (map items_of c.loop-place.lists.items) (map items_of c.mark_row_uses.new.lists.items) c.loop-place.place (λ v. row_reads v row)) c.index-rows-place.is c.in_ok-mark_row_uses.ensures) c.loop-place.invariant

pub returns : goal.returns
returns c =
    collected row_reads c.args.rows.now c.args.count (map items_of c.loop-place.lists.items)
    (subst (λ (rows : List SlopeRow). Collects row_reads rows c.args.count (map items_of c.loop-place.lists.items)) (take_all c.loop-place.place c.args.rows.now c.loop-place-test.false) c.loop-place.invariant)
