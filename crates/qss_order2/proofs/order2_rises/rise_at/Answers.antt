-- A row's sum is that of the definitions.
use Rattle.qss_order2.proofs.Common.{◌∙◌, FitsSigned, to_z-of_z, w128}
use Rattle.qss_order2.proofs.FixedFacts.{in_drives, drive_is, drive_wide, drive_slope, row_is}
use Rattle.qss_order2.proofs.FixedSums.{rise_is}
use Rattle.qss_order2.proofs.order2_rises.rise_at.Goals as goal

pub index-requires-2 : goal.index-requires-2
index-requires-2 c = in_drives c.args.f.now c.args.row c.requires.row

pub rise_of-requires-clause-drive : goal.rise_of-requires-clause-drive
rise_of-requires-clause-drive c = drive_slope c.args.f.now c.args.row c.requires.row
    c.index-2.result.now c.index-2.ensures

pub returns : goal.returns
returns c =
    let a = c.args in
    let fits : FitsSigned w128 c.index-2.result.now = drive_wide a.f.now a.row c.requires.row _
    c.index-2.ensures in
    let of_rise : FitsSigned w128 c.rise_of.result = record { sfits = c.rise_of.type_inv } in
    let own = simp to_z-of_z at c.rise_of.ensures.value in
    to_z-of_z w128 c.rise_of.result of_rise
    ∙ own ∙ rise_is a.f.now.machine a.row c.as_slice.result.now (row_is a.f.now a.row c.requires.row
    _ _ c.as_slice.ensures c.index.ensures) a.levels.now c.requires.count c.index-2.result.now
    (drive_is a.f.now a.row c.requires.row c.index-2.result.now c.index-2.ensures)
