-- A row's sum is that of the definitions.
use Rattle.qss_order2.proofs.Common.{◌∙◌, ap, exceeds, FitsSigned, to_z-of_z, w128}
use Rattle.qss_order2.proofs.FixedFacts.{row_is}
use Rattle.qss_order2.proofs.FixedSums.{bend_is, bend_weight_is}
use Rattle.qss_order2.proofs.order2_rises.rise_bend_at.Goals as goal

pub rise_change_sum-requires-clause-within : goal.rise_change_sum-requires-clause-within
rise_change_sum-requires-clause-within c =
    ap (exceeds 94) (bend_weight_is c.args.f.now.machine c.args.row c.as_slice.result.now
    (row_is c.args.f.now c.args.row c.requires.row _ _ c.as_slice.ensures c.index.ensures)
    c.args.changes.now c.requires.changes) ∙ c.requires.within

pub returns : goal.returns
returns c =
    let fits : FitsSigned w128 c.rise_change_sum.result = record { sfits = c.rise_change_sum.type_inv } in
    to_z-of_z w128 c.rise_change_sum.result fits ∙ c.rise_change_sum.ensures
    ∙ bend_is c.args.f.now.machine c.args.row c.as_slice.result.now (row_is c.args.f.now c.args.row
    c.requires.row _ _ c.as_slice.ensures c.index.ensures) c.args.changes.now c.requires.changes
