use Rattle.qss_machine.proofs.Common.{length}
use Rattle.qss_machine.proofs.Few.{products_few}
use Rattle.qss_machine.proofs.slope_rows.rounded_row_products.Goals as goal

pub sum_slope_products-sum-requires-clause-count_limit : goal.sum_slope_products-sum-requires-clause-count_limit
sum_slope_products-sum-requires-clause-count_limit c =
    rw c.as_slice.ensures (products_few c.args.state_count (length c.args.discretes.now) c.args.row.now.products c.requires.row.products c.requires.count_limit)
