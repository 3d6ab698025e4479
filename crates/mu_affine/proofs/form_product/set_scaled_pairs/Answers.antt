use Rattle.mu_affine.proofs.Common.{beside, pair_cmp, sym}
use Rattle.mu_affine.proofs.RowForms.{pair_order, entry_at}
use Rattle.mu_affine.proofs.Settings.{entry_set, IsRising-beside}
use Rattle.mu_affine.proofs.form_product.set_scaled_pairs.Goals as goal

pub returns-in-Err : goal.returns-in-Err
returns-in-Err c =
    (c.loop-discrete.discrete-index, ((beside c.args.state) c.discrete-item.result), entry_at (beside c.args.state) c.args.discretes.now c.loop-discrete.discrete-index c.discrete-item.result c.loop-discrete-test.true c.discrete-item.is, sym c.in-Err.ensures)

pub loop-discrete-preserved : goal.loop-discrete-preserved
loop-discrete-preserved c =
    entry_set pair_cmp (beside c.args.state) c.args.by c.args.row.now.entries c.loop-discrete.row.entries c.set_pair_coefficient.new.row.entries c.args.discretes.now c.loop-discrete.discrete-index c.discrete-item.result c.in-Ok.coef pair_order (IsRising-beside c.args.state c.args.discretes.now c.requires) c.loop-discrete-test.true c.discrete-item.is c.loop-discrete.invariant (sym c.in-Ok.ensures) c.in_ok-set_pair_coefficient-in-Ok.ensures
