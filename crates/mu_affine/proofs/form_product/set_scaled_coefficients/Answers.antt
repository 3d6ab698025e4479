use Rattle.mu_affine.proofs.Common.{named, nat_cmp, sym}
use Rattle.mu_affine.proofs.RowForms.{nat_order, entry_at}
use Rattle.mu_affine.proofs.Settings.{entry_set}
use Rattle.mu_affine.proofs.form_product.set_scaled_coefficients.Goals as goal

pub returns-in-Err : goal.returns-in-Err
returns-in-Err c =
    (c.loop-entry.entry-index, (named c.entry-item.result), entry_at named c.args.entries.now c.loop-entry.entry-index c.entry-item.result c.loop-entry-test.true c.entry-item.is, sym c.in-Err.ensures)

pub loop-entry-preserved : goal.loop-entry-preserved
loop-entry-preserved c =
    entry_set nat_cmp named c.args.by c.args.row.now.entries c.loop-entry.row.entries c.set_coefficient.new.row.entries c.args.entries.now c.loop-entry.entry-index c.entry-item.result c.in-Ok.coef nat_order c.requires c.loop-entry-test.true c.entry-item.is c.loop-entry.invariant (sym c.in-Ok.ensures) c.in_ok-set_coefficient-in-Ok.ensures
