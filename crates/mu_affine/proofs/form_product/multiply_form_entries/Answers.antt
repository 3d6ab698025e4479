use Rattle.mu_affine.proofs.Common.{ExactEntry, named, refl, sym}
use Rattle.mu_affine.proofs.Scalings.{entry_unscaled, Scales-more}
use Rattle.mu_affine.proofs.form_product.multiply_form_entries.Goals as goal

pub returns-in-Err : goal.returns-in-Err
returns-in-Err c =
    entry_unscaled named c.args.divide c.args.by c.args.entries.now c.loop-entry.entry-index c.entry-item.result c.in-Err.fault c.loop-entry-test.true c.entry-item.is (sym c.in-Err.ensures)

pub loop-entry-preserved : goal.loop-entry-preserved
loop-entry-preserved c =
    let new : ExactEntry = record { var = c.entry-item.result.var; coef = c.in-Ok.coef } in
    rw c.in_ok-push-in-Ok.ensures.items
    (Scales-more named c.args.divide c.args.by c.args.entries.now c.loop-entry.all.items c.loop-entry.entry-index c.entry-item.result new c.loop-entry-test.true c.entry-item.is c.loop-entry.invariant refl (sym c.in-Ok.ensures))
