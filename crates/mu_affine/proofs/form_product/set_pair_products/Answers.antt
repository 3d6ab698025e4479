use Rattle.mu_affine.proofs.Settings.{state_set, table_failed}
use Rattle.mu_affine.proofs.form_product.set_pair_products.Goals as goal

pub returns-in-Err : goal.returns-in-Err
returns-in-Err c =
    let failed = rw c.in-Err.is at c.in_ok-set_scaled_pairs.ensures in
    table_failed c.args.states.now c.args.discretes.now c.loop-state.state-index c.state-item.result c.in-Err.fault c.loop-state-test.true c.state-item.is failed

pub loop-state-preserved : goal.loop-state-preserved
loop-state-preserved c =
    let set = rw c.in-Ok.is at c.in_ok-set_scaled_pairs.ensures in
    state_set c.args.row.now.entries c.loop-state.row.entries c.set_scaled_pairs.new.row.entries c.args.states.now c.args.discretes.now c.loop-state.state-index c.state-item.result c.requires.states c.loop-state-test.true c.state-item.is c.loop-state.invariant set
