use Rattle.mu_affine.proofs.Common.{named, nat_cmp}
use Rattle.mu_affine.proofs.RowForms.{JoinsAll-none, entry_joined, entry_failed, nat_order}
use Rattle.mu_affine.proofs.form_sum.add_coefficients.Goals as goal

pub loop-entry-init : goal.loop-entry-init
loop-entry-init c = JoinsAll-none nat_cmp c.args.minus c.args.row.now.entries c.requires.reduced

pub returns-in-Err : goal.returns-in-Err
returns-in-Err c =
    let answered = c.in_ok-add_to_coefficient.ensures in
    let failed = rw c.in-Err.is at answered in
    entry_failed nat_cmp named c.args.minus c.args.row.now.entries c.loop-entry.row.entries c.args.entries.now c.loop-entry.entry-index c.entry-item.result c.in-Err.fault nat_order c.requires.rising c.requires.reduced c.loop-entry-test.true c.entry-item.is c.loop-entry.invariant failed

pub loop-entry-preserved : goal.loop-entry-preserved
loop-entry-preserved c =
    let answered = c.in_ok-add_to_coefficient.ensures in
    let added = rw c.in-Ok.is at answered in
    entry_joined nat_cmp named c.args.minus c.args.row.now.entries c.loop-entry.row.entries c.add_to_coefficient.new.row.entries c.args.entries.now c.loop-entry.entry-index c.entry-item.result added.0 nat_order c.requires.rising c.requires.reduced c.loop-entry-test.true c.entry-item.is c.loop-entry.invariant added.1 added.2
