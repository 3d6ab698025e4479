-- Neither an entry nor a product is of a state before the next one.
use Rattle.qss_order2.proofs.Common
use Common.{◌<◌, ◌≡◌, ◌≤◌, All, arith, Entry, get_or, length, List, Product, SlopeRow, subst}
use Rattle.qss_order2.proofs.NextStates.{no_mode, none_before}
use Rattle.qss_order2.proofs.fixed_machine.next_fixed_state.Goals as goal

pub returns-clause-none : goal.returns-clause-none
returns-clause-none c =
    let m = c.args.m.now in
    let from = c.args.from in
    let next = c.min.result in
    let right_side : SlopeRow = c.index-as_slice-row.result in
    let is : right_side ≡ get_or m.rows c.args.row right_side =
    subst (λ (rows : List SlopeRow). right_side ≡ get_or rows c.args.row right_side)
    c.as_slice-2.ensures c.index-as_slice-row.is in
    let known : c.args.row < length m.rows = omega (arith, c.requires.row, m.has_rows.one_each) in
    let entries : All (λ (entry : Entry). from ≤ entry.var → c.next_fixed_entry-entry.result
    ≤ entry.var)
    right_side.entries =
    subst (λ (xs : List Entry). All (λ (entry : Entry). from ≤ entry.var →
    c.next_fixed_entry-entry.result ≤ entry.var) xs) c.as_slice-3.ensures
    c.next_fixed_entry-entry.ensures.none
    in
    let products : All (λ (product : Product). from ≤ product.state →
    c.next_fixed_product-product.result ≤ product.state) right_side.products =
    subst (λ (xs : List Product). All (λ (product : Product). from ≤ product.state →
    c.next_fixed_product-product.result ≤ product.state) xs) c.as_slice-4.ensures
    c.next_fixed_product-product.ensures.none in
    no_mode m c.args.row from next right_side known is
    (none_before (λ (entry : Entry). entry.var) right_side.entries from
    c.next_fixed_entry-entry.result
    next (omega (arith, c.min.ensures)) entries)
    (none_before (λ (product : Product). product.state) right_side.products from
    c.next_fixed_product-product.result next (omega (arith, c.min.ensures)) products)
