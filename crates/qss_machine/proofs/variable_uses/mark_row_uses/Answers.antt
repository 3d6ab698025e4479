use Rattle.qss_machine.proofs.Common
use Common.{◌==◌, ◌||◌, ◌∙◌, ap, Entry, has_entry, List, list_any, Product, sym}
use Rattle.qss_machine.proofs.Marking.{marks_more}
use Rattle.qss_machine.proofs.variable_uses.mark_row_uses.Goals as goal

pub returns : goal.returns
returns c =
    marks_more _ _ _ _ _ _ _
    (λ v.
    ap (λ (entries : List Entry). has_entry v entries || list_any (λ (product : Product). product.state == v || product.discrete == v) c.args.row.now.products) (sym c.as_slice.ensures)
    ∙ ap (λ (products : List Product). has_entry v c.as_slice.result.now || list_any (λ (product : Product). product.state == v || product.discrete == v) products) (sym c.as_slice-2.ensures))
    c.in_ok-mark_entry_uses.ensures c.in_ok-mark_product_uses.ensures
