-- Each iteration adds the multiple of one entry.
use Rattle.qss_order2.proofs.Common
use Common.{ℤ, ◌*ℤ◌, ◌+ℤ◌, ◌<◌, ◌∙◌, ◌≡◌, ap, arith, coefficient_of, Entry, FitsSigned, get_or}
use Common.{int_at, int_wrap, length, length-set, List, of_z, refl, rules, sym, take, take_all}
use Common.{to_z, to_z-of_z, w128, w64}
use Rattle.qss_order2.proofs.ColumnSums.{entry_0, multiple_none, multiple_more}
use Rattle.qss_order2.proofs.fixed_machine.add_fixed_column_multiple.Goals as goal

pub loop-entry-init : goal.loop-entry-init
loop-entry-init c = record {
  as_many = refl;
  so_far =
      λ i z h is. multiple_none (to_z w128 (of_z w128 c.args.factor)) _ z i is;
}

pub loop-entry-preserved : goal.loop-entry-preserved
loop-entry-preserved c =
    let a = c.args in
    let k = c.loop-entry.entry-index in
    let now : List ℤ = c.loop-entry.sums in
    let inv = c.loop-entry.invariant in
    let h : k < length a.column.now = c.loop-entry-test.true in
    let e : Entry = get_or a.column.now k entry_0 in
    let inside : e.var < length now = omega (arith, c.requires k entry_0 h, inv.as_many) in
    let of_factor : FitsSigned w128 a.factor = c.ranges.factor in
    let of_old : FitsSigned w128 (int_at now e.var) = search rules in
    let of_coef : FitsSigned w64 e.coef = search rules in
    let of_part : FitsSigned w128 c.fixed_column_multiple.result = record { sfits = c.fixed_column_multiple.type_inv } in
    let of_sum : FitsSigned w128 c.fixed_column_sum.result = record { sfits = c.fixed_column_sum.type_inv } in
    let part : c.fixed_column_multiple.result ≡ int_wrap w128 (e.coef *ℤ a.factor) =
    simp to_z-of_z at c.fixed_column_multiple.ensures in
    let sum : c.fixed_column_sum.result ≡ int_wrap w128 (int_at now e.var +ℤ
    c.fixed_column_multiple.result) =
    simp to_z-of_z at c.fixed_column_sum.ensures in
    let factor : ℤ = to_z w128 (of_z w128 a.factor) in
    let is : to_z w128 (of_z w128 c.fixed_column_sum.result) ≡ int_wrap w128
    (int_at now e.var +ℤ int_wrap w128 (e.coef *ℤ factor)) =
    to_z-of_z w128 c.fixed_column_sum.result of_sum ∙ sum
    ∙ ap (λ (p : ℤ). int_wrap w128 (int_at now e.var +ℤ p)) (part
    ∙ ap (λ (y : ℤ). int_wrap w128 (e.coef *ℤ y)) (sym (to_z-of_z w128 a.factor of_factor))) in
    record {
      as_many = length-set now e.var _ ∙ inv.as_many;
      so_far = λ i z low before. multiple_more a.column.now k factor now
          (to_z w128 (of_z w128 c.fixed_column_sum.result)) i z h inside is (inv.so_far i z low
          before);
    }

pub returns : goal.returns
returns c i z h is =
    let factor : ℤ = to_z w128 (of_z w128 c.args.factor) in
    let all : coefficient_of (take c.loop-entry.entry-index c.args.column.now) i ≡ coefficient_of
    c.args.column.now i = ap (λ (l : List Entry). coefficient_of l i)
    (take_all c.loop-entry.entry-index c.args.column.now c.loop-entry-test.false) in
    c.loop-entry.invariant.so_far i z h is ∙ ap (λ (y : ℤ). int_wrap w128 (z +ℤ y *ℤ factor)) all
    ∙ ap (λ (y : ℤ). int_wrap w128 (z +ℤ coefficient_of c.args.column.now i *ℤ y))
    (to_z-of_z w128 c.args.factor c.ranges.factor)
