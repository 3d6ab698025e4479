-- The value in its unit.
use Rattle.qss_hand.proofs.Common
use Common.{ℕ, ℤ, ◌∙◌, ◌≡◌, ap, FitsSigned, Form, List, Machine, pos, to_z-of_z, Values}
use Rattle.std.proofs.Common.{◌^◌}
use Rattle.mu_num.specs.Rounding.{nearest_of}
use Rattle.qss_machine.specs.Machines.{value_of}
use Rattle.qss_machine.proofs.Powers.{power_positive}
use mir.Syntax.{w128}
use Rattle.qss_hand.proofs.handler_statements.assigned.Goals as goal

value_by : (m : Machine) (form : Form) (w : Values) (x d pre : List ℤ) (tick : ℕ) → x ≡ w.x → d ≡ w.d → pre ≡ w.pre → tick ≡ w.tick →
    value_of m form x d pre tick ≡ value_of m form w.x w.d w.pre w.tick
value_by m form w x d pre tick a b c e =
    ap (λ y. value_of m form y d pre tick) a
    ∙ ap (λ y. value_of m form w.x y pre tick) b
    ∙ ap (λ y. value_of m form w.x w.d y tick) c
    ∙ ap (value_of m form w.x w.d w.pre) e

pub near_div-requires : goal.near_div-requires
near_div-requires c =
    let unit_fits : FitsSigned w128 c.unit.result = record { sfits = c.unit.type_inv } in
    rw (to_z-of_z w128 c.unit.result unit_fits, c.unit.ensures) (power_positive c.args.bits)

pub returns : goal.returns
returns c =
    let unit_fits : FitsSigned w128 c.unit.result = record { sfits = c.unit.type_inv } in
    let value_fits : FitsSigned w128 c.form_value-value.result = record { sfits = c.form_value-value.type_inv } in
    let fits : FitsSigned w128 c.near_div.result = record { sfits = c.near_div.type_inv } in
    let w : Values = c.args.w.now in
    let value = value_by c.args.m.now c.args.form.now w c.as_slice.result.now c.as_slice-2.result.now c.as_slice-3.result.now c.w.inside.tick
    (c.as_slice.ensures.value ∙ ap (λ (v : Values). v.x) c.w.view_is) (c.as_slice-2.ensures.value ∙ ap (λ (v : Values). v.d) c.w.view_is)
    (c.as_slice-3.ensures.value ∙ ap (λ (v : Values). v.pre) c.w.view_is) (ap (λ (v : Values). v.tick) c.w.view_is) in
    let near = rw (to_z-of_z w128 c.form_value-value.result value_fits, to_z-of_z w128 c.unit.result unit_fits) at c.near_div.ensures.value in
    to_z-of_z w128 c.near_div.result fits ∙ near
    ∙ ap (nearest_of c.form_value-value.result) c.unit.ensures
    ∙ ap (λ z. nearest_of z (pos (2 ^ c.args.bits))) (c.form_value-value.ensures.value ∙ value)
