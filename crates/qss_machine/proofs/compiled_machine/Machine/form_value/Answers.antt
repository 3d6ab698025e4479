use Rattle.qss_machine.proofs.Common
use Common.{◌*ℤ◌, ◌*◌, ◌+ℤ◌, ◌+◌, ◌^◌, ◌∙◌, ◌≤◌, ap, arith, Entry, FitsSigned, ints, pos, sum_by}
use Common.{to_z-of_z, unsigned_abs, w128, w64, weighted_sum}
use Rattle.qss_machine.specs.Machines.{inputs}
use Rattle.qss_machine.proofs.compiled_machine.Machine.form_value.Goals as goal

pub add_form_parts-requires : goal.add_form_parts-requires
add_form_parts-requires c =
    let form = c.args.form.now in
    let coefficients : sum_by (λ (entry : Entry). unsigned_abs entry.coef) form.entries + unsigned_abs form.time ≤ 2 ^ 38 = c.requires.form.coefficients in
    let gamma_small : unsigned_abs form.gamma ≤ 2 ^ 78 = c.requires.form.constant in
    let time_fits : FitsSigned w64 form.time = omega (arith, ints) in
    let gamma_fits : FitsSigned w128 form.gamma = omega (arith, ints) in
    let own : FitsSigned w128 c.sum_form_entries-own.result = record { sfits = c.sum_form_entries-own.type_inv } in
    let time : FitsSigned w128 c.form_time_part-time.result = record { sfits = c.form_time_part-time.type_inv } in
    let constant : FitsSigned w128 c.form_constant_part-constant.result = record { sfits = c.form_constant_part-constant.type_inv } in
    let own_bound = rw c.as_slice.ensures at c.sum_form_entries-own.ensures.bound in
    let time_bound = rw (to_z-of_z w64 form.time time_fits) at c.form_time_part-time.ensures.bound in
    let constant_bound : unsigned_abs c.form_constant_part-constant.result ≤ 2 ^ 122 = c.form_constant_part-constant.ensures.bound in
    rw (to_z-of_z w128 c.sum_form_entries-own.result own, to_z-of_z w128 c.form_time_part-time.result time, to_z-of_z w128 c.form_constant_part-constant.result constant)
    (omega (arith, own_bound, time_bound, constant_bound, coefficients))

pub returns-clause-value : goal.returns-clause-value
returns-clause-value c =
    let form = c.args.form.now in
    let coefficients : sum_by (λ (entry : Entry). unsigned_abs entry.coef) form.entries + unsigned_abs form.time ≤ 2 ^ 38 = c.requires.form.coefficients in
    let gamma_small : unsigned_abs form.gamma ≤ 2 ^ 78 = c.requires.form.constant in
    let time_fits : FitsSigned w64 form.time = omega (arith, ints) in
    let gamma_fits : FitsSigned w128 form.gamma = omega (arith, ints) in
    let own : FitsSigned w128 c.sum_form_entries-own.result = record { sfits = c.sum_form_entries-own.type_inv } in
    let time : FitsSigned w128 c.form_time_part-time.result = record { sfits = c.form_time_part-time.type_inv } in
    let constant : FitsSigned w128 c.form_constant_part-constant.result = record { sfits = c.form_constant_part-constant.type_inv } in
    let sum_fits : FitsSigned w128 c.add_form_parts.result = record { sfits = c.add_form_parts.type_inv } in
    let sum = rw (to_z-of_z w128 c.sum_form_entries-own.result own, to_z-of_z w128 c.form_time_part-time.result time, to_z-of_z w128 c.form_constant_part-constant.result constant) at c.add_form_parts.ensures in
    let own_value = rw c.as_slice.ensures at c.sum_form_entries-own.ensures.value in
    let time_value = rw (to_z-of_z w64 form.time time_fits) at c.form_time_part-time.ensures.value in
    let constant_value = rw (to_z-of_z w128 form.gamma gamma_fits) at c.form_constant_part-constant.ensures.value in
    to_z-of_z w128 c.add_form_parts.result sum_fits ∙ sum
    ∙ ap (λ z. z +ℤ c.form_time_part-time.result +ℤ c.form_constant_part-constant.result) own_value
    ∙ ap (λ z. weighted_sum form.entries (inputs c.args.self.now c.args.x.now c.args.d.now c.args.pre.now) +ℤ z +ℤ c.form_constant_part-constant.result) time_value
    ∙ ap (λ z. weighted_sum form.entries (inputs c.args.self.now c.args.x.now c.args.d.now c.args.pre.now) +ℤ form.time *ℤ pos (c.args.tick * 2 ^ (c.args.self.now.f + c.args.self.now.p)) +ℤ z) constant_value

pub returns-clause-bound : goal.returns-clause-bound
returns-clause-bound c =
    let form = c.args.form.now in
    let coefficients : sum_by (λ (entry : Entry). unsigned_abs entry.coef) form.entries + unsigned_abs form.time ≤ 2 ^ 38 = c.requires.form.coefficients in
    let gamma_small : unsigned_abs form.gamma ≤ 2 ^ 78 = c.requires.form.constant in
    let time_fits : FitsSigned w64 form.time = omega (arith, ints) in
    let gamma_fits : FitsSigned w128 form.gamma = omega (arith, ints) in
    let own : FitsSigned w128 c.sum_form_entries-own.result = record { sfits = c.sum_form_entries-own.type_inv } in
    let time : FitsSigned w128 c.form_time_part-time.result = record { sfits = c.form_time_part-time.type_inv } in
    let constant : FitsSigned w128 c.form_constant_part-constant.result = record { sfits = c.form_constant_part-constant.type_inv } in
    let own_bound = rw c.as_slice.ensures at c.sum_form_entries-own.ensures.bound in
    let time_bound = rw (to_z-of_z w64 form.time time_fits) at c.form_time_part-time.ensures.bound in
    let constant_bound : unsigned_abs c.form_constant_part-constant.result ≤ 2 ^ 122 = c.form_constant_part-constant.ensures.bound in
    let sum_fits : FitsSigned w128 c.add_form_parts.result = record { sfits = c.add_form_parts.type_inv } in
    let sum = rw (to_z-of_z w128 c.sum_form_entries-own.result own, to_z-of_z w128 c.form_time_part-time.result time, to_z-of_z w128 c.form_constant_part-constant.result constant) at c.add_form_parts.ensures in
    rw (to_z-of_z w128 c.add_form_parts.result sum_fits, sum)
    (omega (arith, ints, own_bound, time_bound, constant_bound, coefficients))
