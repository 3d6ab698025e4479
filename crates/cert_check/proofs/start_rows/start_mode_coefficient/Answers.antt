use Rattle.cert_check.proofs.Common
use Common.{ℤ, ◌+ℤ◌, ◌+◌, ◌^◌, ◌∙◌, ◌≡◌, ◌≤◌, ap, ap₂, arith, Machine, of_z, pos, subst, sym, to_z}
use Rattle.std.proofs.Math.Pow.{pow_mono}
use Rattle.std.proofs.lemmas.Int.{to_z-of_z}
use Rattle.std.specs.Int.RustNames.{unsigned_abs, FitsSigned}
use Rattle.mu_num.specs.Rounding.{nearest_of}
use Rattle.mu_num.proofs.Quotients.{nearest_bound, nearest_meets}
use Rattle.qss_machine.proofs.Loops.{two_fit, two_sum}
use Rattle.qss_machine.proofs.Powers.{power_positive}
use Rattle.cert_check.proofs.StartRows.{few-entries}
use mir.Syntax.{w128}
use Rattle.cert_check.proofs.start_rows.start_mode_coefficient.Goals as goal

-- the limit of a rounded sum of products
abbrev IsRounded : ℤ → Type 0
IsRounded z = unsigned_abs z ≤ 2 ^ 111 + 2 ^ 24

rounded-small : (m : Machine) (sum : ℤ) → unsigned_abs sum ≤ 2 ^ 111 →
    IsRounded (nearest_of sum (pos (2 ^ m.f)))
rounded-small m sum small =
    let unit = pos (2 ^ m.f) in
    let positive = power_positive m.f in
    let one_unit : 2 ^ m.f ≤ 2 ^ 24 = pow_mono m.has_units.level_bits in
    let meets = nearest_meets sum unit positive in
    let near = nearest_bound sum unit (nearest_of sum unit) positive meets in
    omega (arith, near, small, one_unit)

pub entry_coefficient-own-requires : goal.entry_coefficient-own-requires
entry_coefficient-own-requires c =
    let few = few-entries c.args.m.now c.args.row.now c.requires in
    rw c.as_slice.ensures (record { count_limit = omega (arith, few) })

-- what the rounding returns, by the values that it is called with
rounded-is : (m : Machine) (sum unit rounded : ℤ) → FitsSigned w128 sum → FitsSigned w128 unit →
    unit ≡ pos (2 ^ m.f) →
    rounded ≡ nearest_of (to_z w128 (of_z w128 sum)) (to_z w128 (of_z w128 unit)) →
    rounded ≡ nearest_of sum (pos (2 ^ m.f))
rounded-is m sum unit rounded sum_fits unit_fits one is =
    rw (to_z-of_z w128 sum sum_fits, to_z-of_z w128 unit unit_fits, one) at is

pub overflow_add-result : goal.overflow_add-result
overflow_add-result c =
    let m : Machine = c.args.m.now in
    let sum : ℤ = c.sum_start_products-products.result in
    let sum_fits : FitsSigned w128 sum =
    record { sfits = c.sum_start_products-products.type_inv } in
    let unit_fits : FitsSigned w128 c.unit.result = record { sfits = c.unit.type_inv } in
    let rounded = rounded-is m sum c.unit.result c.near_div.result sum_fits unit_fits c.unit.ensures
    c.near_div.ensures.value in
    let small = subst IsRounded (sym rounded)
    (rounded-small m sum c.sum_start_products-products.ensures.bound) in
    two_fit c.entry_coefficient-own.result c.near_div.result (2 ^ 95) (2 ^ 111 + 2 ^ 24)
    c.entry_coefficient-own.ensures.bound small (omega arith)

pub returns : goal.returns
returns c =
    let m : Machine = c.args.m.now in
    let sum : ℤ = c.sum_start_products-products.result in
    let sum_fits : FitsSigned w128 sum =
    record { sfits = c.sum_start_products-products.type_inv } in
    let unit_fits : FitsSigned w128 c.unit.result = record { sfits = c.unit.type_inv } in
    let rounded = rounded-is m sum c.unit.result c.near_div.result sum_fits unit_fits c.unit.ensures
    c.near_div.ensures.value in
    let small = subst IsRounded (sym rounded)
    (rounded-small m sum c.sum_start_products-products.ensures.bound) in
    let own = rw c.as_slice.ensures at c.entry_coefficient-own.ensures.value in
    two_sum c.entry_coefficient-own.result c.near_div.result (2 ^ 95) (2 ^ 111 + 2 ^ 24)
    c.entry_coefficient-own.ensures.bound small (omega arith)
    ∙ ap₂ (λ (a b : ℤ). a +ℤ b) own
    (rounded ∙ ap (λ z. nearest_of z (pos (2 ^ m.f))) c.sum_start_products-products.ensures.value)
