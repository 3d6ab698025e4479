-- The discrete value in the unit of states.
use Rattle.qss_devs.proofs.Common
use Common.{ℕ, ℤ, ◌*ℤ◌, ◌-◌, ◌<◌, ◌∙◌, ◌≡◌, ap, arith, discrete_count, FitsSigned, if◌then◌else◌}
use Common.{int_at, IsWithin, length, level_unit, nat_lt, start_values, subst, sym, to_z-of_z}
use Common.{Values, w128, w64}
use Rattle.qss_devs.proofs.Begun.{start_each, discrete_small}
use Rattle.qss_devs.proofs.coupled_start.start_discrete.Goals as goal

pub start_own_place-own-requires : goal.start_own_place-own-requires
start_own_place-own-requires c = omega (arith, c.requires.known, ap length c.as_slice.ensures)

pub discrete-value-requires : goal.discrete-value-requires
discrete-value-requires c =
    omega (arith, c.start_own_place-own.ensures.inside, ap length c.as_slice.ensures, ap (λ (v : Values). length v.discretes) c.requires.values, (start_each c.args.m.now).discretes)

pub scale_discrete_value-requires : goal.scale_discrete_value-requires
scale_discrete_value-requires c = record {
  value =
      let m = c.args.m.now in
      let inside : c.start_own_place-own.result < discrete_count m = omega (arith, c.start_own_place-own.ensures.inside, ap length c.as_slice.ensures) in
      let value : c.discrete-value.result ≡ int_at (start_values m).discretes c.start_own_place-own.result = c.discrete-value.ensures ∙ ap (λ (v : Values). int_at v.discretes c.start_own_place-own.result) c.requires.values in
      let fits : FitsSigned w64 c.discrete-value.result = record { sfits = c.discrete-value.type_inv } in
      rw (to_z-of_z w64 c.discrete-value.result fits) (subst (IsWithin 43) (sym value) (discrete_small m c.start_own_place-own.result inside));
  unit = omega (arith, c.args.m.now.has_units.unit_bits);
}

pub returns : goal.returns
returns c =
    let m = c.args.m.now in
    let count : length c.as_slice.result.now ≡ discrete_count m = ap length c.as_slice.ensures in
    let value : c.discrete-value.result ≡ int_at (start_values m).discretes c.start_own_place-own.result = c.discrete-value.ensures ∙ ap (λ (v : Values). int_at v.discretes c.start_own_place-own.result) c.requires.values in
    let fits : FitsSigned w64 c.discrete-value.result = record { sfits = c.discrete-value.type_inv } in
    let wide : FitsSigned w128 c.scale_discrete_value.result = record { sfits = c.scale_discrete_value.type_inv } in
    to_z-of_z w128 c.scale_discrete_value.result wide
    ∙ c.scale_discrete_value.ensures.value
    ∙ ap (λ (z : ℤ). z *ℤ level_unit m) (to_z-of_z w64 c.discrete-value.result fits ∙ value)
    ∙ ap (λ (g : ℕ). int_at (start_values m).discretes g *ℤ level_unit m) (c.start_own_place-own.ensures.own ∙ ap (λ (n : ℕ). if nat_lt c.args.place n then c.args.place else c.args.place - n) count)
