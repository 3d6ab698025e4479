use Rattle.mu_affine.proofs.Common
use Common.{ℕ, ◌-◌, ◌<◌, ◌∙◌, arith, flat_equation, FlatEquation, get_or, get_or_default, length}
use Common.{length-set, refl, subst, sym}
use Rattle.mu_affine.proofs.Equations.{mapped_one, no_firsts, first_more}
use Rattle.mu_affine.proofs.normal_forms.first_normal_equations.Goals as goal

pub loop-place-init : goal.loop-place-init
loop-place-init c = record {
  within = omega arith;
  one_each = sym c.in_ok-firsts.firsts.ok.0 ∙ c.in_ok-firsts.ensures.len;
  firsts = no_firsts c.args.equations.now c.args.variables (length c.args.equations.now) c.in_ok-firsts.firsts.items (c.in_ok-firsts.ensures.items_if_clones_equal (λ y same. same)) refl;
}

pub index_mut-requires : goal.index_mut-requires
index_mut-requires c =
    let i : ℕ = c.loop-place.place - 1 in
    let e : FlatEquation = get_or c.args.equations.now i c.index-equations-place.result in
    let below : i < length c.args.equations.now = omega (arith, c.loop-place.invariant.within) in
    let target : e.target < c.args.variables = mapped_one flat_equation (λ t. t.target < c.args.variables) c.args.equations.now i e c.requires below (get_or_default c.args.equations.now i c.index-equations-place.result e below) in
    omega (arith, target, c.loop-place.invariant.one_each, c.loop-place.firsts.ok.0)

pub loop-place-preserved : goal.loop-place-preserved
loop-place-preserved c =
    let i : ℕ = c.loop-place.place - 1 in
    let e : FlatEquation = get_or c.args.equations.now i c.index-equations-place.result in
    let below : i < length c.args.equations.now = omega (arith, c.loop-place.invariant.within) in
    record {
      within = omega (arith, c.loop-place.invariant.within);
      one_each = length-set c.loop-place.firsts.items e.target i ∙ c.loop-place.invariant.one_each;
      firsts = λ v h. first_more c.args.equations.now i c.loop-place.place e c.loop-place.firsts.items (omega (arith, c.loop-place-test.true)) below (get_or_default c.args.equations.now i c.index-equations-place.result e below) c.loop-place.invariant.firsts v
          (subst (λ n. v < n) (length-set c.loop-place.firsts.items e.target i) h);
    }
