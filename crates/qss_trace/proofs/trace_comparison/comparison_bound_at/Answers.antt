use Rattle.qss_trace.proofs.Common
use Common.{ℤ, ◌*ℤ◌, ◌∙◌, ◌≡◌, ap, ap₂, both_units, bound_of, FitsSigned, of_z, pos, refl, rules}
use Common.{to_z, to_z-of_z, w128}
use Rattle.qss_trace.proofs.Turns.{if-some-map}
use Rattle.qss_trace.proofs.trace_comparison.comparison_bound_at.Goals as goal

pub returns-clause-in_range : goal.returns-clause-in_range
returns-clause-in_range c =
    let f1 : FitsSigned w128 c.from.result = search rules in
    let f2 : FitsSigned w128 c.from-2.result = search rules in
    let s : FitsSigned w128 c.in_ok-scales.scales = search rules in
    let u : FitsSigned w128 c.in_ok-unit.unit = search rules in
    let q : FitsSigned w128 c.in_ok-square.square = search rules in
    let fc : FitsSigned w128 c.args.c = c.ranges.c in
    let fk : FitsSigned w128 c.args.k = c.ranges.k in
    let scales-is : c.in_ok-scales.scales ≡ pos c.args.t1.now.scale *ℤ pos c.args.t2.now.scale =
    (simp to_z-of_z at c.in_ok-scales.ensures.value) ∙ ap₂ (λ (x y : ℤ). x *ℤ y) c.from.ensures c.from-2.ensures in
    let unit-is : c.in_ok-unit.unit ≡ both_units c.args.t1.now c.args.t2.now c.args.k =
    (simp to_z-of_z at c.in_ok-unit.ensures.value) ∙ ap (λ (x : ℤ). x *ℤ c.args.k) scales-is in
    let square-is : c.in_ok-square.square ≡ both_units c.args.t1.now c.args.t2.now c.args.k *ℤ both_units c.args.t1.now c.args.t2.now c.args.k =
    (simp to_z-of_z at c.in_ok-square.ensures.value) ∙ ap (λ (x : ℤ). x *ℤ x) unit-is in
    let whole = rw square-is at (simp to_z-of_z at c.multiply_comparison_terms-4.ensures.in_range) in (
      λ some. record {
        scales = rw (c.from.ensures, c.from-2.ensures) at ((simp to_z-of_z at c.in_ok-scales.ensures.in_range).0 refl);
        unit = rw scales-is at ((simp to_z-of_z at c.in_ok-unit.ensures.in_range).0 refl);
        square = rw unit-is at ((simp to_z-of_z at c.in_ok-square.ensures.in_range).0 refl);
        whole = whole.0 some;
      },
      λ r. whole.1 r.whole,
    )

pub returns-clause-value : goal.returns-clause-value
returns-clause-value c =
    let f1 : FitsSigned w128 c.from.result = search rules in
    let f2 : FitsSigned w128 c.from-2.result = search rules in
    let s : FitsSigned w128 c.in_ok-scales.scales = search rules in
    let u : FitsSigned w128 c.in_ok-unit.unit = search rules in
    let q : FitsSigned w128 c.in_ok-square.square = search rules in
    let fc : FitsSigned w128 c.args.c = c.ranges.c in
    let fk : FitsSigned w128 c.args.k = c.ranges.k in
    let scales-is : c.in_ok-scales.scales ≡ pos c.args.t1.now.scale *ℤ pos c.args.t2.now.scale =
    (simp to_z-of_z at c.in_ok-scales.ensures.value) ∙ ap₂ (λ (x y : ℤ). x *ℤ y) c.from.ensures c.from-2.ensures in
    let unit-is : c.in_ok-unit.unit ≡ both_units c.args.t1.now c.args.t2.now c.args.k =
    (simp to_z-of_z at c.in_ok-unit.ensures.value) ∙ ap (λ (x : ℤ). x *ℤ c.args.k) scales-is in
    let square-is : c.in_ok-square.square ≡ both_units c.args.t1.now c.args.t2.now c.args.k *ℤ both_units c.args.t1.now c.args.t2.now c.args.k =
    (simp to_z-of_z at c.in_ok-square.ensures.value) ∙ ap (λ (x : ℤ). x *ℤ x) unit-is in
    if-some-map c.multiply_comparison_terms-4.result (λ (x : ℤ). x ≡ to_z w128 (of_z w128 c.in_ok-square.square) *ℤ to_z w128 (of_z w128 c.args.c))
    (λ (x : ℤ). x ≡ bound_of c.args.c c.args.k c.args.t1.now c.args.t2.now)
    (λ x e. e ∙ rw (to_z-of_z q, to_z-of_z fc) (ap (λ (z : ℤ). z *ℤ c.args.c) square-is)) c.multiply_comparison_terms-4.ensures.value
