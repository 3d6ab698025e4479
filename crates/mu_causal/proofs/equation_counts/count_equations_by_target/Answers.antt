-- An equation changes what its target has, and nothing else.
use Rattle.mu_causal.proofs.Common
use Common.{ℕ, ◌+◌, ◌<◌, ◌∙◌, ◌≡◌, ap, arith, cases_eq, flat_equation, FlatEquation, get_or}
use Common.{get_or-set_other, get_or-set_same, get_or_default, inl, inr, IsGiven, length, map}
use Common.{Never, numbers_from, set, subst, sym, take}
use Rattle.std.proofs.lemmas.List.{length-set}
use Rattle.mu_causal.proofs.Counting.{numbers_more, numbers_same}
use Rattle.mu_causal.proofs.equation_counts.count_equations_by_target.Goals.{then-target-count}
use Rattle.mu_causal.proofs.equation_counts.count_equations_by_target.Goals.{else-target-count}
use Rattle.mu_causal.proofs.equation_counts.count_equations_by_target.Goals as goal

pub loop-place-preserved : goal.loop-place-preserved
loop-place-preserved c =
    let equations = c.args.equations.now in
    let i = c.loop-place.place in
    let equation : FlatEquation = c.index-equations-place.result in
    let before = λ (v : ℕ). numbers_from 1 (map flat_equation (take i equations)) v in
    let after = λ (v : ℕ). numbers_from 1 (map flat_equation (take (i + 1) equations)) v in
    let there : get_or equations i equation ≡ equation = sym c.index-equations-place.is in
    let target : (get_or equations i equation).target ≡ equation.target = ap (λ (e : FlatEquation). e.target) there in
    elim c.if-target-count.branch [
      | then-target-count w ↦
          let known : equation.target < length c.loop-place.given.items = omega (arith, w.if-target-count.true, c.loop-place.invariant.all) in
          let old : get_or c.loop-place.given.items equation.target Never ≡ w.index.result.now = get_or_default c.loop-place.given.items equation.target Never w.index.result.now known ∙ sym w.index.ensures in
          let items = c.loop-place.given.items in
          let given = w.with_equation_count.result in
          rw w.given-is (record {
            all = length-set items equation.target given ∙ c.loop-place.invariant.all;
            each = λ v h. elim (cases_eq v equation.target) [
              | inl same ↦
                  let here : get_or (set items equation.target given) v Never ≡ given = ap (λ k. get_or (set items equation.target given) k Never) same ∙ get_or-set_same items equation.target given Never known in
                  let had : get_or items v Never ≡ w.index.result.now = ap (λ k. get_or items k Never) same ∙ old in
                  subst (λ g. IsGiven (after v) g) (sym here)
                  (subst (λ ns. IsGiven ns given) (sym (numbers_more equations i v equation c.loop-place-test.true (target ∙ sym same)))
                  (w.with_equation_count.ensures (before v) (subst (IsGiven (before v)) had (c.loop-place.invariant.each v h))))
              | inr other ↦
                  subst (λ g. IsGiven (after v) g) (sym (get_or-set_other items equation.target v given Never other))
                  (subst (λ ns. IsGiven ns (get_or items v Never)) (sym (numbers_same equations i v equation c.loop-place-test.true (λ e. other (sym e ∙ target))))
                  (c.loop-place.invariant.each v h))
            ];
          })
      | else-target-count w ↦ rw w.given-is (record {
        all = c.loop-place.invariant.all;
        each = λ v h. subst (λ ns. IsGiven ns (get_or c.loop-place.given.items v Never))
            (sym (numbers_same equations i v equation c.loop-place-test.true (λ e. omega (arith, w.if-target-count.false, target, e, h)))) (c.loop-place.invariant.each v h);
      })
    ]
