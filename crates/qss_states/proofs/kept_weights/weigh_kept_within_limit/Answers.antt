-- One more row that exceeds no limit, or the first one that does.
use Rattle.qss_states.proofs.Common
use Common.{ℕ, ℤ, ◌<◌, ◌∙◌, ◌≡◌, arith, below_more, exceeds, exceeds_row_limits, false, fill_by_all}
use Common.{first_is, FitsSigned, get_or-set_other, get_or-set_same, int_at, length, length-set}
use Common.{mode_fits, no_row, of_z, pos, position-none, row_at, set, state_count, sym, to_z}
use Common.{to_z-of_z, true, w128, weight_at}
use Rattle.qss_states.proofs.Weighed.{by_modes, weight_kept}
use Rattle.qss_states.proofs.kept_weights.weigh_kept_within_limit.Goals as goal

pub returns-then-exceeds_power_of_two : goal.returns-then-exceeds_power_of_two
returns-then-exceeds_power_of_two c =
    let m = c.args.m.now in
    let row : ℕ = c.loop-row.row in
    let levels = c.args.levels.now in
    let d = c.args.d.now in
    let known : row < state_count m = omega (arith, c.loop-row-test.true, c.loop-row.invariant.as_many) in
    let inside : row < length m.rows = omega (arith, known, m.has_rows.one_each) in
    let fits : FitsSigned w128 c.weigh_kept_row-weight.result = record { sfits = c.weigh_kept_row-weight.type_inv } in
    let past = rw (to_z-of_z w128 c.weigh_kept_row-weight.result fits) at c.exceeds_power_of_two.ensures in
    let here : exceeds_row_limits m levels d (row_at m row) ≡ true =
    sym (by_modes (mode_fits m.f (state_count m) (row_at m row) d) c.weigh_kept_row-weight.result (weight_at m row levels d) c.weigh_kept_row-weight.ensures) ∙ sym past ∙ c.if-exceeds_power_of_two.true in
    record {
      overflow = sym (first_is no_row (exceeds_row_limits m levels d) m.rows row inside c.loop-row.invariant.light here);
      weights = λ e. absurd (cc);
    }

pub loop-row-preserved : goal.loop-row-preserved
loop-row-preserved c =
    let m = c.args.m.now in
    let row : ℕ = c.loop-row.row in
    let levels = c.args.levels.now in
    let d = c.args.d.now in
    let inside : row < length c.loop-row.weights = omega (arith, c.loop-row-test.true) in
    let fits : FitsSigned w128 c.weigh_kept_row-weight.result = record { sfits = c.weigh_kept_row-weight.type_inv } in
    let weight : ℤ = c.weigh_kept_row-weight.result in
    let past = rw (to_z-of_z w128 c.weigh_kept_row-weight.result fits) at c.exceeds_power_of_two.ensures in
    let below : exceeds 88 weight ≡ false = sym past ∙ c.if-exceeds_power_of_two.false in
    let light : exceeds_row_limits m levels d (row_at m row) ≡ false =
    sym (by_modes (mode_fits m.f (state_count m) (row_at m row) d) weight (weight_at m row levels d) c.weigh_kept_row-weight.ensures) ∙ below in
    let own : weight ≡ weight_at m row levels d = weight_kept (mode_fits m.f (state_count m) (row_at m row) d) weight (weight_at m row levels d) c.weigh_kept_row-weight.ensures below in
    record {
      own = below_more (λ k. int_at (set c.loop-row.weights row (to_z w128 (of_z w128 weight))) k ≡ weight_at m k levels d) row
          (λ k less. get_or-set_other c.loop-row.weights row k _ (pos 0) (λ same. omega (arith, less, same)) ∙ c.loop-row.invariant.own k less)
          (get_or-set_same c.loop-row.weights row _ (pos 0) inside ∙ to_z-of_z w128 weight fits ∙ own);
      light = below_more (λ k. exceeds_row_limits m levels d (row_at m k) ≡ false) row c.loop-row.invariant.light light;
      as_many = length-set c.loop-row.weights row _ ∙ c.loop-row.invariant.as_many;
    }

pub returns : goal.returns
returns c =
    let m = c.args.m.now in
    let all : state_count m ≡ c.loop-row.row = omega (arith, c.loop-row-test.false, c.loop-row.invariant.as_many) in
    record {
      overflow = sym (position-none no_row (exceeds_row_limits m c.args.levels.now c.args.d.now) m.rows
          (λ k h. c.loop-row.invariant.light k (omega (arith, h, c.loop-row-test.false, c.loop-row.invariant.as_many, m.has_rows.one_each))));
      weights = λ e.
          fill_by_all (λ j. weight_at m j c.args.levels.now c.args.d.now) c.loop-row.weights (state_count m) (pos 0) c.loop-row.invariant.as_many
          (λ j h. c.loop-row.invariant.own j (omega (arith, h, c.loop-row-test.false, c.loop-row.invariant.as_many)));
    }
