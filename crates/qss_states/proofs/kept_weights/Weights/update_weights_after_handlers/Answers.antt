-- While the moved levels and the assigned values stay within the bound, no row exceeds its limits.
use Rattle.qss_states.proofs.Common
use Common.{ℤ, ◌∙◌, ◌≡◌, ap, AreSmall, false, length, List, refl, sym, true, Weights}
use Rattle.qss_states.proofs.Kept.{levels_still, values_still, light_up_to, not_kept, kept_anew}
use Rattle.qss_states.proofs.Shifting.{levels_after}
use Rattle.qss_states.proofs.kept_weights.Weights.update_weights_after_handlers.Goals as goal

pub refresh_row_sums_after_handlers-requires-clause-before : goal.refresh_row_sums_after_handlers-requires-clause-before
refresh_row_sums_after_handlers-requires-clause-before c =
    let before = c.requires.before.1 in (
      c.requires.before.0,
      record {
        levels = before.levels;
        own_sums = c.as_mut_slice-of_rows.ensures.value ∙ before.own.own c.if-self.true;
      },
    )

pub weigh_kept_within_limit-requires : goal.weigh_kept_within_limit-requires
weigh_kept_within_limit-requires c = record {
  values = levels_after c.requires.allowed;
  one_each = ap length c.as_mut_slice-of_rows-2.ensures.value ∙ c.requires.before.1.own.as_many;
}

pub returns-then-self : goal.returns-then-self
returns-then-self c =
    let m = c.args.at.now.machine.now in
    let self : Weights = c.args.self.now in
    record {
      overflow = c.refresh_row_sums_after_handlers.ensures.overflow;
      weights = λ none.
          kept_anew m c.args.at.now.levels.now c.args.handled.now.discretes.now self c.refresh_row_sums_after_handlers.new.weights c.if-self.true c.requires.before.1.own.as_many
          (c.refresh_row_sums_after_handlers.auto.weights ∙ c.as_mut_slice-of_rows.ensures.len) (c.refresh_row_sums_after_handlers.ensures.weights none);
      stay = record { bound = refl; on = λ was. was };
      off = λ was levels_up_to values_up_to. was;
    }

pub returns-then-are_new_values_within : goal.returns-then-are_new_values_within
returns-then-are_new_values_within c =
    let m = c.args.at.now.machine.now in
    let self : Weights = c.args.self.now in
    let left = c.requires.allowed.handled in
    let levels : List ℤ = c.args.at.now.levels.now in
    let pre : List ℤ = c.args.handled.now.before.now in
    let d : List ℤ = c.args.handled.now.discretes.now in
    let old : List ℤ = c.requires.before.0 in
    let before = c.requires.before.1 in
    let off : self.kept ≡ false = c.if-self.false in
    let were = before.own.small off in
    let within = c.are_new_values_within.ensures.0 c.if-are_new_values_within.true in
    let are : AreSmall m self.bound levels d = record {
      safe = were.safe;
      small_levels = levels_still self.bound c.args.at.now.moved.now old levels before.levels.off were.small_levels within.0;
      small_discretes = values_still m self.bound c.args.handled.now.assigned.now pre d left.many_before left.values.discretes left.assigned.others were.small_discretes within.1;
    } in
    record {
      overflow = sym (light_up_to m self.bound levels d c.requires.allowed.new.levels left.values.discretes are);
      weights = λ none. not_kept m levels d self off before.own.as_many are;
      stay = record { bound = refl; on = λ was. was };
      off = λ was levels_up_to values_up_to. was;
    }

pub returns : goal.returns
returns c =
    let on : Weights = record c.args.self.now { kept = true } in
    record {
      overflow = c.weigh_kept_within_limit.ensures.overflow;
      weights = λ none.
          kept_anew c.args.at.now.machine.now c.args.at.now.levels.now c.args.handled.now.discretes.now on c.weigh_kept_within_limit.new.weights refl c.requires.before.1.own.as_many
          (c.weigh_kept_within_limit.auto.weights ∙ c.as_mut_slice-of_rows-2.ensures.len) (c.weigh_kept_within_limit.ensures.weights none);
      stay = record { bound = refl; on = λ was. refl };
      off = λ was levels_up_to values_up_to.
          absurd (let yes = c.are_new_values_within.ensures.1 (levels_up_to, values_up_to) in let no = c.if-are_new_values_within.false in cc);
    }
