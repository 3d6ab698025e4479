-- The slopes of the rows that read an assigned variable, and those of the others.
use Rattle.qss_states.proofs.Common
use Common.{ℕ, ◌∙◌, ◌≡◌, among_readers, ap, cases_Bool, fill_by_all, flat_map, inl, inr, int_at}
use Common.{int_at-tabulate, is_listed, length, length-map-range_with_len, pos, reading_rows}
use Common.{slope_at, state_count, sym}
use Rattle.qss_states.proofs.Assigned.{slope_stays}
use Rattle.qss_states.proofs.Shifting.{at_before, levels_after}
use Rattle.qss_states.proofs.slope_updates.update_slopes_from_handlers.Goals as goal

pub update_sums_of_slopes-requires : goal.update_sums_of_slopes-requires
update_sums_of_slopes-requires c = record { new = at_before c.requires.allowed; many_lines = c.requires.allowed.many_lines; before = c.requires.before }

pub update_slopes_from_readers-requires-clause-variables : goal.update_slopes_from_readers-requires-clause-variables
update_slopes_from_readers-requires-clause-variables c i d h = (c.requires.allowed.handled.assigned.known i d h).1

pub update_slopes_from_readers-requires-clause-allowed : goal.update_slopes_from_readers-requires-clause-allowed
update_slopes_from_readers-requires-clause-allowed c = record {
  of = record {
    values = levels_after c.requires.allowed;
    one_each = ap length c.update_sums_of_slopes.ensures
        ∙ length-map-range_with_len (λ j. slope_at c.args.at.now.machine.now j c.args.at.now.levels.now c.args.handled.now.before.now) 0 (state_count c.args.at.now.machine.now);
  };
  light = c.requires.light;
}

pub returns : goal.returns
returns c =
    let m = c.args.at.now.machine.now in
    let n : ℕ = state_count m in
    let levels = c.args.at.now.levels.now in
    let many : length c.update_sums_of_slopes.new.slopes ≡ n = ap length c.update_sums_of_slopes.ensures ∙ length-map-range_with_len (λ j. slope_at m j levels c.args.handled.now.before.now) 0 n in
    fill_by_all (λ j. slope_at m j levels c.args.handled.now.discretes.now) c.update_slopes_from_readers.new.slopes n (pos 0) (c.update_slopes_from_readers.ensures.as_many ∙ many)
    (λ j h. elim (cases_Bool (is_listed (flat_map (reading_rows m) c.args.handled.now.assigned.now) j)) [
      | inl reads ↦ c.update_slopes_from_readers.ensures.each j reads
      | inr none ↦
          c.update_slopes_from_readers.ensures.others j none
          ∙ ap (λ xs. int_at xs j) c.update_sums_of_slopes.ensures
          ∙ int_at-tabulate n (λ k. slope_at m k levels c.args.handled.now.before.now) j h
          ∙ sym (slope_stays m levels c.args.handled.now.before.now c.args.handled.now.discretes.now c.args.handled.now.assigned.now c.requires.allowed.new.levels c.requires.allowed.handled.many_before c.requires.allowed.handled.values.discretes c.requires.allowed.handled.assigned.others j h
          (sym (among_readers m j h c.args.handled.now.assigned.now) ∙ none))
    ])
