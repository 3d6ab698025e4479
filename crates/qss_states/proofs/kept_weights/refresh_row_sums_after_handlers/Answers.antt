-- A row that reads no moved state and no assigned variable is as light as before.
use Rattle.qss_states.proofs.Common
use Common.{[], ℕ, ℤ, ◌++◌, ◌+◌, ◌<◌, ◌∙◌, ◌≡◌, All, ap, arith, cases_Bool, discrete_count, exceeds}
use Common.{exceeds_row_limits, false, first_is, flat_map, get_or as slice_index_or, inl, inr}
use Common.{int_at, is_listed, IsLeastPast, length, length-map-range_with_len, List, Machine}
use Common.{no_row, None, Option, overflow_of, position, position-none, reading_rows, refl, row_at}
use Common.{rows_below, rows_kept_all, rows_many, Some, state_count, subst, sym, true, weight_at}
use Rattle.qss_states.specs.RowLimits.{comes_before}
use Rattle.qss_events.proofs.Firsts.{less_yes}
use Rattle.qss_states.proofs.Shifting.{at_before, levels_after}
use Rattle.qss_states.proofs.Weighed.{many_after, weighed_passes, others_light, all_weighed}
use Rattle.qss_states.proofs.kept_weights.refresh_row_sums_after_handlers.Goals.{After-weigh_kept_readers}
use Rattle.qss_states.proofs.kept_weights.refresh_row_sums_after_handlers.Goals as goal

-- nothing was looked at
least_none : (weights : List ℤ) → IsLeastPast weights [] None
least_none weights = record { past = λ row e. absurd (cc); none_before = λ row e before. absurd (cc) }

module _ (m : Machine) (levels discretes weights : List ℤ) (looked : List ℕ) (many : length weights ≡ state_count m)
    (same : (row : ℕ) → row < state_count m → exceeds 88 (int_at weights row) ≡ exceeds_row_limits m levels discretes (row_at m row))
    (others : (row : ℕ) → row < state_count m → is_listed looked row ≡ false → exceeds_row_limits m levels discretes (row_at m row) ≡ false) where
  none_before : (found : Option ℕ) → IsLeastPast weights looked found → (row : ℕ) → row < state_count m → comes_before found row ≡ true → exceeds_row_limits m levels discretes (row_at m row) ≡ false
  none_before found least row h before = elim (cases_Bool (is_listed looked row)) [
    | inl among ↦ sym (same row h) ∙ least.none_before row among before
    | inr none ↦ others row h none
  ]

  -- of all rows the least that exceeds its limits is the one that was found
  least_is : (found : Option ℕ) → IsLeastPast weights looked found → found ≡ position (exceeds_row_limits m levels discretes) m.rows
  least_is None least =
      sym (position-none no_row (exceeds_row_limits m levels discretes) m.rows (λ k h. let inside : k < state_count m = omega (arith, h, m.has_rows.one_each) in none_before None least k inside refl))
  least_is (Some row) least =
      let here = least.past row refl in
      let known : row < state_count m = omega (arith, here.0, many) in
      let inside : row < length m.rows = omega (arith, known, m.has_rows.one_each) in
      sym (first_is no_row (exceeds_row_limits m levels discretes) m.rows row inside
      (λ k below. let earlier : k < state_count m = omega (arith, known, below) in none_before (Some row) least k earlier (less_yes k row below)) (sym (same row known) ∙ here.1))

pub update_all_row_sums-requires : goal.update_all_row_sums-requires
update_all_row_sums-requires c = record { new = at_before c.requires.allowed; many_lines = c.requires.allowed.many_lines; before = c.requires.before }

pub weigh_kept_readers-requires-clause-allowed : goal.weigh_kept_readers-requires-clause-allowed
weigh_kept_readers-requires-clause-allowed c = record {
  values = levels_after c.requires.allowed;
  one_each = ap length c.update_all_row_sums.ensures
      ∙ length-map-range_with_len (λ j. weight_at c.args.at.now.machine.now j c.args.at.now.levels.now c.args.handled.now.before.now) 0 (state_count c.args.at.now.machine.now);
}

-- the rows that are listed for each variable
listed : (c : After-weigh_kept_readers) → (var : ℕ) → var < length c.args.at.now.uses.now.0 →
    All (λ row. row < length c.weigh_kept_readers.new.weights) (slice_index_or c.args.at.now.uses.now.0 var [])
listed c var h =
    let m = c.args.at.now.machine.now in
    let before = c.requires.before.1 in
    rows_below m c.args.at.now.uses.now c.requires.allowed.new.uses var (omega (arith, h, rows_many m c.args.at.now.uses.now c.requires.allowed.new.uses)) (length c.weigh_kept_readers.new.weights)
    (omega (
      arith,
      many_after m c.args.at.now.moved.now c.args.handled.now.assigned.now c.requires.before.0 c.args.at.now.levels.now c.args.handled.now.before.now c.args.handled.now.discretes.now c.update_all_row_sums.new.sums c.weigh_kept_readers.new.weights
          c.requires.allowed.new.levels c.requires.allowed.handled.many_before c.requires.allowed.handled.values.discretes c.requires.allowed.handled.assigned.others before.levels.off before.levels.of_lines.light c.update_all_row_sums.ensures c.weigh_kept_readers.ensures,
    ))

pub least_exceeding_reader-least-requires : goal.least_exceeding_reader-least-requires
least_exceeding_reader-least-requires c = record {
  variables = λ k z h. omega (arith, c.requires.allowed.new.moved.below k z h, rows_many c.args.at.now.machine.now c.args.at.now.uses.now c.requires.allowed.new.uses);
  rows = listed (goal.at.least_exceeding_reader-least-requires c).After-weigh_kept_readers;
}

pub least_exceeding_reader-requires : goal.least_exceeding_reader-requires
least_exceeding_reader-requires c = record {
  variables = λ k z h. omega (arith, c.requires.allowed.handled.assigned.known k z h, rows_many c.args.at.now.machine.now c.args.at.now.uses.now c.requires.allowed.new.uses);
  rows = listed (goal.at.least_exceeding_reader-requires c).After-weigh_kept_readers;
}

pub returns : goal.returns
returns c =
    let m = c.args.at.now.machine.now in
    let before = c.requires.before.1 in
    let old : List ℤ = c.requires.before.0 in
    let moved : List ℕ = c.args.at.now.moved.now in
    let assigned : List ℕ = c.args.handled.now.assigned.now in
    let levels : List ℤ = c.args.at.now.levels.now in
    let pre : List ℤ = c.args.handled.now.before.now in
    let d : List ℤ = c.args.handled.now.discretes.now in
    let after : List ℤ = c.weigh_kept_readers.new.weights in
    let moved_known : All (λ var. var < state_count m + discrete_count m) moved = λ k z h. omega (arith, c.requires.allowed.new.moved.below k z h) in
    let assigned_known : All (λ var. var < state_count m + discrete_count m) assigned = λ k z h. (c.requires.allowed.handled.assigned.known k z h).1 in
    let looked : List ℕ = flat_map (reading_rows m) moved ++ flat_map (reading_rows m) assigned in
    let kept_moved = rows_kept_all m c.args.at.now.uses.now c.requires.allowed.new.uses moved moved_known in
    let kept_assigned = rows_kept_all m c.args.at.now.uses.now c.requires.allowed.new.uses assigned assigned_known in
    let first : IsLeastPast after (flat_map (reading_rows m) moved) (overflow_of c.least_exceeding_reader-least.result) =
    subst (λ (rows : List ℕ). IsLeastPast after rows (overflow_of c.least_exceeding_reader-least.result)) kept_moved (c.least_exceeding_reader-least.ensures [] (least_none after)) in
    let both : IsLeastPast after looked (overflow_of c.least_exceeding_reader.result) =
    subst (λ (rows : List ℕ). IsLeastPast after (flat_map (reading_rows m) moved ++ rows) (overflow_of c.least_exceeding_reader.result)) kept_assigned (c.least_exceeding_reader.ensures (flat_map (reading_rows m) moved) first) in
    let over : overflow_of c.least_exceeding_reader.result ≡ position (exceeds_row_limits m levels d) m.rows =
    least_is m levels d after looked
    (many_after m moved assigned old levels pre d c.update_all_row_sums.new.sums after c.requires.allowed.new.levels c.requires.allowed.handled.many_before c.requires.allowed.handled.values.discretes c.requires.allowed.handled.assigned.others before.levels.off before.levels.of_lines.light c.update_all_row_sums.ensures c.weigh_kept_readers.ensures)
    (weighed_passes m moved assigned old levels pre d c.update_all_row_sums.new.sums after c.requires.allowed.new.levels c.requires.allowed.handled.many_before c.requires.allowed.handled.values.discretes c.requires.allowed.handled.assigned.others before.levels.off before.levels.of_lines.light c.update_all_row_sums.ensures c.weigh_kept_readers.ensures)
    (others_light m moved assigned old levels pre d c.update_all_row_sums.new.sums after c.requires.allowed.new.levels c.requires.allowed.handled.many_before c.requires.allowed.handled.values.discretes c.requires.allowed.handled.assigned.others before.levels.off before.levels.of_lines.light c.update_all_row_sums.ensures c.weigh_kept_readers.ensures)
    (overflow_of c.least_exceeding_reader.result) both in
    record {
      overflow = over;
      weights = λ none.
          all_weighed m moved assigned old levels pre d c.update_all_row_sums.new.sums after c.requires.allowed.new.levels c.requires.allowed.handled.many_before c.requires.allowed.handled.values.discretes c.requires.allowed.handled.assigned.others before.levels.off before.levels.of_lines.light c.update_all_row_sums.ensures c.weigh_kept_readers.ensures
          (sym over ∙ none);
    }
