-- Lines go on otherwise only where a tick affects their states.
use Rattle.qss_run.proofs.Common
use Common.{ℕ, ℤ, ◌<◌, ◌==◌, ◌||◌, ◌∙◌, ◌≡◌, ◌≤◌, ap, discrete_count, false, goes_from, handlers_at}
use Common.{int_at, int_at-tabulate, is_reinitialized, length, level_stays, Line, line_at, List}
use Common.{Machine, not, Ok, or_parts, replaced_lines_from, row_at, slope_at, Snapshot, state_at}
use Common.{state_count, sym, tabulate, touches_at, true}
use Rattle.qss_machine.specs.EventCounts.{has_changed, reads_change, is_touched}
use Rattle.std.proofs.lemmas.Bool.{and_from, not_from_true}
use Rattle.std.proofs.lemmas.Bool.Decides.{Decides-int_eq}
use Rattle.qss_states.specs.LineReplacements.{has_level_and_slope}
use Rattle.qss_states.proofs.Counting.{count_less}
use Rattle.qss_states.proofs.Renewed.{goes_so}
use Rattle.qss_events.proofs.SameSlopes.{same_slope}

-- a state that a tick does not affect
pub record IsUntouched (m : Machine) (t : ℕ) (w next : Snapshot) (j : ℕ) : Type 0 where
  pub level : has_changed m w next j ≡ false
  pub own : is_reinitialized (handlers_at m t w).rows j ≡ false
  pub reads : reads_change m w next (row_at m j) ≡ false

pub untouched : (m : Machine) (t : ℕ) (w next : Snapshot) (j : ℕ) → is_touched m t w next j ≡ false → IsUntouched m t w next j
untouched m t w next j none =
    let all = or_parts (has_changed m w next j || is_reinitialized (handlers_at m t w).rows j || reads_change m w next (row_at m j)) (t == m.last) none in
    let reads = or_parts (has_changed m w next j || is_reinitialized (handlers_at m t w).rows j) (reads_change m w next (row_at m j)) all.0 in
    let own = or_parts (has_changed m w next j) (is_reinitialized (handlers_at m t w).rows j) reads.0 in
    record { level = own.0; own = own.1; reads = reads.1 }

module _ (m : Machine) (t : ℕ) (w next : Snapshot) (old_levels : length w.levels ≡ state_count m) (new_levels : length next.levels ≡ state_count m)
    (old_discretes : length w.discretes ≡ discrete_count m) (new_discretes : length next.discretes ≡ discrete_count m) (lines : List Line) (slopes : List ℤ)
    (own_levels : (j : ℕ) → j < state_count m → (line_at lines j).level ≡ int_at w.levels j)
    (own_slopes : (j : ℕ) → j < state_count m → (line_at lines j).slope ≡ slope_at m j w.levels w.discretes)
    (are_slopes : slopes ≡ tabulate (state_count m) (λ j. slope_at m j next.levels next.discretes)) where
  -- a line of a state that is not affected goes on as it did
  goes_on : (j : ℕ) → j < state_count m → IsUntouched m t w next j → has_level_and_slope (int_at next.levels j) (int_at slopes j) (line_at lines j) ≡ true
  goes_on j h still =
      let slope : int_at slopes j ≡ slope_at m j w.levels w.discretes =
      ap (λ xs. int_at xs j) are_slopes ∙ int_at-tabulate (state_count m) (λ i. slope_at m i next.levels next.discretes) j h
      ∙ same_slope m w next j h old_levels new_levels old_discretes new_discretes still.reads in
      goes_so (int_at next.levels j) (int_at slopes j) (line_at lines j) (own_levels j h ∙ level_stays m w next j h still.level) (own_slopes j h ∙ sym slope)

  -- so it goes on from its state at the tick as it did
  pub goes_on_from : (x : List ℤ) (j : ℕ) → j < state_count m → IsUntouched m t w next j → state_at (line_at lines j) t ≡ int_at x j →
      goes_from t (int_at x j) (int_at next.levels j) (int_at slopes j) (line_at lines j) ≡ true
  goes_on_from x j h still here = and_from _ _ ((Decides-int_eq (state_at (line_at lines j) t) (int_at x j)).1 here) (goes_on j h still)

  -- and one that is not reinitialized is at its state on arrival
  pub renewals_from_touched : (x : List ℤ) → ((j : ℕ) → j < state_count m → is_reinitialized (handlers_at m t w).rows j ≡ false → state_at (line_at lines j) t ≡ int_at x j) →
      replaced_lines_from (state_count m) t x next.levels slopes lines ≤ touches_at m t w (Ok next)
  renewals_from_touched x here =
      count_less (state_count m) (λ j. not (goes_from t (int_at x j) (int_at next.levels j) (int_at slopes j) (line_at lines j))) (is_touched m t w next)
      (λ j h none.
      let still = untouched m t w next j none in
      not_from_true _ (goes_on_from x j h still (here j h still.own)))
