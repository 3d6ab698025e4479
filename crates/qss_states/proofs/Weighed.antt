-- Absolute row sums of which those that read an assigned discrete variable were added up anew.
use Rattle.qss_states.proofs.Common
use Common.{ℕ, ℤ, ◌++◌, ◌<◌, ◌||◌, ◌∙◌, ◌≡◌, among_readers, ap, AreAssigned, arith, Bool}
use Common.{cases_Bool, DiffersOnlyAt, discrete_count, exceeds, exceeds_row_limits, false}
use Common.{fill_by_all, flat_map, inl, inr, int_at, int_at-tabulate, is_listed, IsWeighed}
use Common.{IsWritten, length, length-map-range_with_len, List, list_any-append, Machine, mode_fits}
use Common.{no_row, None, not, or_parts, pos, position, reading_rows, row_at, row_is_light}
use Common.{state_count, subst, sym, true, unread_at, weight_at, weights_at}
use Rattle.qss_events.proofs.Ranges.{none_passes}
use Rattle.qss_machine.proofs.Unread.{unread_overweight}
use Rattle.std.specs.Prelude.{MatchBool}
use Rattle.qss_states.proofs.Assigned.{modes_stay, weight_stays, overweight_stays}

pub by_modes : (b : Bool) (z weight : ℤ) → MatchBool b (z ≡ weight) (exceeds 88 z ≡ true) → exceeds 88 z ≡ (not b || exceeds 88 weight)
by_modes true z weight e = ap (exceeds 88) e
by_modes false z weight e = e

-- a maintained number that does not exceed the limit is the absolute row sum
pub weight_kept : (b : Bool) (z weight : ℤ) → MatchBool b (z ≡ weight) (exceeds 88 z ≡ true) → exceeds 88 z ≡ false → z ≡ weight
weight_kept true z weight e below = e
weight_kept false z weight e below = absurd (let no : true ≡ false = sym e ∙ below in cc)

module _ (m : Machine) (moved assigned : List ℕ) (old levels pre d before after : List ℤ) (many : length levels ≡ state_count m) (many_pre : length pre ≡ discrete_count m) (many_d : length d ≡ discrete_count m)
    (are : AreAssigned m assigned pre d) (off : DiffersOnlyAt moved old levels) (light : position (exceeds_row_limits m old pre) m.rows ≡ None) (shifted : before ≡ weights_at m levels pre)
    (written : IsWritten (pos 0) (IsWeighed m levels d) (flat_map (reading_rows m) assigned) before after) where
  pub many_after : length after ≡ state_count m
  many_after = written.as_many ∙ ap length shifted ∙ length-map-range_with_len (λ j. weight_at m j levels pre) 0 (state_count m)

  pub weighed : (j : ℕ) → j < state_count m → IsWeighed m levels d j (int_at after j)
  weighed j h = elim (cases_Bool (is_listed (flat_map (reading_rows m) assigned) j)) [
    | inl among ↦ written.each j among
    | inr none ↦
        let unread = sym (among_readers m j h assigned) ∙ none in
        let modes : true ≡ mode_fits m.f (state_count m) (row_at m j) d = sym (modes_stay m levels pre d assigned many many_pre many_d are j h unread ∙ (row_is_light m old pre light j h).modes) in
        let own : int_at after j ≡ weight_at m j levels d =
        written.others j none ∙ ap (λ (xs : List ℤ). int_at xs j) shifted ∙ int_at-tabulate (state_count m) (λ i. weight_at m i levels pre) j h
        ∙ sym (weight_stays m levels pre d assigned many many_pre many_d are j h unread) in
        subst (λ b. MatchBool b (int_at after j ≡ weight_at m j levels d) (exceeds 88 (int_at after j) ≡ true)) modes own
  ]

  -- an absolute row sum exceeds its limit if its row exceeds its limits
  pub weighed_passes : (j : ℕ) → j < state_count m → exceeds 88 (int_at after j) ≡ exceeds_row_limits m levels d (row_at m j)
  weighed_passes j h = by_modes (mode_fits m.f (state_count m) (row_at m j) d) (int_at after j) (weight_at m j levels d) (weighed j h)

  -- a row that reads neither a moved state nor an assigned variable is as light as before
  pub others_light : (j : ℕ) → j < state_count m → is_listed (flat_map (reading_rows m) moved ++ flat_map (reading_rows m) assigned) j ≡ false → exceeds_row_limits m levels d (row_at m j) ≡ false
  others_light j h none =
      let inside : j < length m.rows = omega (arith, h, m.has_rows.one_each) in
      let parts = or_parts (is_listed (flat_map (reading_rows m) moved) j) (is_listed (flat_map (reading_rows m) assigned) j)
      (sym (list_any-append _ (flat_map (reading_rows m) moved) (flat_map (reading_rows m) assigned)) ∙ none) in
      overweight_stays m levels pre d assigned many many_pre many_d are j h (sym (among_readers m j h assigned) ∙ parts.1)
      ∙ unread_overweight m (row_at m j) moved old levels pre (unread_at moved (row_at m j) (sym (among_readers m j h moved) ∙ parts.0)) off
      ∙ none_passes no_row (exceeds_row_limits m old pre) m.rows light j inside

  -- where no row exceeds its limits, all absolute row sums are there
  pub all_weighed : position (exceeds_row_limits m levels d) m.rows ≡ None → after ≡ weights_at m levels d
  all_weighed calm =
      fill_by_all (λ j. weight_at m j levels d) after (state_count m) (pos 0) many_after
      (λ j h. subst (λ b. MatchBool b (int_at after j ≡ weight_at m j levels d) (exceeds 88 (int_at after j) ≡ true)) ((row_is_light m levels d calm j h).modes) (weighed j h))
