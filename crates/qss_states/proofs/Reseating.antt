-- States after handlers: the moved ones go on from where they are, and those whose rows read a change at new slopes.
use Rattle.qss_states.proofs.Common
use Common.{ℕ, ℤ, ◌++◌, ◌<◌, ◌==◌, ◌∙◌, ◌≡◌, ◌≤◌, All, among_readers, ap, AreAssigned, AreScheduled}
use Common.{AreSumsBefore, arith, cases_Bool, discrete_count, due_at, false, flat_map, goes_from}
use Common.{has_level_and_slope, HaveSlopesUpdated, if-false, if◌then◌else◌, inl, inr, int_at}
use Common.{int_at-tabulate, is_listed, IsDue, IsLineWithinQuantum, IsRestartedFrom, IsWithin}
use Common.{length, length-map-range_with_len, level_unit, Line, line_at, List, list_any-append}
use Common.{Machine, MayUpdateSlope, not, Option, or_parts, pos, quantum_of, reading_rows}
use Common.{replaced_lines, row_at, Schedules, Slope, slope_at, state_at, state_count, states_with}
use Common.{subst, sym, tabulate, true, unread_at, unread_slope}
use Rattle.mu_num.proofs.Tests.{if-true}
use Rattle.qss_states.specs.LineReplacements.{replaced_lines_from}
use Rattle.qss_states.proofs.Assigned.{slope_stays}
use Rattle.qss_states.proofs.Counting.{count_same}
use Rattle.qss_states.proofs.Courses.{still_going, resloped_then}
use Rattle.qss_states.proofs.Renewed.{from_here}
use Rattle.qss_states.proofs.Seats.{still_begun}

-- ---- the states

module _ (lines : List Line) (tick : ℕ) (moved : List ℕ) (x : List ℤ) (j : ℕ) (h : j < length lines) where
  state_is : int_at (states_with lines tick moved x) j ≡ (if is_listed moved j then int_at x j else state_at (line_at lines j) tick)
  state_is = int_at-tabulate (length lines) (λ k. if is_listed moved k then int_at x k else state_at (line_at lines k) tick) j h

  -- a moved state
  pub moved_state : is_listed moved j ≡ true → int_at (states_with lines tick moved x) j ≡ int_at x j
  moved_state among = state_is ∙ if-true (is_listed moved j) (int_at x j) (state_at (line_at lines j) tick) among

  -- another one
  pub other_state : is_listed moved j ≡ false → int_at (states_with lines tick moved x) j ≡ state_at (line_at lines j) tick
  other_state none = state_is ∙ if-false (is_listed moved j) (int_at x j) (state_at (line_at lines j) tick) none

-- ---- where the moved states go on from where they are

module _ (m : Machine) (tick : ℕ) (x levels slopes : List ℤ) (moved : List ℕ) (first between : Schedules) (on : AreScheduled m tick levels slopes moved (int_at x) first between)
    (many : length first.lines ≡ state_count m) where
  abbrev states : List ℤ
  states = states_with first.lines tick moved x

  -- each line is at its state
  pub at_state : (j : ℕ) → j < state_count m → state_at (line_at between.lines j) tick ≡ int_at states j
  at_state j h =
      let inside : j < length first.lines = omega (arith, h, many) in
      elim (cases_Bool (is_listed moved j)) [
        | inl among ↦ (on.own j among).here ∙ sym (moved_state first.lines tick moved x j inside among)
        | inr none ↦ ap (λ (l : Line). state_at l tick) (on.others.lines j none) ∙ sym (other_state first.lines tick moved x j inside none)
      ]

  -- and a line that goes on so already is left
  pub left_seated : ((j : ℕ) → goes_from tick (int_at x j) (int_at levels j) (int_at slopes j) (line_at first.lines j) ≡ true → line_at between.lines j ≡ line_at first.lines j) →
      (j : ℕ) → j < state_count m → goes_from tick (int_at states j) (int_at levels j) (int_at slopes j) (line_at first.lines j) ≡ true →
      line_at between.lines j ≡ line_at first.lines j
  left_seated left j h so =
      let inside : j < length first.lines = omega (arith, h, many) in
      elim (cases_Bool (is_listed moved j)) [
        | inl among ↦ left j (subst (λ z. goes_from tick z (int_at levels j) (int_at slopes j) (line_at first.lines j) ≡ true) (moved_state first.lines tick moved x j inside among) so)
        | inr none ↦ on.others.lines j none
      ]

  -- and may go on at another slope
  pub may_reslope_seated : All (IsWithin 88) states → (j : ℕ) → j < state_count m → (line_at first.lines j).tick < tick →
      (is_listed moved j ≡ false → (line_at first.lines j).level ≡ int_at levels j) →
      IsLineWithinQuantum (level_unit m) (int_at states j) (int_at levels j) (quantum_of m j (int_at levels j)) →
      (is_listed moved j ≡ false → (line_at first.lines j).level ≡ int_at levels j → IsDue m tick j (line_at first.lines j) (due_at first.dues j)) →
      MayUpdateSlope m tick (int_at levels j) (int_at slopes j) j (line_at between.lines j) (due_at between.dues j)
  may_reslope_seated small j h earlier own_level near due =
      let begun : (line_at first.lines j).tick ≤ tick = omega (arith, earlier) in
      let all : length states ≡ state_count m = length-map-range_with_len (λ k. if is_listed moved k then int_at x k else state_at (line_at first.lines k) tick) 0 (length first.lines) ∙ many in
      record {
        not_later = still_begun m tick x levels slopes moved first between on j begun;
        small = subst (IsWithin 88) (sym (at_state j h)) (small j (pos 0) (omega (arith, h, all)));
        near = subst (λ z. IsLineWithinQuantum (level_unit m) z (int_at levels j) (quantum_of m j (int_at levels j))) (sym (at_state j h)) near;
        own_level = elim (cases_Bool (is_listed moved j)) [
          | inl among ↦ (on.own j among).own_level
          | inr none ↦ ap (λ (l : Line). l.level) (on.others.lines j none) ∙ own_level none
        ];
        is_set = λ here. elim (cases_Bool (is_listed moved j)) [
          | inl among ↦ (on.own j among).own_slope
          | inr none ↦ absurd (omega (arith, earlier, here, ap (λ (l : Line). l.tick) (on.others.lines j none)))
        ];
        is_due = elim (cases_Bool (is_listed moved j)) [
          | inl among ↦ (on.own j among).is_due
          | inr none ↦
              subst (λ (l : Line). IsDue m tick j l (due_at between.dues j)) (sym (on.others.lines j none))
              (subst (IsDue m tick j (line_at first.lines j)) (sym (on.others.dues.others j none)) (due none (own_level none)))
        ];
      }

  -- then lines move only for their levels and their slopes
  pub renewals_seated : replaced_lines_from (state_count m) tick states levels slopes between.lines ≡ replaced_lines (state_count m) levels slopes between.lines
  renewals_seated =
      count_same (state_count m) (λ j. not (goes_from tick (int_at states j) (int_at levels j) (int_at slopes j) (line_at between.lines j)))
      (λ j. not (has_level_and_slope (int_at levels j) (int_at slopes j) (line_at between.lines j)))
      (λ j h. ap not (from_here tick (int_at states j) (int_at levels j) (int_at slopes j) (line_at between.lines j) (at_state j h)))

  -- ---- and those whose rows read a change go on at new slopes

  module _ (assigned : List ℕ) (before pre d slopes_old : List ℤ) (next last : Schedules) (readers : HaveSlopesUpdated m tick levels slopes (flat_map (reading_rows m) moved) between next)
      (more : HaveSlopesUpdated m tick levels slopes (flat_map (reading_rows m) assigned) next last) (were : AreSumsBefore Slope m moved levels pre slopes_old first.lines before)
      (same : AreAssigned m assigned pre d) (slopes_new : slopes ≡ tabulate (state_count m) (λ j. slope_at m j levels d)) (many_levels : length levels ≡ state_count m)
      (many_before : length pre ≡ discrete_count m) (many_discretes : length d ≡ discrete_count m) (j : ℕ) (h : j < state_count m) where
    abbrev xs : List ℕ
    xs = flat_map (reading_rows m) moved

    abbrev ys : List ℕ
    ys = flat_map (reading_rows m) assigned

    all : HaveSlopesUpdated m tick levels slopes (xs ++ ys) between last
    all = resloped_then m tick levels slopes xs ys between next last readers more

    slope_new : int_at slopes j ≡ slope_at m j levels d
    slope_new = ap (λ zs. int_at zs j) slopes_new ∙ int_at-tabulate (state_count m) (λ k. slope_at m k levels d) j h

    -- a row that reads no change has its old slope
    slope_kept : is_listed (xs ++ ys) j ≡ false → int_at slopes_old j ≡ int_at slopes j
    slope_kept none =
        let parts = or_parts (is_listed xs j) (is_listed ys j) (sym (list_any-append (λ (i : ℕ). i == j) xs ys) ∙ none) in
        ap (λ zs. int_at zs j) were.own_sums ∙ int_at-tabulate (state_count m) (λ k. slope_at m k before pre) j h
        ∙ sym (unread_slope m.f (row_at m j) moved before levels pre (unread_at moved (row_at m j) (sym (among_readers m j h moved) ∙ parts.0)) were.levels.off)
        ∙ sym (slope_stays m levels pre d assigned many_levels many_before many_discretes same j h (sym (among_readers m j h assigned) ∙ parts.1))
        ∙ sym slope_new

    pub reseated : (line_at first.lines j).tick ≤ tick → (line_at first.lines j).slope ≡ int_at slopes_old j →
        (is_listed moved j ≡ false → (line_at first.lines j).level ≡ int_at levels j → IsDue m tick j (line_at first.lines j) (due_at first.dues j)) →
        IsRestartedFrom m tick (int_at states j) (int_at levels j) (slope_at m j levels d) j (line_at last.lines j) (due_at last.dues j)
    reseated begun own_slope due =
        let level : ℤ = int_at levels j in
        let slope : ℤ = int_at slopes j in
        let Goes : Line → Option ℕ → Type 0 = IsRestartedFrom m tick (int_at states j) level slope j in
        let inside : j < length first.lines = omega (arith, h, many) in
        let still : Goes (line_at between.lines j) (due_at between.dues j) → Goes (line_at last.lines j) (due_at last.dues j) = λ own.
        still_going m tick level slope j (int_at states j) (line_at between.lines j) (line_at last.lines j) (due_at between.dues j) (due_at last.dues j) (at_state j h) own (all.each j h) in
        subst (λ z. IsRestartedFrom m tick (int_at states j) level z j (line_at last.lines j) (due_at last.dues j)) slope_new
        (elim (cases_Bool (is_listed (xs ++ ys) j)) [
          | inl among ↦ subst (λ z. IsRestartedFrom m tick z level slope j (line_at last.lines j) (due_at last.dues j)) (at_state j h) (all.own j h among)
          | inr unread ↦ still (elim (cases_Bool (is_listed moved j)) [
            | inl among ↦ subst (λ z. IsRestartedFrom m tick z level slope j (line_at between.lines j) (due_at between.dues j)) (sym (moved_state first.lines tick moved x j inside among)) (on.own j among)
            | inr none ↦
                let own_level : (line_at first.lines j).level ≡ level = were.levels.of_lines.own_levels j h ∙ sym (were.levels.off.others j none) in
                subst (λ (l : Line). Goes l (due_at between.dues j)) (sym (on.others.lines j none))
                (subst (Goes (line_at first.lines j)) (sym (on.others.dues.others j none))
                (record {
                  not_later = begun;
                  here = sym (other_state first.lines tick moved x j inside none);
                  own_slope = own_slope ∙ slope_kept unread;
                  own_level = own_level;
                  is_due = due none own_level;
                }))
          ])
        ])
