-- Slopes and conditions after handlers, where few states moved and few discrete variables were assigned.
use Rattle.qss_run.proofs.Common
use Common.{ℕ, ℤ, ◌+◌, ◌<◌, ◌∙◌, ◌≡◌, ap, AreDetectorsUpTo, arith, Bool, cases_Bool, conditions}
use Common.{DetectorStates, DiffersOnlyAt, discrete_count, false, if◌then◌else◌, inl, inr, int_at}
use Common.{int_at-states_at, int_at-tabulate, is_listed, IsSettled, length}
use Common.{length-map-range_with_len, length-states_at, Line, line_at, List, Machine, no_row, pos}
use Common.{reads_moved, row_at, row_reads, slope_at, Snapshot, state_at, state_count, states_at}
use Common.{states_with, sym, tabulate, tabulate-same}
use Rattle.qss_machine.proofs.Unread.{unread_at}
use Rattle.mu_num.proofs.Tests.{if-false}
use Rattle.qss_machine.specs.declared.machine_parts.SlopeRow.{SlopeRow}
use Rattle.qss_states.specs.Variables.{AreAssigned}
use Rattle.qss_events.proofs.SameSlopes.{slope_same}

-- states with those of the moved ones, by number
pub length-states_with : (lines : List Line) (t : ℕ) (moved : List ℕ) (x : List ℤ) → length (states_with lines t moved x) ≡ length lines
length-states_with lines t moved x = length-map-range_with_len (λ j. if is_listed moved j then int_at x j else state_at (line_at lines j) t) 0 (length lines)

pub int_at-states_with : (lines : List Line) (t : ℕ) (moved : List ℕ) (x : List ℤ) (j : ℕ) → j < length lines →
    int_at (states_with lines t moved x) j ≡ (if is_listed moved j then int_at x j else state_at (line_at lines j) t)
int_at-states_with lines t moved x j h = int_at-tabulate (length lines) (λ i. if is_listed moved i then int_at x i else state_at (line_at lines i) t) j h

pub other_state : (lines : List Line) (t : ℕ) (moved : List ℕ) (x : List ℤ) (j : ℕ) → j < length lines → is_listed moved j ≡ false → int_at (states_with lines t moved x) j ≡ state_at (line_at lines j) t
other_state lines t moved x j h none = int_at-states_with lines t moved x j h ∙ if-false (is_listed moved j) (int_at x j) (state_at (line_at lines j) t) none

-- snapshots of the same lists
pub same_worlds : (v w : Snapshot) → v.states ≡ w.states → v.levels ≡ w.levels → v.discretes ≡ w.discretes → v.at_arrival ≡ w.at_arrival → v.after_handlers ≡ w.after_handlers → v ≡ w
same_worlds v w states levels discretes at_arrival after_handlers =
    ap (λ (x : List ℤ). record v { states = x }) states
    ∙ ap (λ (l : List ℤ). record v { states = w.states; levels = l }) levels
    ∙ ap (λ (d : List ℤ). record v { states = w.states; levels = w.levels; discretes = d }) discretes
    ∙ ap (λ (a : List Bool). record { states = w.states; levels = w.levels; discretes = w.discretes; at_arrival = a; after_handlers = v.after_handlers }) at_arrival
    ∙ ap (λ (b : List Bool). record w { after_handlers = b }) after_handlers

-- lines that are at these states lead to them
pub lead_to : (n : ℕ) (lines after : List Line) (t : ℕ) (moved : List ℕ) (x : List ℤ) → length lines ≡ n → length after ≡ n →
    ((j : ℕ) → j < n → state_at (line_at after j) t ≡ int_at (states_with lines t moved x) j) → states_at after t ≡ states_with lines t moved x
lead_to n lines after t moved x many as_many here =
    ap (λ k. tabulate k (λ j. state_at (line_at after j) t)) as_many
    ∙ tabulate-same (pos 0) n _ _ (λ j h. here j h ∙ int_at-states_with lines t moved x j (omega (arith, h, many)))
    ∙ sym (ap (λ k. tabulate k (λ j. if is_listed moved j then int_at x j else state_at (line_at lines j) t)) many)

module _ (m : Machine) (moved assigned : List ℕ) (old levels pre d before slopes : List ℤ) (off : DiffersOnlyAt moved old levels) (are : AreAssigned m assigned pre d)
    (old_many : length old ≡ state_count m) (pre_many : length pre ≡ discrete_count m) (d_many : length d ≡ discrete_count m)
    (was : before ≡ tabulate (state_count m) (λ j. slope_at m j old pre)) (is : slopes ≡ tabulate (state_count m) (λ j. slope_at m j levels d)) where
  -- a row that reads no moved state and no assigned variable gives the same slope
  unread : (j : ℕ) → j < state_count m → reads_moved m moved j ≡ false → reads_moved m assigned j ≡ false → slope_at m j levels d ≡ slope_at m j old pre
  unread j h no_state no_variable =
      let row : SlopeRow = row_at m j in
      slope_same m.f (state_count m) (discrete_count m) row old levels pre d old_many (off.as_many ∙ old_many) pre_many d_many
      (m.has_rows.each j no_row (omega (arith, h, m.has_rows.one_each))).products.of_discretes
      (λ i inside reads. elim (cases_Bool (is_listed moved i)) [
        | inl among ↦ let not : row_reads i row ≡ false = unread_at moved row no_state i among in absurd (cc)
        | inr kept ↦ off.others i kept
      ])
      (λ g inside reads. elim (cases_Bool (is_listed assigned (state_count m + g))) [
        | inl among ↦ let not : row_reads (state_count m + g) row ≡ false = unread_at assigned row no_variable (state_count m + g) among in absurd (cc)
        | inr kept ↦ are g inside kept
      ])

  pub slopes_stay_where : (j : ℕ) → j < state_count m → reads_moved m moved j ≡ false → reads_moved m assigned j ≡ false → int_at slopes j ≡ int_at before j
  slopes_stay_where j h no_state no_variable =
      ap (λ xs. int_at xs j) is
      ∙ int_at-tabulate (state_count m) (λ i. slope_at m i levels d) j h
      ∙ unread j h no_state no_variable
      ∙ sym (int_at-tabulate (state_count m) (λ i. slope_at m i old pre) j h)
      ∙ ap (λ xs. int_at xs j) (sym was)

  -- the conditions, with valid detectors up to now
  pub watched_up_to : (t : ℕ) (reinitialized changed : List ℕ) (lines after : List Line) (x : List ℤ) (now : DetectorStates) →
      length lines ≡ state_count m → states_at after t ≡ states_with lines t moved x →
      ((j : ℕ) → j < state_count m → is_listed reinitialized j ≡ false → int_at (states_with lines t moved x) j ≡ state_at (line_at lines j) t) → length before ≡ state_count m → length slopes ≡ state_count m →
      ((place : ℕ) → place < length (conditions m) → is_listed changed place ≡ false → IsSettled m t (states_at lines t) pre before place now) →
      AreDetectorsUpTo m t moved reinitialized assigned changed (states_at lines t) (states_at after t) pre d before slopes now
  watched_up_to t reinitialized changed lines after x now many lead still before_many slopes_many after_handlers = record {
    unchanged = after_handlers;
    other_states = λ j h none. ap (λ xs. int_at xs j) lead ∙ still j h none ∙ sym (int_at-states_at lines t j (omega (arith, h, many)));
    other_discretes = are;
    other_slopes = slopes_stay_where;
    many_states = (length-states_at lines t ∙ many, ap length lead ∙ length-states_with lines t moved x ∙ many);
    many_discretes = (pre_many, d_many);
    many_slopes = (before_many, slopes_many);
  }
