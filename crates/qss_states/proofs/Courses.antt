-- States of which some go on at new slopes, step by step.
use Rattle.qss_states.proofs.Common
use Common.{[], ℕ, ℤ, ◌++◌, ◌+◌, ◌<◌, ◌==◌, ◌∙◌, ◌∷◌, ◌≡◌, among_more, ap, AreScheduled, arith}
use Common.{cases_eq, due_at, eqb, eqb-false, eqb-true, false, get_or, get_or-set_other}
use Common.{get_or-set_same, has_level_and_slope, HaveSlopesUpdated, inl, inr, int_at, is_listed}
use Common.{IsLineWithinQuantum, IsRestartedFrom, IsWithin, length, length-set, level_unit, Line}
use Common.{line_at, List, list_any-append, Machine, MayUpdateSlope, no_line, None, Option}
use Common.{or_cases, or_parts, quantum_of, refl, Schedules, set, state_at, state_count, subst, sym}
use Common.{take, true}
use Rattle.qss_states.specs.SlopeUpdates.{IsOneScheduled, StaysOrRestarts}

-- ---- one state

module _ (m : Machine) (tick : ℕ) (level slope : ℤ) (j : ℕ) where
  -- a line is at one state at the tick all along
  pub same_state : {old new : Line} {due_old due_new : Option ℕ} → StaysOrRestarts m tick level slope j old new due_old due_new → state_at new tick ≡ state_at old tick
  same_state (inl kept) = ap (λ (l : Line). state_at l tick) kept.0
  same_state (inr goes_on) = goes_on.here

  -- a line that may go on may do so again
  pub may_reslope_again : (old new : Line) (due_old due_new : Option ℕ) → MayUpdateSlope m tick level slope j old due_old → StaysOrRestarts m tick level slope j old new due_old due_new →
      MayUpdateSlope m tick level slope j new due_new
  may_reslope_again old new due_old due_new may (inl kept) =
      subst (λ (l : Line). MayUpdateSlope m tick level slope j l due_new) (sym kept.0) (subst (MayUpdateSlope m tick level slope j old) (sym kept.1) may)
  may_reslope_again old new due_old due_new may (inr goes_on) = record {
    not_later = goes_on.not_later;
    small = subst (IsWithin 88) (sym goes_on.here) may.small;
    near = subst (λ x. IsLineWithinQuantum (level_unit m) x level (quantum_of m j level)) (sym goes_on.here) may.near;
    own_level = goes_on.own_level;
    is_set = λ e. goes_on.own_slope;
    is_due = goes_on.is_due;
  }

  -- a line at its new slope stays at it
  pub still_going : (x : ℤ) (old new : Line) (due_old due_new : Option ℕ) → state_at old tick ≡ x → IsRestartedFrom m tick x level slope j old due_old →
      StaysOrRestarts m tick level slope j old new due_old due_new → IsRestartedFrom m tick x level slope j new due_new
  still_going x old new due_old due_new at goes_on (inl kept) =
      subst (λ (l : Line). IsRestartedFrom m tick x level slope j l due_new) (sym kept.0) (subst (IsRestartedFrom m tick x level slope j old) (sym kept.1) goes_on)
  still_going x old new due_old due_new at goes_on (inr again) = subst (λ z. IsRestartedFrom m tick z level slope j new due_new) at again

  pub goes_on_on : (a b c : Line) (due_a due_b due_c : Option ℕ) → StaysOrRestarts m tick level slope j a b due_a due_b → StaysOrRestarts m tick level slope j b c due_b due_c →
      StaysOrRestarts m tick level slope j a c due_a due_c
  goes_on_on a b c due_a due_b due_c (inl first) (inl second) = inl (second.0 ∙ first.0, second.1 ∙ first.1)
  goes_on_on a b c due_a due_b due_c (inl first) (inr second) = inr (subst (λ z. IsRestartedFrom m tick z level slope j c due_c) (ap (λ (l : Line). state_at l tick) first.0) second)
  goes_on_on a b c due_a due_b due_c (inr first) second = inr (still_going (state_at a tick) b c due_b due_c first.here first second)

-- a line and a due tick are put in the places of one state
pub one_set : (m : Machine) (tick : ℕ) (levels slopes : List ℤ) (j : ℕ) (x : ℤ) (lines : List Line) (line : Line) (dues next : List (Option ℕ)) (due : Option ℕ) → j < length lines → j < length dues →
    next ≡ set dues j due → IsRestartedFrom m tick x (int_at levels j) (int_at slopes j) j line due →
    IsOneScheduled m tick levels slopes j x (record { lines = lines; dues = dues }) (record { lines = set lines j line; dues = next })
one_set m tick levels slopes j x lines line dues next due has_line has_place is goes_on =
    let Goes : Line → Option ℕ → Type 0 = IsRestartedFrom m tick x (int_at levels j) (int_at slopes j) j in
    let held : due_at next j ≡ due = ap (λ (ds : List (Option ℕ)). due_at ds j) is ∙ get_or-set_same dues j due None has_place in
    record {
      own = subst (λ (l : Line). Goes l (due_at next j)) (sym (get_or-set_same lines j line no_line has_line)) (subst (Goes line) (sym held) goes_on);
      others = record {
        lines = λ k other. get_or-set_other lines j k line no_line other;
        dues = record {
          places = ap length is ∙ length-set dues j due;
          others = λ place other. ap (λ (ds : List (Option ℕ)). due_at ds place) is ∙ get_or-set_other dues j place due None other;
        };
      };
    }

-- ---- all states

module _ (m : Machine) (tick : ℕ) (levels slopes : List ℤ) where
  pub none_go_on : (x : ℕ → ℤ) (old : Schedules) → AreScheduled m tick levels slopes [] x old old
  none_go_on x old = record { own = λ j among. absurd (cc); others = record { lines = λ j none. refl; dues = record { places = refl; others = λ place none. refl } } }

  -- one more goes on
  pub one_more : (x : ℕ → ℤ) (states : List ℕ) (i : ℕ) (old between new : Schedules) → i < length states → AreScheduled m tick levels slopes (take i states) x old between →
      IsOneScheduled m tick levels slopes (get_or states i 0) (x (get_or states i 0)) between new → AreScheduled m tick levels slopes (take (i + 1) states) x old new
  one_more x states i old between new h first one =
      let j : ℕ = get_or states i 0 in
      let Goes : ℕ → Line → Option ℕ → Type 0 = λ k line due. IsRestartedFrom m tick (x k) (int_at levels k) (int_at slopes k) k line due in
      let stay : (k : ℕ) → is_listed (take (i + 1) states) k ≡ false → (is_listed (take i states) k ≡ false) × (k ≡ j → ⊥) = λ k none.
      let parts = or_parts (is_listed (take i states) k) (eqb j k) (sym (among_more states i k h) ∙ none) in
      (parts.0, λ e. eqb-false j k parts.1 (sym e)) in
      record {
        own = λ k among. elim (cases_eq k j) [
          | inl same ↦ subst (λ (a : ℕ). Goes a (line_at new.lines a) (due_at new.dues a)) (sym same) one.own
          | inr other ↦ elim (or_cases (is_listed (take i states) k) (eqb j k) (sym (among_more states i k h) ∙ among)) [
            | inl before ↦
                subst (λ (l : Line). Goes k l (due_at new.dues k)) (sym (one.others.lines k other))
                (subst (Goes k (line_at between.lines k)) (sym (one.others.dues.others k other)) (first.own k before))
            | inr same ↦ absurd (other (sym (eqb-true j k same)))
          ]
        ];
        others = record {
          lines = λ k none. one.others.lines k (stay k none).1 ∙ first.others.lines k (stay k none).0;
          dues = record {
            places = one.others.dues.places ∙ first.others.dues.places;
            others = λ k none. one.others.dues.others k (stay k none).1 ∙ first.others.dues.others k (stay k none).0;
          };
        };
      }

  -- one state goes on at its slope
  pub one_resloped : (j : ℕ) (old new : Schedules) → j < state_count m → IsOneScheduled m tick levels slopes j (state_at (line_at old.lines j) tick) old new →
      (has_level_and_slope (int_at levels j) (int_at slopes j) (line_at old.lines j) ≡ true → line_at new.lines j ≡ line_at old.lines j) → HaveSlopesUpdated m tick levels slopes (j ∷ []) old new
  one_resloped j old new known one kept =
      let here = λ (k : ℕ) (same : j ≡ k).
      subst (λ (i : ℕ). IsRestartedFrom m tick (state_at (line_at old.lines i) tick) (int_at levels i) (int_at slopes i) i (line_at new.lines i) (due_at new.dues i)) same one.own in
      record {
        each = λ k h. elim (cases_eq k j) [
          | inl same ↦ inr (here k (sym same))
          | inr other ↦ inl (one.others.lines k other, one.others.dues.others k other)
        ];
        own = λ k h among. elim (or_cases (j == k) false among) [
          | inl same ↦ here k (eqb-true j k same)
          | inr none ↦ absurd (cc)
        ];
        left = λ k h so. elim (cases_eq k j) [
          | inl same ↦ subst (λ (i : ℕ). line_at new.lines i ≡ line_at old.lines i) (sym same)
              (kept (subst (λ (i : ℕ). has_level_and_slope (int_at levels i) (int_at slopes i) (line_at old.lines i) ≡ true) same so))
          | inr other ↦ one.others.lines k other
        ];
        as_many = one.others.dues.places;
        others = λ place past. one.others.dues.others place (λ e. omega (arith, e, past, known));
      }

  -- and then more do
  pub resloped_then : (xs ys : List ℕ) (a b c : Schedules) → HaveSlopesUpdated m tick levels slopes xs a b → HaveSlopesUpdated m tick levels slopes ys b c → HaveSlopesUpdated m tick levels slopes (xs ++ ys) a c
  resloped_then xs ys a b c first second = record {
    each = λ k h. goes_on_on m tick (int_at levels k) (int_at slopes k) k (line_at a.lines k) (line_at b.lines k) (line_at c.lines k)
        (due_at a.dues k) (due_at b.dues k) (due_at c.dues k) (first.each k h) (second.each k h);
    own = λ k h among.
        let at : state_at (line_at b.lines k) tick ≡ state_at (line_at a.lines k) tick = same_state m tick (int_at levels k) (int_at slopes k) k (first.each k h) in
        elim (or_cases (is_listed xs k) (is_listed ys k) (sym (list_any-append (λ (i : ℕ). i == k) xs ys) ∙ among)) [
          | inl before ↦ still_going m tick (int_at levels k) (int_at slopes k) k (state_at (line_at a.lines k) tick) (line_at b.lines k) (line_at c.lines k)
              (due_at b.dues k) (due_at c.dues k) at (first.own k h before) (second.each k h)
          | inr after ↦ subst (λ z. IsRestartedFrom m tick z (int_at levels k) (int_at slopes k) k (line_at c.lines k) (due_at c.dues k)) at (second.own k h after)
        ];
    left = λ k h so.
        let same = first.left k h so in
        second.left k h (ap (has_level_and_slope (int_at levels k) (int_at slopes k)) same ∙ so) ∙ same;
    as_many = second.as_many ∙ first.as_many;
    others = λ place past. second.others place past ∙ first.others place past;
  }
