-- A condition that reads nothing that changed has its value, its speed and its truth.
use Rattle.qss_run.proofs.Common
use Common.{[], ℕ, ℤ, ◌*ℤ◌, ◌++◌, ◌+◌, ◌-◌, ◌<◌, ◌==◌, ◌∙◌, ◌∷◌, ◌≡◌, ◌≤◌, among_conditions}
use Common.{Any-from_list_any, ap, AreDetectorsUpTo, AreSettled, AreSlopesBefore, arith, Bool}
use Common.{cases_Bool, cases_lt, compares, condition_at, condition_reads, conditions, detector_at}
use Common.{DetectorStates, DetectorView, discrete_count, due_at, Entry, eqb-yes, false}
use Common.{false_from_ne_true, flag_at, flat_map, get_or, get_or-append_right, get_or-map}
use Common.{get_or_append_left, get_or_past, inl, inputs, inr, int_at, ints, is_listed}
use Common.{IsDetectorAt, length, length-map, level_unit, List, list_any-append, list_any_at}
use Common.{Machine, map, or_cases, or_parts, pos, readers_before, readers_of, reading_conditions}
use Common.{reading_rows, reads_moved, refl, row_at, row_reads, state_count, subst, sym}
use Common.{touched_after, touched_by, touched_of, true, truth, value_of}
use Rattle.mu_num.proofs.Tests.{eqb-true}
use Rattle.qss_machine.proofs.Among.{among_rows}
use Rattle.qss_run.proofs.Rewatching.{watched_as}
use Rattle.qss_run.proofs.Speeds.{speeds_same}

-- the detector of a condition is at its value, at the speed of slopes before, and has its truth
pub record IsWatchedThere (m : Machine) (tick : ℕ) (moved : List ℕ) (states d slopes : List ℤ) (place : ℕ) (now : DetectorStates) : Type 0 where
  pub before : List ℤ
  pub slopes_before : AreSlopesBefore m moved before slopes place
  pub watched : IsDetectorAt m tick states d before place (detector_at now.detectors place) (due_at now.dues (state_count m + place))
  pub own_truth : flag_at now.after_handlers place ≡ truth m (condition_at m place) states d tick

-- a number in none of the lists is not in one of them
none_among : (f : ℕ → List ℕ) (xs : List ℕ) (place : ℕ) → is_listed (flat_map f xs) place ≡ false → (i : ℕ) → is_listed xs i ≡ true → is_listed (f i) place ≡ false
none_among f [] place none i among = absurd (cc)
none_among f (x ∷ xs) place none i among =
    let parts = or_parts (is_listed (f x) place) (is_listed (flat_map f xs) place) (sym (list_any-append (λ (k : ℕ). k == place) (f x) (flat_map f xs)) ∙ none) in
    elim (or_cases (x == i) (is_listed xs i) among) [
      | inl same ↦ subst (λ (k : ℕ). is_listed (f k) place ≡ false) (eqb-true x i same) parts.0
      | inr rest ↦ none_among f xs place parts.1 i rest
    ]

-- a number that is in neither of two lists
in_neither : (xs ys : List ℕ) (place : ℕ) → is_listed (xs ++ ys) place ≡ false → (is_listed xs place ≡ false) × (is_listed ys place ≡ false)
in_neither xs ys place none = or_parts (is_listed xs place) (is_listed ys place) (sym (list_any-append (λ (k : ℕ). k == place) xs ys) ∙ none)

clash : {P : Type 0} (b : Bool) → b ≡ true → b ≡ false → P
clash b is is_not = absurd (cc)

-- ---- what a condition does not read

module _ (m : Machine) (place : ℕ) (h : place < length (conditions m)) where
  -- a condition is among those that read a variable where it reads it
  among_readers : (var : ℕ) → condition_reads var (condition_at m place) ≡ true → is_listed (reading_conditions m var) place ≡ true
  among_readers var reads = among_conditions m var place h ∙ reads

  -- a variable that an untouched condition reads is not one of these, and its row reads none of them
  not_one : (vars : List ℕ) → is_listed (touched_by m vars) place ≡ false → (j : ℕ) → condition_reads j (condition_at m place) ≡ true → is_listed vars j ≡ false
  not_one vars none j reads =
      false_from_ne_true (is_listed vars j)
      (λ among.
      let own = in_neither (readers_of m (reading_rows m j)) (reading_conditions m j) place (none_among (touched_of m) vars place none j among) in
      clash (is_listed (reading_conditions m j) place) (among_readers j reads) own.1)

  row_reads_none : (vars : List ℕ) → is_listed (touched_by m vars) place ≡ false → (j : ℕ) → j < state_count m → condition_reads j (condition_at m place) ≡ true → reads_moved m vars j ≡ false
  row_reads_none vars none j inside reads =
      false_from_ne_true (reads_moved m vars j)
      (λ some.
      let found = Any-from_list_any (λ i. row_reads i (row_at m j)) vars some in
      let i : ℕ = found.1 in
      let among : is_listed vars i ≡ true = list_any_at (λ (k : ℕ). k == i) vars found.0 i found.2 (eqb-yes _ i found.3) in
      let own = in_neither (readers_of m (reading_rows m i)) (reading_conditions m i) place (none_among (touched_of m) vars place none i among) in
      let row : is_listed (reading_rows m i) j ≡ true = among_rows m i j inside ∙ found.4 in
      clash (is_listed (reading_conditions m j) place) (among_readers j reads) (none_among (reading_conditions m) (reading_rows m i) place own.0 j row))

  -- nor is it the value before the tick of one of these
  not_before : (assigned : List ℕ) → is_listed (readers_before m assigned) place ≡ false → (j : ℕ) → condition_reads (j + discrete_count m) (condition_at m place) ≡ true → is_listed assigned j ≡ false
  not_before assigned none j reads =
      false_from_ne_true (is_listed assigned j)
      (λ among.
      clash (is_listed (reading_conditions m (j + discrete_count m)) place) (among_readers (j + discrete_count m) reads)
      (none_among (λ v. reading_conditions m (v + discrete_count m)) assigned place none j among))

-- ---- numbers in lists one after another

one_after_another : (a b c d : List ℤ) (j : ℕ) → length a ≡ length b → (j < length a → int_at a j ≡ int_at b j) → (length a ≤ j → int_at c (j - length a) ≡ int_at d (j - length a)) →
    int_at (a ++ c) j ≡ int_at (b ++ d) j
one_after_another a b c d j many first second = elim (cases_lt j (length a)) [
  | inl below ↦ get_or_append_left a c (pos 0) j below ∙ first below ∙ sym (get_or_append_left b d (pos 0) j (omega (arith, below, many)))
  | inr past ↦
      get_or-append_right a c (length a) j (pos 0) refl past ∙ second past ∙ sym (get_or-append_right b d (length a) j (pos 0) (sym many) past)
]

in_units : (unit : ℤ) (a b : List ℤ) (g : ℕ) → length a ≡ length b → int_at a g ≡ int_at b g → int_at (map (λ d. d *ℤ unit) a) g ≡ int_at (map (λ d. d *ℤ unit) b) g
in_units unit a b g many same = elim (cases_lt g (length a)) [
  | inl below ↦
      get_or-map (λ d. d *ℤ unit) a g (pos 0) (pos 0) below ∙ ap (λ z. z *ℤ unit) same ∙ sym (get_or-map (λ d. d *ℤ unit) b g (pos 0) (pos 0) (omega (arith, below, many)))
  | inr past ↦
      get_or_past (map (λ d. d *ℤ unit) a) g (pos 0) (omega (arith, past, length-map a (λ d. d *ℤ unit)))
      ∙ sym (get_or_past (map (λ d. d *ℤ unit) b) g (pos 0) (omega (arith, past, many, length-map b (λ d. d *ℤ unit))))
]

-- ---- all conditions

module _ (m : Machine) (tick : ℕ) (moved reinitialized assigned changed : List ℕ) (x states pre d before slopes : List ℤ) (old new : DetectorStates)
    (upto : AreDetectorsUpTo m tick moved reinitialized assigned changed x states pre d before slopes old)
    (are : AreSettled m tick states d slopes (touched_after m reinitialized assigned changed) old new) where
  module _ (place : ℕ) (h : place < length (conditions m)) (none : is_listed (touched_after m reinitialized assigned changed) place ≡ false) where
    not_before_tick : is_listed (readers_before m assigned) place ≡ false
    not_before_tick = (in_neither ((changed ++ touched_by m reinitialized) ++ touched_by m assigned) (readers_before m assigned) place none).1

    first_three : is_listed ((changed ++ touched_by m reinitialized) ++ touched_by m assigned) place ≡ false
    first_three = (in_neither ((changed ++ touched_by m reinitialized) ++ touched_by m assigned) (readers_before m assigned) place none).0

    not_assigned : is_listed (touched_by m assigned) place ≡ false
    not_assigned = (in_neither (changed ++ touched_by m reinitialized) (touched_by m assigned) place first_three).1

    first_two : is_listed (changed ++ touched_by m reinitialized) place ≡ false
    first_two = (in_neither (changed ++ touched_by m reinitialized) (touched_by m assigned) place first_three).0

    not_reinitialized : is_listed (touched_by m reinitialized) place ≡ false
    not_reinitialized = (in_neither changed (touched_by m reinitialized) place first_two).1

    not_changed : is_listed changed place ≡ false
    not_changed = (in_neither changed (touched_by m reinitialized) place first_two).0

    reads_entry : (k : ℕ) (entry : Entry) → k < length (condition_at m place).form.entries →
        condition_reads (get_or (condition_at m place).form.entries k entry).var (condition_at m place) ≡ true
    reads_entry k entry inside =
        let var : ℕ = (get_or (condition_at m place).form.entries k entry).var in
        list_any_at (λ (e : Entry). e.var == var) (condition_at m place).form.entries k entry inside (eqb-yes var var refl)

    discrete_same : (g : ℕ) → is_listed assigned (state_count m + g) ≡ false → int_at pre g ≡ int_at d g
    discrete_same g kept = elim (cases_lt g (discrete_count m)) [
      | inl below ↦ sym (upto.other_discretes g below kept)
      | inr past ↦ get_or_past pre g (pos 0) (omega (arith, past, upto.many_discretes.0)) ∙ sym (get_or_past d g (pos 0) (omega (arith, past, upto.many_discretes.1)))
    ]

    -- what it reads is the same
    input_same : (var : ℕ) → condition_reads var (condition_at m place) ≡ true → int_at (inputs m x pre pre) var ≡ int_at (inputs m states d d) var
    input_same var reads =
        let unit : ℤ = level_unit m in
        let units : List ℤ → List ℤ = map (λ z. z *ℤ unit) in
        let many : length pre ≡ length d = upto.many_discretes.0 ∙ sym upto.many_discretes.1 in
        let many_units : length (units pre) ≡ length (units d) = length-map pre (λ z. z *ℤ unit) ∙ many ∙ sym (length-map d (λ z. z *ℤ unit)) in
        let here : length (units pre) ≡ discrete_count m = length-map pre (λ z. z *ℤ unit) ∙ upto.many_discretes.0 in
        one_after_another x states (units pre ++ units pre) (units d ++ units d) var (upto.many_states.0 ∙ sym upto.many_states.1)
        (λ below. sym (upto.other_states var (omega (arith, below, upto.many_states.0)) (not_one m place h reinitialized not_reinitialized var reads)))
        (λ past.
        let g : ℕ = var - length x in
        let e : var ≡ state_count m + g = omega (arith, past, upto.many_states.0) in
        one_after_another (units pre) (units d) (units pre) (units d) g many_units
        (λ below. in_units unit pre d g many (discrete_same g (not_one m place h assigned not_assigned (state_count m + g) (subst (λ (v : ℕ). condition_reads v (condition_at m place) ≡ true) e reads))))
        (λ over.
        let k : ℕ = g - length (units pre) in
        let e : var ≡ (state_count m + k) + discrete_count m = omega (arith, past, upto.many_states.0, over, here) in
        in_units unit pre d k many
        (discrete_same k (not_before m place h assigned not_before_tick (state_count m + k) (subst (λ (v : ℕ). condition_reads v (condition_at m place) ≡ true) e reads)))))

    same_value : value_of m (condition_at m place).form x pre pre tick ≡ value_of m (condition_at m place).form states d d tick
    same_value =
        let sums = speeds_same m (condition_at m place).form (inputs m x pre pre) (inputs m states d d) (λ k entry inside. input_same _ (reads_entry k entry inside)) in
        omega (arith, ints, sums)

    -- the slopes of the states that it reads are as they were, but of those whose rows read a moved one
    slopes_before : AreSlopesBefore m moved before slopes place
    slopes_before = record {
      as_many = upto.many_slopes.0;
      others = λ j below reads still. upto.other_slopes j below still (row_reads_none m place h assigned not_assigned j below reads);
    }

    kept_watch : IsDetectorAt m tick states d before place (detector_at new.detectors place) (due_at new.dues (state_count m + place))
    kept_watch =
        let kept = are.kept place none in
        subst (λ (w : DetectorView). IsDetectorAt m tick states d before place w (due_at new.dues (state_count m + place))) (sym kept.detector)
        (subst (IsDetectorAt m tick states d before place (detector_at old.detectors place)) (sym kept.due)
        (watched_as m tick x pre before states d before place (detector_at old.detectors place) (due_at old.dues (state_count m + place)) same_value refl (upto.unchanged place h not_changed).watched))

    kept_truth : flag_at new.after_handlers place ≡ truth m (condition_at m place) states d tick
    kept_truth = (are.kept place none).truth ∙ (upto.unchanged place h not_changed).own_truth ∙ ap (compares (condition_at m place).rel) same_value

  -- the detector of each condition is at its value, and has its truth; it is at its speed where it
  -- settled
  pub each_watched : (place : ℕ) → place < length (conditions m) → IsWatchedThere m tick moved states d slopes place new
  each_watched place h = elim (cases_Bool (is_listed (touched_after m reinitialized assigned changed) place)) [
    | inl touched ↦
        let own = are.own place touched in
        record { before = slopes; slopes_before = record { as_many = upto.many_slopes.1; others = λ j below reads still. refl }; watched = own.watched; own_truth = own.own_truth }
    | inr none ↦ record { before = before; slopes_before = slopes_before place h none; watched = kept_watch place h none; own_truth = kept_truth place h none }
  ]
