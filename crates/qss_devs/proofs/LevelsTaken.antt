-- Integrators that take their levels one after another, and functions that send their sums.
use Rattle.qss_devs.proofs.Common
use Common.{[], ℕ, ℤ, ◌++◌, ◌+◌, ◌<◌, ◌∙◌, ◌∷◌, ◌≡◌, ◌≢◌, ◌≤◌, Agrees, ap, append-nil}
use Common.{AreNextLevels, AreSent, AreSentUpTo, AreTaken, AreTakenUpTo, AreValues, arith, Bool}
use Common.{cases_eq, cases_lt, Components, exceeds, exceeds_row_limits, false, first_is, Floor}
use Common.{function_state_at, FunctionState, HasEach, if-false, if-true, inl, inr, int_at}
use Common.{int_at-tabulate, ints, is_within_quantum, IsAllowedLevel, IsLevelTaken, IsSlopeSent}
use Common.{IsWithin, IsWithinOneLevel, length, length-map-range_with_len, level_after, level_by}
use Common.{level_unit, leveled, light_row, List, Machine, MatchBool, no_row, None, passes-within}
use Common.{pos, position-none, range_with_len, refl, Row, row_after, row_at, Rule, slope_at}
use Common.{sloped, Some, state_count, subst, suc, sym, tabulate, true, Values, within-passes, zero}
use Rattle.std.proofs.Common.{flat_map, ◌<ℤ◌, append_assoc}
use Rattle.std.proofs.lemmas.Grind.{flat_map-append}
use Rattle.mu_num.proofs.NearLevels.{floor-free, near-free, inward-free}
use Rattle.qss_machine.specs.Ticks.{IsNextLevel}
use Rattle.qss_quant.specs.declared.quantizer.Rule.TheVariants.{Near, Inward}
use Rattle.qss_quant.specs.LevelRules.{IsAnswer}
use Rattle.qss_events.proofs.LevelRows.{range_more}
use Rattle.qss_machine.proofs.Near.{unit_fits}
use Rattle.qss_devs.proofs.Lists.{upto_many, upto_kept, upto_taken, upto_all}
use Rattle.qss_devs.proofs.Overs.{not_past, is_past}

-- ---- the levels of a rule

rule_free : (rule : Rule) (unit state old : ℤ) → pos 0 <ℤ unit → IsWithinOneLevel unit state old (level_by rule unit state old)
rule_free Floor unit state old h = floor-free unit state old h
rule_free Near unit state old h = near-free unit state old h
rule_free Inward unit state old h = inward-free unit state old h

module _ (m : Machine) (rule : Rule) (v : Values) where
  after_allowed : (j : ℕ) → IsNextLevel (IsAllowedLevel (Some rule)) m j (int_at v.states j) (int_at v.levels j) (level_after m rule v j)
  after_allowed j = by (is_within_quantum m j (int_at v.states j) (int_at v.levels j)) refl
    where
      positive : pos 0 <ℤ level_unit m
      positive = omega (arith, ints, (unit_fits m).from_one)

      by : (b : Bool) → is_within_quantum m j (int_at v.states j) (int_at v.levels j) ≡ b →
          MatchBool b (level_after m rule v j ≡ int_at v.levels j) (IsAnswer (Some rule) (int_at v.states j) (int_at v.levels j) (level_unit m) (level_after m rule v j))
      by true e = if-true (is_within_quantum m j (int_at v.states j) (int_at v.levels j)) _ _ e
      by false e =
          let taken : level_after m rule v j ≡ level_by rule (level_unit m) (int_at v.states j) (int_at v.levels j) = if-false (is_within_quantum m j (int_at v.states j) (int_at v.levels j)) _ _ e in
          record {
            close = subst (IsWithinOneLevel (level_unit m) (int_at v.states j) (int_at v.levels j)) (sym taken) (rule_free rule (level_unit m) (int_at v.states j) (int_at v.levels j) positive);
            named = λ other is. let same : rule ≡ other = cc in rw (← same) taken;
          }

  pub all_allowed : AreNextLevels (IsAllowedLevel (Some rule)) m v.states v.levels (tabulate (state_count m) (level_after m rule v))
  all_allowed = record {
    one_each = length-map-range_with_len (level_after m rule v) 0 (state_count m);
    each = λ j h. subst (IsNextLevel (IsAllowedLevel (Some rule)) m j (int_at v.states j) (int_at v.levels j)) (sym (int_at-tabulate (state_count m) (level_after m rule v) j h)) (after_allowed j);
  }

module _ (m : Machine) (rule : Rule) (v : Values) where
  -- the next one has its own level yet
  next_level : (n : ℕ) → int_at (leveled m rule v n).levels n ≡ int_at v.levels n
  next_level n = upto_kept (level_after m rule v) v.levels n n (omega arith)

  next_after : (n : ℕ) → level_after m rule (leveled m rule v n) n ≡ level_after m rule v n
  next_after n = rw (next_level n)

  next_row : (tick n : ℕ) → row_after m rule tick (leveled m rule v n) n ≡ row_after m rule tick v n
  next_row tick n = rw (next_level n)

-- ---- the loop

pub taken_none : {X : Type 0} {g : _} (m : Machine) (rule : Rule) (tick : ℕ) (v : Values)
    (parts : Components X g) (rows : List Row) → Agrees m tick v parts →
    AreTakenUpTo m rule tick v 0 parts rows rows
taken_none {X} {g} m rule tick v parts rows a = record { agree = a; small = λ i h. absurd (omega (arith, h)); rows = sym (append-nil rows) }

rows_more : (f : ℕ → List Row) (n : ℕ) → flat_map f (range_with_len 0 (suc n)) ≡ flat_map f (range_with_len 0 n) ++ f n
rows_more f n =
    let e : 0 + n ≡ n = omega arith in
    ap (flat_map f) (range_more 0 n) ∙ flat_map-append f (range_with_len 0 n) ((0 + n) ∷ []) ∙ ap (λ more. flat_map f (range_with_len 0 n) ++ more) (append-nil (f (0 + n)) ∙ ap f e)

pub taken_more : {X : Type 0} {g : _} {m : Machine} {rule : Rule} {tick : ℕ} {v : Values} {n : ℕ}
    {parts next : Components X g} {old mid new : List Row} →
    AreTakenUpTo m rule tick v n parts old mid →
    IsLevelTaken m rule tick (leveled m rule v n) n next mid new None →
    AreTakenUpTo m rule tick v (n + 1) next old new
taken_more {X} {g} {m} {rule} {tick} {v} {n} {parts} {next} {old} {mid} {new} before step =
    let past : exceeds 43 (level_after m rule v n) ≡ false = sym (ap (exceeds 43) (next_after m rule v n)) ∙ not_past (exceeds 43 (level_after m rule (leveled m rule v n) n)) n step.own_over in
    let e : suc n ≡ n + 1 = omega arith in
    subst (λ (k : ℕ). AreTakenUpTo m rule tick v k next old new) e (record {
      agree = rw (next_after m rule v n) at (step.agree refl);
      small = λ i h. elim (cases_eq i n) [
        | inl same ↦ subst (λ (k : ℕ). IsWithin 43 (level_after m rule v k)) (sym same) (passes-within 43 (level_after m rule v n) past)
        | inr ne ↦ before.small i (omega (arith, h, ne))
      ];
      rows =
          step.rows refl
          ∙ rw (before.rows, next_row m rule v tick n, rows_more (row_after m rule tick v) n)
          (append_assoc old _ _);
    })

rows_same : (f g : ℕ → List Row) (n : ℕ) → ((j : ℕ) → j < n → f j ≡ g j) → flat_map f (range_with_len 0 n) ≡ flat_map g (range_with_len 0 n)
rows_same f g zero same = refl
rows_same f g (suc n) same =
    rows_more f n
    ∙ ap (λ rows. rows ++ f n) (rows_same f g n (λ j h. same j (omega (arith, h))))
    ∙ ap (λ rows. flat_map g (range_with_len 0 n) ++ rows) (same n (omega arith))
    ∙ sym (rows_more g n)

module _ {X : Type 0} {g : _} {m : Machine} {rule : Rule} {tick : ℕ} {v : Values}
    {parts : Components X g} {old new : List Row} (each : HasEach m v) where
  pub taken_all : AreTakenUpTo m rule tick v (state_count m) parts old new →
      AreTaken m (Some rule) tick v parts old new None
  taken_all taken = record {
    levels = tabulate (state_count m) (level_after m rule v);
    allowed = all_allowed m rule v;
    own_over =
        sym (position-none (pos 0) (exceeds 43) (tabulate (state_count m) (level_after m rule v))
        (λ k inside.
        let h : k < state_count m = omega (arith, inside, length-map-range_with_len (level_after m rule v) 0 (state_count m)) in
        ap (exceeds 43) (int_at-tabulate (state_count m) (level_after m rule v) k h) ∙ within-passes 43 (level_after m rule v k) (taken.small k h)));
    agree = λ e. rw (upto_all (level_after m rule v) v.levels (state_count m) each.levels) at taken.agree;
    rows = λ e.
        rw each.states
        (taken.rows
        ∙ ap (λ (rows : List Row). old ++ rows)
        (rows_same (row_after m rule tick v) _ (state_count m)
        (λ j h. rw (int_at-tabulate (state_count m) (level_after m rule v) j h))));
  }

  -- a level that exceeds its limit ends the loop
  pub taken_over : {n var : ℕ} {before : Components X g} {mid : List Row} → n < state_count m →
      AreTakenUpTo m rule tick v n before old mid →
      IsLevelTaken m rule tick (leveled m rule v n) n parts mid new (Some var) →
      AreTaken m (Some rule) tick v parts old new (Some var)
  taken_over {n} {var} {before} {mid} inside taken step =
      let all : List ℤ = tabulate (state_count m) (level_after m rule v) in
      let as_many : length all ≡ state_count m =
      length-map-range_with_len (level_after m rule v) 0 (state_count m) in
      let over = is_past _ n var step.own_over in
      let past : exceeds 43 (level_after m rule v n) ≡ true =
      sym (ap (exceeds 43) (next_after m rule v n)) ∙ over.0 in
      record {
        levels = all;
        allowed = all_allowed m rule v;
        own_over =
            ap (λ (k : ℕ). Some k) over.1
            ∙ sym (first_is (pos 0) (exceeds 43) all n (omega (arith, inside, as_many))
            (λ k less. ap (exceeds 43)
            (int_at-tabulate (state_count m) (level_after m rule v) k (omega (arith, less, inside)))
            ∙ within-passes 43 (level_after m rule v k) (taken.small k less))
            (ap (exceeds 43) (int_at-tabulate (state_count m) (level_after m rule v) n inside)
            ∙ past));
        agree = λ e. absurd (cc);
        rows = λ e. absurd (cc);
      }

-- the values after some integrators made their transitions are within the limits
pub leveled_values : {X : Type 0} {g : _} {m : Machine} {rule : Rule} {tick : ℕ} {v : Values}
    {n : ℕ} {parts : Components X g} {old new : List Row} → n ≤ state_count m → AreValues m v →
    AreTakenUpTo m rule tick v n parts old new → AreValues m (leveled m rule v n)
leveled_values {X} {g} {m} {rule} {tick} {v} {n} le values taken = record {
  each = record { states = values.each.states; slopes = values.each.slopes; levels = upto_many (level_after m rule v) v.levels n ∙ values.each.levels; discretes = values.each.discretes };
  small = λ i h. elim (cases_lt i n) [
    | inl less ↦ subst (IsWithin 43) (sym (upto_taken (level_after m rule v) v.levels n i (omega (arith, le, values.each.levels)) less)) (taken.small i less)
    | inr past ↦ subst (IsWithin 43) (sym (upto_kept (level_after m rule v) v.levels n i past)) (values.small i h)
  ];
  slow = values.slow;
}

-- ---- functions that send their sums one after another

pub sent_none : {X : Type 0} {g : _} (m : Machine) (tick : ℕ) (v : Values) (parts : Components X g) → Agrees m tick v parts → AreSentUpTo m tick v 0 parts
sent_none {X} {g} m tick v parts a = record { agree = a; light = λ i h. absurd (omega (arith, h)); sent = λ i h. absurd (omega (arith, h)) }

pub sent_more : {X : Type 0} {g : _} {m : Machine} {tick : ℕ} {v : Values} {n : ℕ}
    {parts next : Components X g} → n < state_count m → AreSentUpTo m tick v n parts →
    IsSlopeSent m tick (sloped m v n) n next None →
    ((i : ℕ) → i < state_count m → i ≢ n → function_state_at next i ≡ function_state_at parts i) →
    AreSentUpTo m tick v (n + 1) next
sent_more {X} {g} {m} {tick} {v} {n} {parts} {next} inside before step others =
    let light : exceeds_row_limits m v.levels v.discretes (row_at m n) ≡ false = not_past (exceeds_row_limits m v.levels v.discretes (row_at m n)) n step.own_over in
    let e : suc n ≡ n + 1 = omega arith in
    subst (λ (k : ℕ). AreSentUpTo m tick v k next) e (record {
      agree = step.agree refl;
      light = λ i h. elim (cases_eq i n) [
        | inl same ↦ subst (λ (k : ℕ). exceeds_row_limits m v.levels v.discretes (row_at m k) ≡ false) (sym same) light
        | inr ne ↦ before.light i (omega (arith, h, ne))
      ];
      sent = λ i h. elim (cases_eq i n) [
        | inl same ↦ subst (λ (k : ℕ). (function_state_at next k).changed ≡ None) (sym same) (step.sent refl)
        | inr ne ↦ ap (λ (s : FunctionState). s.changed) (others i (omega (arith, h, inside)) ne) ∙ before.sent i (omega (arith, h, ne))
      ];
    })

module _ {X : Type 0} {g : _} {m : Machine} {tick : ℕ} {v : Values} {parts : Components X g}
    (each : HasEach m v) where
  pub sent_all : AreSentUpTo m tick v (state_count m) parts → AreSent m tick v parts None
  sent_all done = record {
    own_over = sym (position-none no_row (exceeds_row_limits m v.levels v.discretes) m.rows (λ j inside. done.light j (omega (arith, inside, m.has_rows.one_each))));
    agree = λ e. rw (upto_all (λ j. slope_at m j v.levels v.discretes) v.slopes (state_count m) each.slopes) at done.agree;
    sent = λ e. done.sent;
  }

  -- a row that exceeds its limits ends the loop
  pub sent_over : {n var : ℕ} {before : Components X g} → n < state_count m →
      AreSentUpTo m tick v n before → IsSlopeSent m tick (sloped m v n) n parts (Some var) →
      AreSent m tick v parts (Some var)
  sent_over {n} {var} {before} inside done step =
      let over = is_past (exceeds_row_limits m v.levels v.discretes (row_at m n)) n var step.own_over in
      record {
        own_over =
            ap (λ (k : ℕ). Some k) over.1
            ∙ sym (first_is no_row (exceeds_row_limits m v.levels v.discretes) m.rows n
            (omega (arith, inside, m.has_rows.one_each)) (λ k less. done.light k less) over.0);
        agree = λ e. absurd (cc);
        sent = λ e. absurd (cc);
      }

-- the values after some functions made their transitions are within the limits
pub sloped_values : {X : Type 0} {g : _} {m : Machine} {tick : ℕ} {v : Values} {n : ℕ}
    {parts : Components X g} → n ≤ state_count m → AreValues m v → AreSentUpTo m tick v n parts →
    AreValues m (sloped m v n)
sloped_values {X} {g} {m} {tick} {v} {n} le values done =
    let slope : ℕ → ℤ = λ j. slope_at m j v.levels v.discretes in
    record {
      each = record {
        states = values.each.states;
        slopes = upto_many slope v.slopes n ∙ values.each.slopes;
        levels = values.each.levels;
        discretes = values.each.discretes;
      };
      small = values.small;
      slow = λ i h. elim (cases_lt i n) [
        | inl less ↦ subst (IsWithin 88) (sym (upto_taken slope v.slopes n i (omega (arith, le, values.each.slopes)) less)) (light_row m v.levels v.discretes i (done.light i less)).slope
        | inr past ↦ subst (IsWithin 88) (sym (upto_kept slope v.slopes n i past)) (values.slow i h)
      ];
    }
