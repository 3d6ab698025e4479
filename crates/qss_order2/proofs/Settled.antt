-- What follows from new levels, of the states of a list.
use Rattle.qss_order2.proofs.Common
use Common.{ℕ, ℤ, ◌*ℤ◌, ◌+◌, ◌<◌, ◌^◌, ◌∙◌, ◌≡◌, ◌≤ℤ◌, ◌≤◌, abs_of, All, ap, AreChanges, AreQuiet}
use Common.{arith, bend_at, Bool, CanRead, cases_lt, exceeds, false, index_of, inl, inr, int_at}
use Common.{int_wrap, ints, is_listed, IsAnswer, IsRuleApplied, IsRuled2, IsSafeBound, IsWithin}
use Common.{IsWritten, length, level_unit, levels_on, List, Machine, MatchBool, Motion, None}
use Common.{none_past, not, Option, option_or-None, past_levels, Place, place_in, pos, refl}
use Common.{rise_at, rise_change_weight, rise_weight, Some, start_coefficient, state_count, subst}
use Common.{sym, true, unit_fits, within-passes}
use Rattle.qss_order2.specs.Stores.{HasChanged}
use Rattle.std.specs.Int.{w128}
use Rattle.qss_order2.proofs.Bounds.{table_within, rise_by_weight, bend_by_weight, factor_small}
use Rattle.qss_order2.proofs.Motions.{at_levels, here_level}
use Rattle.qss_order2.proofs.ColumnSums.{wrap_small}
use Rattle.qss_order2.proofs.Sizes.{sum_from_zero}
use Rattle.qss_order2.proofs.SizeSums.{size_from_zero}
use Rattle.qss_order2.proofs.Quiet.{same_bend_weight}
use Rattle.qss_order2.proofs.Settlings.{near_ones, near_are, past_first, past_then, of_changes}

pub listed_below : (n : ℕ) (list : List ℕ) → All (λ j. j < n) list → (j : ℕ) →
    is_listed list j ≡ true → j < n
listed_below n list below j e = let found = index_of list j e in omega (
  arith,
  below found.0 0 found.1,
  found.2,
)

by_listed : (b : Bool) (P Q : Type 0) → (b ≡ true → P) → (b ≡ false → Q) → MatchBool b P Q
by_listed true P Q p q = p refl
by_listed false P Q p q = q refl

module _ (m : Machine) (levels : List ℤ) (none : past_levels m levels ≡ None) where
  pub rise_bounded : (j : ℕ) → j < state_count m → IsWithin 94 (rise_at m j levels)
  rise_bounded j h = rise_by_weight m levels (option_or-None _ _ none).1 j h

-- answers for the states of a list
pub listed_changes : (nearest : Bool) (m : Machine) (left : List ℕ) (levels rises old new : List ℤ)
    → length old ≡ state_count m →
    ((j : ℕ) → j < state_count m → is_listed left j ≡ true → int_at rises j ≡ rise_at m j levels) →
    IsWritten (pos 0) (λ j z. IsAnswer nearest (int_at rises j) (level_unit m) z) left old new →
    AreChanges (IsRuled2 nearest) m (is_listed left) levels old new
listed_changes nearest m left levels rises old new many own written = record {
  one_each = written.as_many ∙ many;
  each = λ j h. by_listed (is_listed left j) (IsAnswer nearest (rise_at m j levels) (level_unit m)
      (int_at new j)) (int_at new j ≡ int_at old j)
      (λ e. subst (λ r. IsAnswer nearest r (level_unit m) (int_at new j)) (own j h e)
      (written.each j e)) (λ e. written.others j e);
}

-- rows that read none of them are as flat as they were
pub flat_after : (m : Machine) (left affected : List ℕ) (old new : List ℤ) →
    AreQuiet m (is_listed left) (is_listed affected) →
    ((i : ℕ) → i < state_count m → is_listed left i ≡ false → int_at new i ≡ int_at old i) →
    (j : ℕ) → j < state_count m → is_listed affected j ≡ false →
    exceeds 94 (rise_change_weight m old j) ≡ false → exceeds 94 (rise_change_weight m new j)
    ≡ false
flat_after m left affected old new quiet kept j h not flat =
    ap (exceeds 94) (same_bend_weight m (is_listed left) j (quiet j h not) new old kept) ∙ flat

-- level slopes within a safe bound exceed no limit
pub bounded_flat : (m : Machine) (bound : ℤ) → IsSafeBound m bound → (changes : List ℤ) →
    length changes ≡ state_count m → ((j : ℕ) → j < state_count m →
    abs_of (int_at changes j) ≤ℤ bound) →
    (j : ℕ) → j < state_count m → exceeds 94 (rise_change_weight m changes j) ≡ false
bounded_flat m bound bounded changes many small j h =
    let n = state_count m in
    let own = table_within 94 n (rise_weight m changes) (option_or-None _ _ (bounded changes many
    small)).1 j h in
    let low = sum_from_zero n (λ i. abs_of (start_coefficient m j i *ℤ int_at changes i))
    (λ i. size_from_zero (start_coefficient m j i *ℤ int_at changes i)) in
    within-passes 94 (rise_change_weight m changes j) (omega (arith, ints, own, low))

-- a slope or a second difference modulo 2^128 is the one of a row whose absolute row sum is within its limit
pub exact : (x z : ℤ) → x ≡ int_wrap w128 z → IsWithin 94 z → x ≡ z
exact x z is small = is ∙ wrap_small z (omega (arith, small))

-- new level slopes, and the least row whose absolute row sum of level slopes exceeds its limit
pub is_rule_applied : (nearest : Bool) (m : Machine) (left affected : List ℕ) (levels : List ℤ)
    (q1 q2 : Motion) (over : Option ℕ) → HasChanged (IsRuled2 nearest) m left levels q1 q2 →
    past_levels m levels ≡ None →
    over ≡ of_changes m q2.changes.items → ((j : ℕ) → j < state_count m →
    is_listed affected j ≡ true → int_at q1.rises.items j ≡ int_wrap w128 (rise_at m j levels)) →
    IsRuleApplied (IsRuled2 nearest) m left affected levels q1 q2 over
is_rule_applied nearest m left affected levels q1 q2 over changed none is risen = record {
  changes = q2.changes.items;
  are_changes = changed.are_changes;
  is_over = is ∙ sym (past_then m levels q2.changes.items none);
  places = changed.places;
  taken = λ e. refl;
  held = λ e. changed.held;
  rises = changed.rises;
  risen = λ e j h t. ap (λ rs. int_at rs.items j) changed.rises ∙ exact (int_at q1.rises.items j)
      (rise_at m j levels) (risen j h t) (rise_bounded m levels none j h);
  bends = λ e j h.
      let heavy = table_within 94 (state_count m) (rise_change_weight m q2.changes.items) (sym is ∙
      e)
      j h in
      exact (int_at q2.bends.items j) (bend_at m j q2.changes.items) (changed.bends j h)
      (bend_by_weight m q2.changes.items j heavy);
}

-- where a level is past a limit, nothing follows
pub is_past_limit : (nearest : Bool) (m : Machine) (left affected : List ℕ) (levels : List ℤ)
    (q : Motion) (over : Option ℕ) (var : ℕ) → over ≡ Some var → over ≡ past_levels m levels →
    IsRuleApplied (IsRuled2 nearest) m left affected levels q q over
is_past_limit nearest m left affected levels q over var is past = record {
  changes = near_ones nearest m (is_listed left) levels q.changes.items;
  are_changes = near_are nearest m (is_listed left) levels q.changes.items;
  is_over = is ∙ sym (past_first m levels (near_ones nearest m (is_listed left)
      levels q.changes.items) var (sym past ∙ is));
  places = refl;
  taken = λ e. absurd (clash_of e);
  held = λ e. absurd (clash_of e);
  rises = refl;
  risen = λ e. absurd (clash_of e);
  bends = λ e. absurd (clash_of e);
}
  where
    wrong : Some var ≡ None → ⊥
    wrong e = cc

    clash_of : over ≡ None → ⊥
    clash_of e = wrong (sym is ∙ e)

-- a number whose multiple by the unit is small is small
pub change_of_held : (m : Machine) (z : ℤ) → IsWithin 95 (level_unit m *ℤ z) → IsWithin 95 z
change_of_held m z small = let u = unit_fits m in factor_small (2 ^ (m.p + m.k)) z (omega (
  arith,
  ints,
  u.from_one,
)) small

-- levels within their limits may be taken up to the end of a window, with new changes
pub window_reads : (m : Machine) (tick window : ℕ) (ps : List Place) (cs ds : List ℤ) →
    CanRead (state_count m) tick ps cs → past_levels m (levels_on (state_count m) ps cs tick)
    ≡ None → tick ≤ window →
    ((j : ℕ) → j < state_count m → window ≤ (place_in ps j).since + 65536) →
    length ds ≡ state_count m → ((j : ℕ) → j < state_count m →
    IsWithin 95 (level_unit m *ℤ int_at ds j)) →
    CanRead (state_count m) window ps ds
window_reads m tick window ps cs ds reads none within near many held = record {
  as_many_changes = many;
  past = λ j h. omega (arith, reads.past j h, within);
  near = near;
  small = λ j h before. elim (cases_lt (place_in ps j).since tick) [
    | inl low ↦ reads.small j h low
    | inr high ↦
        let here : (place_in ps j).since ≡ tick = omega (arith, high, reads.past j h) in
        let own : (place_in ps j).level ≡ int_at (levels_on (state_count m) ps cs tick) j =
        sym (at_levels (state_count m) ps cs tick j h ∙ here_level (place_in ps j) (int_at cs j)
        tick here) in
        subst (IsWithin 49) (sym own) (none_past 49 (levels_on (state_count m) ps cs tick)
        (option_or-None _ _ none).0 j)
  ];
  small_changes = λ j h before. change_of_held m (int_at ds j) (held j h);
}
