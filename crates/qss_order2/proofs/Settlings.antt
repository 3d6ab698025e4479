-- What follows from new levels.
use Rattle.qss_order2.proofs.Common
use Common.{ℕ, ℤ, ◌*ℤ◌, ◌<◌, ◌∙◌, ◌≡◌, ap, AreChanges, arith, Bool, false, first_exceeding}
use Common.{first_exceeding_limit, FreeChange, if◌then◌else◌, int_at, ints, IsRuled2, IsWithin}
use Common.{level_unit, List, Machine, MatchBool, nearest_change, None, Option, option_or}
use Common.{past_levels, refl, rise_at, rise_change_weight, rise_weight, SlopeRuleOf, Some}
use Common.{state_count, subst, sym, tabulate, true, unit_fits, unit_positive}
use Rattle.mu_num.proofs.Quotients.{nearest_meets}
use Rattle.qss_order2.specs.SecondRunLaws.{NearestIsFree}
use Rattle.qss_order2.proofs.Uniqueness.{changes_by, changes_are}

-- ---- limits in their order

or_again : (a b c : Option ℕ) → option_or (option_or a b) c ≡ option_or a (option_or b c)
or_again None b c = refl
or_again (Some v) b c = refl

abbrev pub of_changes : Machine → List ℤ → Option ℕ
of_changes m changes = first_exceeding 94 (tabulate (state_count m) (rise_change_weight m changes))

module _ (m : Machine) (levels changes : List ℤ) where
  again : option_or (past_levels m levels) (of_changes m changes) ≡ first_exceeding_limit m levels
      changes
  again = or_again (first_exceeding 49 levels) (first_exceeding 94 (tabulate (state_count m)
      (rise_weight m levels))) (of_changes m changes)

  pub past_first : (var : ℕ) → past_levels m levels ≡ Some var →
      first_exceeding_limit m levels changes ≡ Some var
  past_first var e = sym again ∙ ap (λ (o : Option ℕ). option_or o (of_changes m changes)) e

  pub past_then : past_levels m levels ≡ None → first_exceeding_limit m levels changes ≡ of_changes
      m changes
  past_then e = sym again ∙ ap (λ (o : Option ℕ). option_or o (of_changes m changes)) e

-- ---- changes

pub nearest_is_free : NearestIsFree
nearest_is_free unit rise h = let f = nearest_meets rise unit h in omega (arith, ints, f.near)

module _ (nearest : Bool) (m : Machine) (asked : ℕ → Bool) (levels old : List ℤ) where
  -- there are some
  abbrev pub near_ones : List ℤ
  near_ones = tabulate (state_count m) (λ j. if asked j then nearest_change (level_unit m)
      (rise_at m j levels) else int_at old j)

  pub near_are : AreChanges (IsRuled2 nearest) m asked levels old near_ones
  near_are = changes_by (SlopeRuleOf nearest_change) (IsRuled2 nearest) (λ rise z is. record {
    close = subst (FreeChange (level_unit m) rise) (sym is) (nearest_is_free (level_unit m) rise
        (unit_positive m));
    named = λ e. is;
  }) (changes_are nearest_change m asked levels old)

  held_by : (b : Bool) (rise new before : ℤ) → IsWithin 94 rise →
      IsWithin 95 (level_unit m *ℤ before) → MatchBool b (IsRuled2 nearest (level_unit m) rise new)
      (new ≡ before) → IsWithin 95 (level_unit m *ℤ new)
  held_by true rise new before small held answer = let u = unit_fits m in omega (
    arith,
    ints,
    small,
    u.within,
    answer.close,
  )
  held_by false rise new before small held e = subst (λ z. IsWithin 95 (level_unit m *ℤ z)) (sym e)
      held

  -- answers to small rises are small
  pub held_after : (new : List ℤ) → AreChanges (IsRuled2 nearest) m asked levels old new →
      ((j : ℕ) → j < state_count m → IsWithin 94 (rise_at m j levels)) →
      ((j : ℕ) → j < state_count m → IsWithin 95 (level_unit m *ℤ int_at old j)) → (j : ℕ) →
      j < state_count m → IsWithin 95 (level_unit m *ℤ int_at new j)
  held_after new are small held j h = held_by (asked j) (rise_at m j levels) (int_at new j)
      (int_at old j) (small j h) (held j h) (are.each j h)
