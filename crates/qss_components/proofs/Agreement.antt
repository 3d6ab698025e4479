-- Components that receive no message agree with the values of their variables at later ticks.
use Rattle.qss_components.proofs.Common
use Common.{*ℤ-zero, ℕ, ℤ, ◌*ℤ◌, ◌+ℤ◌, ◌+◌, ◌-◌, ◌<◌, ◌∙◌, ◌≡◌, ap, arith, Bool, Condition}
use Common.{condition_at, Crossing, CrossingAgrees, discrete_count, false, form_at, FunctionState}
use Common.{get_or, if-false, if-true, if◌then◌else◌, Input, InputAgrees, int_at, int_at-tabulate}
use Common.{ints, level_unit, Line, line_more, LineAgrees, Machine, Moving, moving_of, nat_lt}
use Common.{nat_tests, pos, refl, state_count, SummingAgrees, sym, true, Values, values_after}
use Rattle.qss_components.specs.ComponentTheorems.{AgreementLasts}
use Rattle.qss_components.proofs.Moving.{form_moves}

module _ (m : Machine) (tick ticks : ℕ) (v : Values) where
  -- the state after the ticks
  later_state : (j : ℕ) → j < state_count m → int_at (values_after m v ticks).states j ≡ int_at v.states j +ℤ pos ticks *ℤ int_at v.slopes j
  later_state j h = int_at-tabulate (state_count m) (λ j. int_at v.states j +ℤ pos ticks *ℤ int_at v.slopes j) j h

  integrator_later : (j : ℕ) (line : Line) → j < state_count m → LineAgrees tick v j line → LineAgrees (tick + ticks) (values_after m v ticks) j line
  integrator_later j line h a = record {
    not_later = omega (arith, a.not_later);
    here = line_more line.x line.slope line.tick tick ticks a.not_later ∙ ap (λ z. z +ℤ pos ticks *ℤ line.slope) a.here
        ∙ ap (λ z. int_at v.states j +ℤ pos ticks *ℤ z) a.own_slope ∙ sym (later_state j h);
    own_slope = a.own_slope;
    own_level = a.own_level;
  }

  function_later : (j : ℕ) (s : FunctionState) → SummingAgrees m tick v j s → SummingAgrees m (tick + ticks) (values_after m v ticks) j s
  function_later j s a = record { own = a.own; not_later = omega (arith, a.not_later); as_many = a.as_many; levels = a.levels; discretes = a.discretes; own_sum = a.own_sum }

  abbrev moved : Moving → Moving
  moved i = record { at = i.at +ℤ pos ticks *ℤ i.speed; speed = i.speed }

  still : (z : ℤ) → z ≡ z +ℤ pos ticks *ℤ pos 0
  still z = omega (arith, ints, *ℤ-zero (pos ticks))

  -- a variable goes on
  moving_later : (var : ℕ) → moving_of m (values_after m v ticks) var ≡ moved (moving_of m v var)
  moving_later var = by_state (nat_lt var (state_count m)) refl
    where
      rests : (b : Bool) → (if b then record { at = int_at v.discretes (var - state_count m) *ℤ level_unit m; speed = pos 0 } else record { at = int_at v.discretes (var - (state_count m + discrete_count m)) *ℤ level_unit m; speed = pos 0 })
          ≡ moved (if b then record { at = int_at v.discretes (var - state_count m) *ℤ level_unit m; speed = pos 0 } else record { at = int_at v.discretes (var - (state_count m + discrete_count m)) *ℤ level_unit m; speed = pos 0 })
      rests true = ap (λ (z : ℤ). record { at = z; speed = pos 0 }) (still (int_at v.discretes (var - state_count m) *ℤ level_unit m))
      rests false = ap (λ (z : ℤ). record { at = z; speed = pos 0 }) (still (int_at v.discretes (var - (state_count m + discrete_count m)) *ℤ level_unit m))

      below : nat_lt var (state_count m) ≡ true → var < state_count m
      below e = grind (arith, nat_tests)

      by_state : (b : Bool) → nat_lt var (state_count m) ≡ b → moving_of m (values_after m v ticks) var ≡ moved (moving_of m v var)
      by_state true e =
          if-true (nat_lt var (state_count m)) _ _ e
          ∙ ap (λ (z : ℤ). record { at = z; speed = int_at v.slopes var }) (later_state var (below e))
          ∙ ap moved (sym (if-true (nat_lt var (state_count m)) _ _ e))
      by_state false e =
          if-false (nat_lt var (state_count m)) _ _ e
          ∙ rests (nat_lt var (state_count m + discrete_count m))
          ∙ ap moved (sym (if-false (nat_lt var (state_count m)) _ _ e))

  input_later : (i : Input) → InputAgrees m tick v i → InputAgrees m (tick + ticks) (values_after m v ticks) i
  input_later i a = record {
    not_later = omega (arith, a.not_later);
    here = ap (λ (z : ℤ). record { at = z; speed = i.speed }) (line_more i.at i.speed i.tick tick ticks a.not_later) ∙ ap moved a.here ∙ sym (moving_later i.var);
  }

  crossing_later : (place : ℕ) (condition : Condition) (c : Crossing) → CrossingAgrees m tick v place condition c → CrossingAgrees m (tick + ticks) (values_after m v ticks) place condition c
  crossing_later place condition c a = record {
    own = a.own;
    own_rel = a.own_rel;
    own_time = a.own_time;
    own_constant = a.own_constant;
    entries = a.entries;
    not_later = omega (arith, a.not_later);
    lines = λ k d h. input_later (get_or c.inputs k d) (a.lines k d h);
    here = line_more c.detector.value c.detector.speed c.detector.tick tick ticks a.not_later
        ∙ ap (λ z. z +ℤ pos ticks *ℤ c.detector.speed) a.here
        ∙ ap (λ z. form_at m c.inputs c.time c.gamma tick +ℤ pos ticks *ℤ z) a.own_speed
        ∙ sym (form_moves m c.inputs c.time c.gamma tick ticks (λ k d h. (a.lines k d h).not_later));
    own_speed = a.own_speed;
  }

pub agreement_lasts : AgreementLasts
agreement_lasts m tick ticks v line s c a = record {
  integrators = λ j h. integrator_later m tick ticks v j (line j) h (a.integrators j h);
  functions = λ j h. function_later m tick ticks v j (s j) (a.functions j h);
  crossings = λ place h. crossing_later m tick ticks v place (condition_at m place) (c place) (a.crossings place h);
}
