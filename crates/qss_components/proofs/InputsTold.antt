-- An input that receives a message, by the kind of the message.
use Rattle.qss_components.proofs.Common
use Common.{ℕ, ℤ, ◌*ℤ◌, ◌+◌, ◌==◌, ◌||◌, ◌∙◌, ◌≡◌, ◌≢◌, ap, Bool, Crossing, crossing_after_message}
use Common.{DetectorView, Discrete, discrete_count, eqb-no, eqb-yes, false, form_at, if-false}
use Common.{if-true, Input, input_after_message, input_at, level_unit, List, Machine, map, Message}
use Common.{not, pos, refl, Slope, speed_by, State, subst, sym, true}

module _ (m : Machine) (tick : ℕ) (i : Input) (message : Message) (var : ℕ) where
  pub slope_given : (slope : ℤ) → message ≡ Slope var slope → i.var ≡ var → record i { tick = tick; at = input_at tick i; speed = slope } ≡ input_after_message m tick message i
  slope_given slope is own =
      subst (λ (s : Message). record i { tick = tick; at = input_at tick i; speed = slope } ≡ input_after_message m tick s i) (sym is)
      (sym (if-true (i.var == var) (record i { tick = tick; at = input_at tick i; speed = slope }) i (eqb-yes i.var var own)))

  pub slope_not_given : (slope : ℤ) → message ≡ Slope var slope → i.var ≢ var → i ≡ input_after_message m tick message i
  slope_not_given slope is ne =
      subst (λ (s : Message). i ≡ input_after_message m tick s i) (sym is)
      (sym (if-false (i.var == var) (record i { tick = tick; at = input_at tick i; speed = slope }) i (eqb-no i.var var ne)))

  pub state_given : (state : ℤ) → message ≡ State var state → i.var ≡ var → record i { tick = tick; at = state } ≡ input_after_message m tick message i
  state_given state is own =
      subst (λ (s : Message). record i { tick = tick; at = state } ≡ input_after_message m tick s i) (sym is)
      (sym (if-true (i.var == var) (record i { tick = tick; at = state }) i (eqb-yes i.var var own)))

  pub state_not_given : (state : ℤ) → message ≡ State var state → i.var ≢ var → i ≡ input_after_message m tick message i
  state_not_given state is ne =
      subst (λ (s : Message). i ≡ input_after_message m tick s i) (sym is)
      (sym (if-false (i.var == var) (record i { tick = tick; at = state }) i (eqb-no i.var var ne)))

  pub discrete_given : (value : ℤ) → message ≡ Discrete var value → (i.var == var || i.var == var + discrete_count m) ≡ true →
      record i { tick = tick; at = value *ℤ level_unit m; speed = pos 0 } ≡ input_after_message m tick message i
  discrete_given value is of =
      subst (λ (s : Message). record i { tick = tick; at = value *ℤ level_unit m; speed = pos 0 } ≡ input_after_message m tick s i) (sym is)
      (sym (if-true (i.var == var || i.var == var + discrete_count m) (record i { tick = tick; at = value *ℤ level_unit m; speed = pos 0 }) i of))

  pub discrete_not_given : (value : ℤ) → message ≡ Discrete var value → (i.var == var || i.var == var + discrete_count m) ≡ false → i ≡ input_after_message m tick message i
  discrete_not_given value is other =
      subst (λ (s : Message). i ≡ input_after_message m tick s i) (sym is)
      (sym (if-false (i.var == var || i.var == var + discrete_count m) (record i { tick = tick; at = value *ℤ level_unit m; speed = pos 0 }) i other))

-- a crossing whose inputs and detector are those that a message makes is given it
pub given_so : (m : Machine) (c : Crossing) (tick : ℕ) (message : Message) (inputs : List Input) (detector : DetectorView) → inputs ≡ map (input_after_message m tick message) c.inputs →
    detector ≡ record { rel = c.detector.rel; tick = tick; value = form_at m inputs c.time c.gamma tick; speed = speed_by m inputs c.time } →
    record c { detector = detector; inputs = inputs } ≡ crossing_after_message m c tick message
given_so m c tick message inputs detector of_inputs of_watch =
    ap (λ (w : DetectorView). record c { detector = w; inputs = inputs }) of_watch
    ∙ ap (λ (xs : List Input). record c {
      detector = record { rel = c.detector.rel; tick = tick; value = form_at m xs c.time c.gamma tick; speed = speed_by m xs c.time };
      inputs = xs;
    })
    of_inputs

-- the truth that a detector turns to is the other one
pub other_truth : (before after : Bool) → after ≢ before → not before ≡ after
other_truth true true ne = absurd (ne refl)
other_truth true false ne = refl
other_truth false true ne = refl
other_truth false false ne = absurd (ne refl)
