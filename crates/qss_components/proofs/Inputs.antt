-- Inputs of a crossing that received a message.
use Rattle.qss_components.proofs.Common
use Common.{[], ℕ, ℤ, ◌*ℤ◌, ◌*◌, ◌+◌, ◌-◌, ◌<◌, ◌==◌, ◌^◌, ◌||◌, ◌∙◌, ◌∷◌, ◌≡◌, ◌≤◌, All, ap}
use Common.{AreParts, arith, cases_lt, Discrete, discrete_count, Entry, entry_of, eqb-true, get_or}
use Common.{get_or-map, if_cases, inl, Input, input_after_message, input_at, inr, ints, IsInput}
use Common.{IsMessage, IsWithin, length, length-map, Level, level_unit, List, Machine, map, Message}
use Common.{pos, refl, Slope, State, state_count, StaysIfDiscrete, subst, sum_by, sym, Truth}
use Common.{unsigned_abs-mul}
use Rattle.std.proofs.Common.{unsigned_abs}
use Rattle.std.proofs.Math.Nat.{mul-le-mul}
use Rattle.std.proofs.lemmas.List.Sums.{sum_by-cons}
use Rattle.qss_machine.proofs.Near.{unit_low, unit_high}
use Rattle.qss_components.specs.Crossings.{AreSmallAt}

-- ---- entries stay

-- an input stays one of its entry
entry_same : (m : Machine) (tick : ℕ) (message : Message) (i : Input) → entry_of (input_after_message m tick message i) ≡ entry_of i
entry_same m tick (Slope var slope) i = if_cases (λ (r : Input). entry_of r ≡ entry_of i) (i.var == var) _ _ (λ e. refl) (λ e. refl)
entry_same m tick (State var state) i = if_cases (λ (r : Input). entry_of r ≡ entry_of i) (i.var == var) _ _ (λ e. refl) (λ e. refl)
entry_same m tick (Discrete var value) i = if_cases (λ (r : Input). entry_of r ≡ entry_of i) (i.var == var || i.var == var + discrete_count m) _ _ (λ e. refl) (λ e. refl)
entry_same m tick (Level var level) i = refl
entry_same m tick (Truth place now) i = refl

pub entries_same : (m : Machine) (tick : ℕ) (message : Message) (inputs : List Input) → map entry_of (map (input_after_message m tick message) inputs) ≡ map entry_of inputs
entries_same m tick message [] = refl
entries_same m tick message (i ∷ inputs) =
    ap (λ entry. entry ∷ map entry_of (map (input_after_message m tick message) inputs)) (entry_same m tick message i) ∙ ap (λ entries. entry_of i ∷ entries) (entries_same m tick message inputs)

pub given_parts : (m : Machine) (tick : ℕ) (message : Message) (xs : List Input) (time gamma : ℤ) → AreParts xs time gamma → AreParts (map (input_after_message m tick message) xs) time gamma
given_parts m tick message xs time gamma are = record {
  coefficients = subst (λ (es : List Entry). sum_by (λ (e : Entry). unsigned_abs e.coef) es + unsigned_abs time ≤ 2 ^ 38) (sym (entries_same m tick message xs)) are.coefficients;
  constant = are.constant;
}

-- the coefficients of inputs are those of their entries
pub entry_sizes : (xs : List Input) → sum_by (λ (i : Input). unsigned_abs i.coef) xs ≡ sum_by (λ (e : Entry). unsigned_abs e.coef) (map entry_of xs)
entry_sizes [] = refl
entry_sizes (x ∷ xs) =
    sum_by-cons (λ (i : Input). unsigned_abs i.coef) x xs
    ∙ ap (λ (n : ℕ). unsigned_abs x.coef + n) (entry_sizes xs)
    ∙ sym (sum_by-cons (λ (e : Entry). unsigned_abs e.coef) (entry_of x) (map entry_of xs))

-- ---- lines stay within their limits

pub record IsGiven (m : Machine) (tick : ℕ) (i : Input) : Type 0 where
  pub line : IsInput tick i
  pub stays : StaysIfDiscrete (state_count m) i
  pub small : IsWithin 88 (input_at tick i)

-- an input at its own tick
at_own : (tick : ℕ) (i : Input) → i.tick ≡ tick → input_at tick i ≡ i.at
at_own tick i e = let z : tick - i.tick ≡ 0 = omega (arith, e) in rw z (omega (arith, ints))

-- an input that stays
at_rest : (tick : ℕ) (i : Input) → i.speed ≡ pos 0 → input_at tick i ≡ i.at
at_rest tick i e = rw e (omega (arith, ints))

pub scaled_small : (m : Machine) (value : ℤ) → IsWithin 43 value → IsWithin 88 (value *ℤ level_unit m)
scaled_small m value small =
    let unit : unsigned_abs (level_unit m) ≤ 2 ^ 44 = omega (arith, ints, unit_low m, unit_high m) in
    let size : unsigned_abs value * unsigned_abs (level_unit m) ≤ 2 ^ 43 * 2 ^ 44 = mul-le-mul small unit in
    omega (arith, unsigned_abs-mul value (level_unit m), size)

module _ (m : Machine) (tick : ℕ) (i : Input) (line : IsInput tick i) (stays : StaysIfDiscrete (state_count m) i) (small : i.var < state_count m → IsWithin 88 (input_at tick i)) where
  kept : IsGiven m tick i
  kept = record {
    line = line;
    stays = stays;
    small = elim (cases_lt i.var (state_count m)) [ inl below ↦ small below | inr past ↦ subst (IsWithin 88) (sym (at_rest tick i (stays past))) line.small ];
  }

  -- a line that begins at the tick, of a state
  begun : (at speed : ℤ) → i.var < state_count m → IsWithin 88 at → IsWithin 88 speed → IsGiven m tick (record i { tick = tick; at = at; speed = speed })
  begun at speed known within slow = record {
    line = record { not_later = omega arith; small = within; slow = slow };
    stays = λ past. absurd (omega (arith, known, past));
    small = subst (IsWithin 88) (sym (at_own tick (record i { tick = tick; at = at; speed = speed }) refl)) within;
  }

  -- and a number that stays
  put : (at : ℤ) → IsWithin 88 at → IsGiven m tick (record i { tick = tick; at = at; speed = pos 0 })
  put at within = record {
    line = record { not_later = omega arith; small = within; slow = omega (arith, ints) };
    stays = λ past. refl;
    small = subst (IsWithin 88) (sym (at_own tick (record i { tick = tick; at = at; speed = pos 0 }) refl)) within;
  }

  given_input : (message : Message) → IsMessage m message → IsGiven m tick (input_after_message m tick message i)
  given_input (Slope var slope) is =
      if_cases (IsGiven m tick) (i.var == var) _ _
      (λ e. let known : i.var < state_count m = omega (arith, eqb-true i.var var e, is.0) in begun (input_at tick i) slope known (small known) is.1)
      (λ e. kept)
  given_input (State var state) is =
      if_cases (IsGiven m tick) (i.var == var) _ _
      (λ e. let known : i.var < state_count m = omega (arith, eqb-true i.var var e, is.0) in begun state i.speed known is.1 line.slow)
      (λ e. kept)
  given_input (Discrete var value) is = if_cases (IsGiven m tick) (i.var == var || i.var == var + discrete_count m) _ _ (λ e. put (value *ℤ level_unit m) (scaled_small m value is.2)) (λ e. kept)
  given_input (Level var level) is = kept
  given_input (Truth condition now) is = kept

module _ (m : Machine) (tick : ℕ) (message : Message) (is : IsMessage m message) (xs : List Input) (lines : All (IsInput tick) xs) (stays : All (StaysIfDiscrete (state_count m)) xs)
    (small : AreSmallAt m xs tick) where
  pub given_inputs : All (IsGiven m tick) (map (input_after_message m tick message) xs)
  given_inputs k d h =
      let inside : k < length xs = omega (arith, h, length-map xs (input_after_message m tick message)) in
      subst (IsGiven m tick) (sym (get_or-map (input_after_message m tick message) xs k d d inside)) (given_input m tick (get_or xs k d) (lines k d inside) (stays k d inside) (small k d inside) message is)

-- inputs that are valid up to a tick are valid up to a later tick
pub lines_later : (now later : ℕ) (xs : List Input) → now ≤ later → All (IsInput now) xs → All (IsInput later) xs
lines_later now later xs le lines k d h = let line = lines k d h in record { not_later = omega (arith, line.not_later, le); small = line.small; slow = line.slow }
