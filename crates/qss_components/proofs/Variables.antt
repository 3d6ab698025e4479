-- What the inputs of a crossing are after a message.
use Rattle.qss_components.proofs.Common
use Common.{ℕ, ℤ, ◌*ℤ◌, ◌+◌, ◌-◌, ◌<◌, ◌==◌, ◌||◌, ◌∙◌, ◌≡◌, ◌≢◌, ◌≤◌, ◌⊎◌, ap, arith, Bool}
use Common.{cases_eq, cases_lt, Discrete, discrete_count, eqb-no, eqb-yes, false, get_or-set_other}
use Common.{HasEach, if-false, if-true, if◌then◌else◌, inl, Input, input_after_message, input_at}
use Common.{InputAgrees, inr, int_at, length, level_unit, List, Machine, Moving, moving_of, nat_lt}
use Common.{nat_tests, pos, refl, set, Slope, State, state_count, subst, sym, true, Values}
use Common.{values_after_message}
use Rattle.std.proofs.lemmas.Grind.{get_or-set_at}
use Rattle.qss_components.proofs.Moving.{no_ticks}

-- ---- a number of a list that was set

pub set_same : (xs : List ℤ) (i j : ℕ) (z : ℤ) → j ≡ i → i < length xs → int_at (set xs i z) j ≡ z
set_same xs i j z e h = get_or-set_at xs i j z (pos 0) e h

pub set_other : (xs : List ℤ) (i j : ℕ) (z : ℤ) → j ≢ i → int_at (set xs i z) j ≡ int_at xs j
set_other xs i j z h = get_or-set_other xs i j z (pos 0) h

-- ---- a variable by its kind

module _ (m : Machine) (v : Values) (var : ℕ) where
  pub moving_state : var < state_count m → moving_of m v var ≡ record { at = int_at v.states var; speed = int_at v.slopes var }
  moving_state h = let test : nat_lt var (state_count m) ≡ true = grind (arith, nat_tests) in if-true (nat_lt var (state_count m)) _ _ test

  pub moving_discrete : state_count m ≤ var → var < state_count m + discrete_count m → moving_of m v var ≡ record { at = int_at v.discretes (var - state_count m) *ℤ level_unit m; speed = pos 0 }
  moving_discrete h k =
      let first : nat_lt var (state_count m) ≡ false = grind (arith, nat_tests) in
      let second : nat_lt var (state_count m + discrete_count m) ≡ true = grind (arith, nat_tests) in
      if-false (nat_lt var (state_count m)) _ _ first ∙ if-true (nat_lt var (state_count m + discrete_count m)) _ _ second

  pub moving_before : state_count m + discrete_count m ≤ var → moving_of m v var ≡ record { at = int_at v.discretes (var - (state_count m + discrete_count m)) *ℤ level_unit m; speed = pos 0 }
  moving_before h =
      let first : nat_lt var (state_count m) ≡ false = grind (arith, nat_tests) in
      let second : nat_lt var (state_count m + discrete_count m) ≡ false = grind (arith, nat_tests) in
      if-false (nat_lt var (state_count m)) _ _ first ∙ if-false (nat_lt var (state_count m + discrete_count m)) _ _ second

-- ---- inputs

module _ (m : Machine) (tick : ℕ) (new : Values) where
  -- an input that begins at the tick
  begun : (i : Input) (at speed : ℤ) → record { at = at; speed = speed } ≡ moving_of m new i.var → InputAgrees m tick new (record i { tick = tick; at = at; speed = speed })
  begun i at speed is = record { not_later = omega arith; here = ap (λ (z : ℤ). record { at = z; speed = speed }) (no_ticks at speed tick) ∙ is }

  -- one that goes on
  kept : (v : Values) (i : Input) → InputAgrees m tick v i → moving_of m v i.var ≡ moving_of m new i.var → InputAgrees m tick new i
  kept v i a same = record { not_later = a.not_later; here = a.here ∙ same }

  on_test : (b : Bool) (x y : Input) → b ≡ true → InputAgrees m tick new x → InputAgrees m tick new (if b then x else y)
  on_test b x y e a = subst (InputAgrees m tick new) (sym (if-true b x y e)) a

  off_test : (b : Bool) (x y : Input) → b ≡ false → InputAgrees m tick new y → InputAgrees m tick new (if b then x else y)
  off_test b x y e a = subst (InputAgrees m tick new) (sym (if-false b x y e)) a

-- ---- a slope

module _ (m : Machine) (tick var : ℕ) (slope : ℤ) (v : Values) (each : HasEach m v) (known : var < state_count m) where
  slope_other : (other : ℕ) → other ≢ var → (other < state_count m) ⊎ (state_count m ≤ other) → moving_of m v other ≡ moving_of m (values_after_message m v (Slope var slope)) other
  slope_other other ne (inl low) =
      moving_state m v other low
      ∙ ap (λ (z : ℤ). record { at = int_at v.states other; speed = z }) (sym (set_other v.slopes var other slope ne))
      ∙ sym (moving_state m (values_after_message m v (Slope var slope)) other low)
  slope_other other ne (inr high) =
      let test : nat_lt other (state_count m) ≡ false = grind (arith, nat_tests) in
      if-false (nat_lt other (state_count m)) _ _ test ∙ sym (if-false (nat_lt other (state_count m)) _ _ test)

  slope_own : (i : Input) → InputAgrees m tick v i → i.var ≡ var → record { at = input_at tick i; speed = slope } ≡ moving_of m (values_after_message m v (Slope var slope)) i.var
  slope_own i a e =
      let low : i.var < state_count m = omega (arith, e, known) in
      ap (λ (r : Moving). record { at = r.at; speed = slope }) (a.here ∙ moving_state m v i.var low)
      ∙ ap (λ (z : ℤ). record { at = int_at v.states i.var; speed = z }) (sym (set_same v.slopes var i.var slope e (omega (arith, each.slopes, known))))
      ∙ sym (moving_state m (values_after_message m v (Slope var slope)) i.var low)

  pub slope_given : (i : Input) → InputAgrees m tick v i → InputAgrees m tick (values_after_message m v (Slope var slope)) (input_after_message m tick (Slope var slope) i)
  slope_given i a = by_var (cases_eq i.var var)
    where
      new : Values
      new = values_after_message m v (Slope var slope)

      by_var : (i.var ≡ var) ⊎ (i.var ≢ var) → InputAgrees m tick (values_after_message m v (Slope var slope)) (input_after_message m tick (Slope var slope) i)
      by_var (inl e) = on_test m tick (values_after_message m v (Slope var slope)) (i.var == var) _ i (eqb-yes i.var var e) (begun m tick (values_after_message m v (Slope var slope)) i (input_at tick i) slope (slope_own i a e))
      by_var (inr ne) =
          off_test m tick (values_after_message m v (Slope var slope)) (i.var == var) _ i (eqb-no i.var var ne)
          (kept m tick (values_after_message m v (Slope var slope)) v i a (slope_other i.var ne (cases_lt i.var (state_count m))))

-- ---- a state

module _ (m : Machine) (tick var : ℕ) (state : ℤ) (v : Values) (each : HasEach m v) (known : var < state_count m) where
  state_other : (other : ℕ) → other ≢ var → (other < state_count m) ⊎ (state_count m ≤ other) → moving_of m v other ≡ moving_of m (values_after_message m v (State var state)) other
  state_other other ne (inl low) =
      moving_state m v other low
      ∙ ap (λ (z : ℤ). record { at = z; speed = int_at v.slopes other }) (sym (set_other v.states var other state ne))
      ∙ sym (moving_state m (values_after_message m v (State var state)) other low)
  state_other other ne (inr high) =
      let test : nat_lt other (state_count m) ≡ false = grind (arith, nat_tests) in
      if-false (nat_lt other (state_count m)) _ _ test ∙ sym (if-false (nat_lt other (state_count m)) _ _ test)

  state_own : (i : Input) → InputAgrees m tick v i → i.var ≡ var → record { at = state; speed = i.speed } ≡ moving_of m (values_after_message m v (State var state)) i.var
  state_own i a e =
      let low : i.var < state_count m = omega (arith, e, known) in
      ap (λ (r : Moving). record { at = state; speed = r.speed }) (a.here ∙ moving_state m v i.var low)
      ∙ ap (λ (z : ℤ). record { at = z; speed = int_at v.slopes i.var }) (sym (set_same v.states var i.var state e (omega (arith, each.states, known))))
      ∙ sym (moving_state m (values_after_message m v (State var state)) i.var low)

  pub state_given : (i : Input) → InputAgrees m tick v i → InputAgrees m tick (values_after_message m v (State var state)) (input_after_message m tick (State var state) i)
  state_given i a = by_var (cases_eq i.var var)
    where
      by_var : (i.var ≡ var) ⊎ (i.var ≢ var) → InputAgrees m tick (values_after_message m v (State var state)) (input_after_message m tick (State var state) i)
      by_var (inl e) = on_test m tick (values_after_message m v (State var state)) (i.var == var) _ i (eqb-yes i.var var e) (begun m tick (values_after_message m v (State var state)) i state i.speed (state_own i a e))
      by_var (inr ne) =
          off_test m tick (values_after_message m v (State var state)) (i.var == var) _ i (eqb-no i.var var ne)
          (kept m tick (values_after_message m v (State var state)) v i a (state_other i.var ne (cases_lt i.var (state_count m))))

-- ---- a discrete value

either_first : (a b : Bool) → a ≡ true → (a || b) ≡ true
either_first true b e = refl
either_first false b e = absurd (cc)

either_second : (a b : Bool) → b ≡ true → (a || b) ≡ true
either_second true b e = refl
either_second false true e = refl
either_second false false e = absurd (cc)

pub neither : (a b : Bool) → a ≡ false → b ≡ false → (a || b) ≡ false
neither true b e f = absurd (cc)
neither false true e f = absurd (cc)
neither false false e f = refl

module _ (m : Machine) (tick var : ℕ) (value : ℤ) (v : Values) (each : HasEach m v) (low : state_count m ≤ var) (high : var < state_count m + discrete_count m) where
  abbrev new_values : Values
  new_values = values_after_message m v (Discrete var value)

  abbrev scaled : ℤ → Moving
  scaled z = record { at = z *ℤ level_unit m; speed = pos 0 }

  abbrev reads : ℕ → Bool
  reads other = other == var || other == var + discrete_count m

  place_set : (place : ℕ) → place ≡ var - state_count m → int_at (set v.discretes (var - state_count m) value) place ≡ value
  place_set place e = set_same v.discretes (var - state_count m) place value e (omega (arith, each.discretes, low, high))

  -- the variable, or its value before the tick
  own_discrete : (other : ℕ) → other ≡ var → scaled value ≡ moving_of m new_values other
  own_discrete other e =
      ap scaled (sym (place_set (other - state_count m) (omega (arith, e))))
      ∙ sym (moving_discrete m new_values other (omega (arith, e, low)) (omega (arith, e, high)))

  own_before : (other : ℕ) → other ≡ var + discrete_count m → scaled value ≡ moving_of m new_values other
  own_before other e =
      ap scaled (sym (place_set (other - (state_count m + discrete_count m)) (omega (arith, e, low))))
      ∙ sym (moving_before m new_values other (omega (arith, e, low)))

  -- any other
  other_discrete : (other : ℕ) → other ≢ var → other ≢ var + discrete_count m → (other < state_count m) ⊎ (state_count m ≤ other) →
      (other < state_count m + discrete_count m) ⊎ (state_count m + discrete_count m ≤ other) → moving_of m v other ≡ moving_of m new_values other
  other_discrete other ne before (inl below) k = moving_state m v other below ∙ sym (moving_state m new_values other below)
  other_discrete other ne before (inr past) (inl inside) =
      let differs : (other - state_count m) ≢ (var - state_count m) = λ e. ne (omega (arith, e, past, low)) in
      moving_discrete m v other past inside
      ∙ ap scaled (sym (set_other v.discretes (var - state_count m) (other - state_count m) value differs))
      ∙ sym (moving_discrete m new_values other past inside)
  other_discrete other ne before (inr past) (inr beyond) =
      let differs : (other - (state_count m + discrete_count m)) ≢ (var - state_count m) = λ e. before (omega (arith, e, beyond, low)) in
      moving_before m v other beyond
      ∙ ap scaled (sym (set_other v.discretes (var - state_count m) (other - (state_count m + discrete_count m)) value differs))
      ∙ sym (moving_before m new_values other beyond)

  pub discrete_given : (i : Input) → InputAgrees m tick v i → InputAgrees m tick (values_after_message m v (Discrete var value)) (input_after_message m tick (Discrete var value) i)
  discrete_given i a = by_var (cases_eq i.var var) (cases_eq i.var (var + discrete_count m))
    where
      by_var : (i.var ≡ var) ⊎ (i.var ≢ var) → (i.var ≡ var + discrete_count m) ⊎ (i.var ≢ var + discrete_count m) →
          InputAgrees m tick (values_after_message m v (Discrete var value)) (input_after_message m tick (Discrete var value) i)
      by_var (inl e) f =
          on_test m tick new_values (reads i.var) _ i (either_first (i.var == var) (i.var == var + discrete_count m) (eqb-yes i.var var e))
          (begun m tick new_values i (value *ℤ level_unit m) (pos 0) (own_discrete i.var e))
      by_var (inr ne) (inl f) =
          on_test m tick new_values (reads i.var) _ i (either_second (i.var == var) (i.var == var + discrete_count m) (eqb-yes i.var (var + discrete_count m) f))
          (begun m tick new_values i (value *ℤ level_unit m) (pos 0) (own_before i.var f))
      by_var (inr ne) (inr nf) =
          off_test m tick new_values (reads i.var) _ i (neither (i.var == var) (i.var == var + discrete_count m) (eqb-no i.var var ne) (eqb-no i.var (var + discrete_count m) nf))
          (kept m tick new_values v i a (other_discrete i.var ne nf (cases_lt i.var (state_count m)) (cases_lt i.var (state_count m + discrete_count m))))
