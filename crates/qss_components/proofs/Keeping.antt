-- Messages keep components in agreement.
use Rattle.qss_components.proofs.Common
use Common.{ℕ, ℤ, ◌+◌, ◌-◌, ◌<◌, ◌==◌, ◌||◌, ◌∙◌, ◌≡◌, ◌≢◌, ◌≤◌, ◌⊎◌, ap, arith, Bool, cases_eq}
use Common.{Condition, condition_at, Crossing, crossing_after_message, CrossingAgrees}
use Common.{Decides-int_eq, Discrete, discrete_count, eqb-false, eqb-true, false}
use Common.{function_after_message, FunctionState, get_or, HasEach, if-false, if-true, if_cases}
use Common.{if◌then◌else◌, inl, inr, int_at, int_eq, length-set, Level, Line, LineAgrees, List}
use Common.{Machine, None, Option, refl, row_at, row_reads, set, Slope, Some, State, state_at}
use Common.{state_count, subst, sum_of, SummingAgrees, sym, true, value_at, Values}
use Common.{values_after_message}
use Rattle.std.specs.Option.{option_or}
use Rattle.qss_machine.specs.Readers.{condition_reads}
use Rattle.qss_components.specs.Integrators.{line_after_message}
use Rattle.qss_components.specs.Functions.{summing_sent, summing_with}
use Rattle.qss_components.specs.Crossings.{crossing_after_transition}
use Rattle.qss_components.specs.ComponentTheorems.{MessagesKeepAgreement}
use Rattle.qss_components.proofs.Moving.{no_ticks}
use Rattle.qss_components.proofs.ExpectedResult.{unread, told, untold}
use Rattle.qss_components.proofs.Variables.{set_same, set_other, neither, slope_given, state_given}
use Rattle.qss_components.proofs.Variables.{discrete_given}

-- ---- a slope

module _ (m : Machine) (tick var : ℕ) (slope : ℤ) (v : Values) (each : HasEach m v) (known : var < state_count m) where
  slope_crossing : (place : ℕ) (condition : Condition) (c : Crossing) → CrossingAgrees m tick v place condition c →
      CrossingAgrees m tick (values_after_message m v (Slope var slope)) place condition (if condition_reads var condition then crossing_after_message m c tick (Slope var slope) else c)
  slope_crossing place condition c a =
      if_cases (λ c. CrossingAgrees m tick (values_after_message m v (Slope var slope)) place condition c) (condition_reads var condition) _ _
      (λ reads. told m tick (Slope var slope) v (values_after_message m v (Slope var slope)) (slope_given m tick var slope v each known) place condition c a)
      (λ none. untold m tick (Slope var slope) v (values_after_message m v (Slope var slope)) (slope_given m tick var slope v each known) place condition c
      (λ k d h. if-false ((get_or c.inputs k d).var == var) _ _ (unread var condition.form.entries c.inputs k d a.entries none h)) a)

  slope_integrator : (j : ℕ) (line : Line) → LineAgrees tick v j line →
      LineAgrees tick (values_after_message m v (Slope var slope)) j (if var == j then line_after_message j line tick (Slope var slope) else line)
  slope_integrator j line a =
      if_cases (λ line. LineAgrees tick (values_after_message m v (Slope var slope)) j line) (var == j) _ _
      (λ same. subst (LineAgrees tick (values_after_message m v (Slope var slope)) j) (sym (if-true (var == j) _ _ same)) (record {
        not_later = omega arith;
        here = no_ticks (state_at line tick) slope tick ∙ a.here;
        own_slope = sym (set_same v.slopes var j slope (sym (eqb-true var j same)) (omega (arith, each.slopes, known)));
        own_level = a.own_level;
      }))
      (λ other. record {
        not_later = a.not_later;
        here = a.here;
        own_slope = a.own_slope ∙ sym (set_other v.slopes var j slope (λ e. eqb-false var j other (sym e)));
        own_level = a.own_level;
      })

  slope_function : (j : ℕ) (s sent : FunctionState) → SummingAgrees m tick v j s → (j ≢ var → sent ≡ s) → (j ≡ var → (sent ≡ summing_sent s tick) × (slope ≡ sum_of m s)) →
      SummingAgrees m tick (values_after_message m v (Slope var slope)) j sent
  slope_function j s sent a other own = by_var (cases_eq j var)
    where
      by_var : (j ≡ var) ⊎ (j ≢ var) → SummingAgrees m tick (values_after_message m v (Slope var slope)) j sent
      by_var (inl e) = subst (SummingAgrees m tick (values_after_message m v (Slope var slope)) j) (sym (own e).0) (record {
        own = a.own;
        not_later = omega arith;
        as_many = a.as_many;
        levels = a.levels;
        discretes = a.discretes;
        own_sum = λ none. sym (own e).1 ∙ sym (set_same v.slopes var j slope e (omega (arith, each.slopes, known)));
      })
      by_var (inr ne) = subst (SummingAgrees m tick (values_after_message m v (Slope var slope)) j) (sym (other ne)) (record {
        own = a.own;
        not_later = a.not_later;
        as_many = a.as_many;
        levels = a.levels;
        discretes = a.discretes;
        own_sum = λ none. a.own_sum none ∙ sym (set_other v.slopes var j slope ne);
      })

-- ---- a state

module _ (m : Machine) (tick var : ℕ) (state : ℤ) (v : Values) (each : HasEach m v) (known : var < state_count m) where
  state_crossing : (place : ℕ) (condition : Condition) (c : Crossing) → CrossingAgrees m tick v place condition c →
      CrossingAgrees m tick (values_after_message m v (State var state)) place condition (if condition_reads var condition then crossing_after_message m c tick (State var state) else c)
  state_crossing place condition c a =
      if_cases (λ c. CrossingAgrees m tick (values_after_message m v (State var state)) place condition c) (condition_reads var condition) _ _
      (λ reads. told m tick (State var state) v (values_after_message m v (State var state)) (state_given m tick var state v each known) place condition c a)
      (λ none. untold m tick (State var state) v (values_after_message m v (State var state)) (state_given m tick var state v each known) place condition c
      (λ k d h. if-false ((get_or c.inputs k d).var == var) _ _ (unread var condition.form.entries c.inputs k d a.entries none h)) a)

  state_integrator : (j : ℕ) (line : Line) → LineAgrees tick v j line →
      LineAgrees tick (values_after_message m v (State var state)) j (if var == j then line_after_message j line tick (State var state) else line)
  state_integrator j line a =
      if_cases (λ line. LineAgrees tick (values_after_message m v (State var state)) j line) (var == j) _ _
      (λ same. subst (LineAgrees tick (values_after_message m v (State var state)) j) (sym (if-true (var == j) _ _ same)) (record {
        not_later = omega arith;
        here = no_ticks state line.slope tick ∙ sym (set_same v.states var j state (sym (eqb-true var j same)) (omega (arith, each.states, known)));
        own_slope = a.own_slope;
        own_level = a.own_level;
      }))
      (λ other. record {
        not_later = a.not_later;
        here = a.here ∙ sym (set_other v.states var j state (λ e. eqb-false var j other (sym e)));
        own_slope = a.own_slope;
        own_level = a.own_level;
      })

  state_function : (j : ℕ) (s : FunctionState) → SummingAgrees m tick v j s → SummingAgrees m tick (values_after_message m v (State var state)) j s
  state_function j s a = record { own = a.own; not_later = a.not_later; as_many = a.as_many; levels = a.levels; discretes = a.discretes; own_sum = a.own_sum }

-- a function that has nothing to send after a message has the sum that it had
kept_sum : (m : Machine) (s : FunctionState) (tick : ℕ) (levels discretes : List ℤ) → (summing_with m s tick levels discretes).changed ≡ None → (slope : ℤ) → (s.changed ≡ None → sum_of m s ≡ slope) →
    sum_of m (summing_with m s tick levels discretes) ≡ slope
kept_sum m s tick levels discretes none slope own =
    let new = summing_with m s tick levels discretes in
    let parts = both_none s.changed (int_eq (sum_of m s) (sum_of m new)) tick none in
    sym ((Decides-int_eq (sum_of m s) (sum_of m new)).0 parts.1) ∙ own parts.0
  where
    both_none : (o : Option ℕ) (same : Bool) (tick : ℕ) → option_or o (if same then None else Some tick) ≡ None → (o ≡ None) × (same ≡ true)
    both_none None true tick e = (refl, refl)
    both_none None false tick e = absurd (cc)
    both_none (Some t) same tick e = absurd (cc)

-- ---- a level

module _ (m : Machine) (tick var : ℕ) (level : ℤ) (v : Values) (each : HasEach m v) (known : var < state_count m) where
  level_integrator : (j : ℕ) (line taken : Line) → LineAgrees tick v j line → (j ≢ var → taken ≡ line) →
      (j ≡ var → taken ≡ record { tick = tick; x = state_at line tick; slope = line.slope; level = level }) → LineAgrees tick (values_after_message m v (Level var level)) j taken
  level_integrator j line taken a other own = by_var (cases_eq j var)
    where
      by_var : (j ≡ var) ⊎ (j ≢ var) → LineAgrees tick (values_after_message m v (Level var level)) j taken
      by_var (inl e) = subst (LineAgrees tick (values_after_message m v (Level var level)) j) (sym (own e)) (record {
        not_later = omega arith;
        here = no_ticks (state_at line tick) line.slope tick ∙ a.here;
        own_slope = a.own_slope;
        own_level = sym (set_same v.levels var j level e (omega (arith, each.levels, known)));
      })
      by_var (inr ne) = subst (LineAgrees tick (values_after_message m v (Level var level)) j) (sym (other ne)) (record {
        not_later = a.not_later;
        here = a.here;
        own_slope = a.own_slope;
        own_level = a.own_level ∙ sym (set_other v.levels var j level ne);
      })

  level_function : (j : ℕ) (s : FunctionState) → SummingAgrees m tick v j s →
      SummingAgrees m tick (values_after_message m v (Level var level)) j (if row_reads var (row_at m j) then function_after_message m s tick (Level var level) else s)
  level_function j s a =
      if_cases (λ s. SummingAgrees m tick (values_after_message m v (Level var level)) j s) (row_reads var (row_at m j)) _ _
      (λ reads. subst (SummingAgrees m tick (values_after_message m v (Level var level)) j)
      (sym (taken reads)) (record {
        own = a.own;
        not_later = omega arith;
        as_many = (length-set s.levels var level ∙ a.as_many.0, a.as_many.1);
        levels = λ i h read. by_var i h read (cases_eq i var);
        discretes = a.discretes;
        own_sum = λ none. kept_sum m s tick (set s.levels var level) s.discretes none (int_at v.slopes j) a.own_sum;
      }))
      (λ none. record {
        own = a.own;
        not_later = a.not_later;
        as_many = a.as_many;
        levels = λ i h read. a.levels i h read ∙ sym (set_other v.levels var i level (λ e. unread_row i e read none));
        discretes = a.discretes;
        own_sum = a.own_sum;
      })
    where
      taken : row_reads var (row_at m j) ≡ true → function_after_message m s tick (Level var level)
          ≡ summing_with m s tick (set s.levels var level) s.discretes
      taken reads = ap (λ levels. summing_with m s tick levels s.discretes)
          (if-true (row_reads var (row_at m s.row)) _ _ (ap (λ row. row_reads var (row_at m row))
          a.own ∙ reads))

      by_var : (i : ℕ) → i < state_count m → row_reads i (row_at m j) ≡ true → (i ≡ var) ⊎ (i ≢ var) → int_at (set s.levels var level) i ≡ int_at (set v.levels var level) i
      by_var i h read (inl e) = set_same s.levels var i level e (omega (arith, a.as_many.0, known)) ∙ sym (set_same v.levels var i level e (omega (arith, each.levels, known)))
      by_var i h read (inr ne) = set_other s.levels var i level ne ∙ a.levels i h read ∙ sym (set_other v.levels var i level ne)

      unread_row : (i : ℕ) → i ≡ var → row_reads i (row_at m j) ≡ true → row_reads var (row_at m j) ≡ false → ⊥
      unread_row i e read none = let same = ap (λ k. row_reads k (row_at m j)) e in absurd (cc)

  level_crossing : (place : ℕ) (condition : Condition) (c : Crossing) → CrossingAgrees m tick v place condition c → CrossingAgrees m tick (values_after_message m v (Level var level)) place condition c
  level_crossing place condition c a = record {
    own = a.own;
    own_rel = a.own_rel;
    own_time = a.own_time;
    own_constant = a.own_constant;
    entries = a.entries;
    not_later = a.not_later;
    lines = λ k d h. record { not_later = (a.lines k d h).not_later; here = (a.lines k d h).here };
    here = a.here;
    own_speed = a.own_speed;
  }

-- ---- a discrete value

module _ (m : Machine) (tick var : ℕ) (value : ℤ) (v : Values) (each : HasEach m v) (low : state_count m ≤ var) (high : var < state_count m + discrete_count m) where
  discrete_crossing : (place : ℕ) (condition : Condition) (c : Crossing) → CrossingAgrees m tick v place condition c →
      CrossingAgrees m tick (values_after_message m v (Discrete var value)) place condition
      (if condition_reads var condition || condition_reads (var + discrete_count m) condition then crossing_after_message m c tick (Discrete var value) else c)
  discrete_crossing place condition c a =
      if_cases (λ c. CrossingAgrees m tick (values_after_message m v (Discrete var value)) place condition c) (condition_reads var condition || condition_reads (var + discrete_count m) condition) _ _
      (λ reads. told m tick (Discrete var value) v (values_after_message m v (Discrete var value)) (discrete_given m tick var value v each low high) place condition c a)
      (λ none.
      let parts = both_false (condition_reads var condition) (condition_reads (var + discrete_count m) condition) none in
      untold m tick (Discrete var value) v (values_after_message m v (Discrete var value)) (discrete_given m tick var value v each low high) place condition c
      (λ k d h. if-false ((get_or c.inputs k d).var == var || (get_or c.inputs k d).var == var + discrete_count m) _ _
      (neither _ _ (unread var condition.form.entries c.inputs k d a.entries parts.0 h) (unread (var + discrete_count m) condition.form.entries c.inputs k d a.entries parts.1 h))) a)
    where
      both_false : (a b : Bool) → (a || b) ≡ false → (a ≡ false) × (b ≡ false)
      both_false true b e = absurd (cc)
      both_false false b e = (refl, e)

  discrete_integrator : (j : ℕ) (line : Line) → LineAgrees tick v j line → LineAgrees tick (values_after_message m v (Discrete var value)) j line
  discrete_integrator j line a = record { not_later = a.not_later; here = a.here; own_slope = a.own_slope; own_level = a.own_level }

  discrete_function : (j : ℕ) (s : FunctionState) → SummingAgrees m tick v j s →
      SummingAgrees m tick (values_after_message m v (Discrete var value)) j (if row_reads var (row_at m j) then function_after_message m s tick (Discrete var value) else s)
  discrete_function j s a =
      if_cases (λ s. SummingAgrees m tick (values_after_message m v (Discrete var value)) j s) (row_reads var (row_at m j)) _ _
      (λ reads. subst (SummingAgrees m tick (values_after_message m v (Discrete var value)) j)
      (sym (taken reads)) (record {
        own = a.own;
        not_later = omega arith;
        as_many = (a.as_many.0, length-set s.discretes (var - state_count m) value ∙ a.as_many.1);
        levels = a.levels;
        discretes = λ g h read. by_place g h read (cases_eq g (var - state_count m));
        own_sum = λ none. kept_sum m s tick s.levels (set s.discretes (var - state_count m) value) none (int_at v.slopes j) a.own_sum;
      }))
      (λ none. record {
        own = a.own;
        not_later = a.not_later;
        as_many = a.as_many;
        levels = a.levels;
        discretes = λ g h read. a.discretes g h read ∙ sym (set_other v.discretes (var - state_count m) g value (λ e. unread_row g (omega (arith, e, low)) read none));
        own_sum = a.own_sum;
      })
    where
      taken : row_reads var (row_at m j) ≡ true → function_after_message m s tick
          (Discrete var value) ≡ summing_with m s tick s.levels
          (set s.discretes (var - state_count m) value)
      taken reads = ap (λ discretes. summing_with m s tick s.levels discretes)
          (if-true (row_reads var (row_at m s.row)) _ _ (ap (λ row. row_reads var (row_at m row))
          a.own ∙ reads))

      by_place : (g : ℕ) → g < discrete_count m → row_reads (state_count m + g) (row_at m j) ≡ true → (g ≡ var - state_count m) ⊎ (g ≢ var - state_count m) →
          int_at (set s.discretes (var - state_count m) value) g ≡ int_at (set v.discretes (var - state_count m) value) g
      by_place g h read (inl e) =
          set_same s.discretes (var - state_count m) g value e (omega (arith, a.as_many.1, low, high)) ∙ sym (set_same v.discretes (var - state_count m) g value e (omega (arith, each.discretes, low, high)))
      by_place g h read (inr ne) =
          set_other s.discretes (var - state_count m) g value ne ∙ a.discretes g h read ∙ sym (set_other v.discretes (var - state_count m) g value ne)

      unread_row : (g : ℕ) → state_count m + g ≡ var → row_reads (state_count m + g) (row_at m j) ≡ true → row_reads var (row_at m j) ≡ false → ⊥
      unread_row g e read none = let same = ap (λ k. row_reads k (row_at m j)) e in absurd (cc)

-- a crossing that moves to the tick
turned_crossing : (m : Machine) (tick : ℕ) (v : Values) (place : ℕ) (condition : Condition) (c : Crossing) → CrossingAgrees m tick v place condition c →
    CrossingAgrees m tick v place condition (crossing_after_transition c tick)
turned_crossing m tick v place condition c a = record {
  own = a.own;
  own_rel = a.own_rel;
  own_time = a.own_time;
  own_constant = a.own_constant;
  entries = a.entries;
  not_later = omega arith;
  lines = a.lines;
  here = no_ticks (value_at c.detector tick) c.detector.speed tick ∙ a.here;
  own_speed = a.own_speed;
}

pub messages_keep_agreement : MessagesKeepAgreement
messages_keep_agreement = record {
  slope = λ m tick var v line s sent c each known a others own.
      let slope = sum_of m (s var) in
      record {
        integrators = λ j h. slope_integrator m tick var slope v each known j (line j) (a.integrators j h);
        functions = λ j h. slope_function m tick var slope v each known j (s j) (sent j) (a.functions j h) (others j)
            (λ e. (ap sent e ∙ own ∙ ap (λ i. summing_sent (s i) tick) (sym e), ap (λ i. sum_of m (s i)) (sym e)));
        crossings = λ place h. slope_crossing m tick var slope v each known place (condition_at m place) (c place) (a.crossings place h);
      };
  state = λ m tick var state v line s c each known a. record {
    integrators = λ j h. state_integrator m tick var state v each known j (line j) (a.integrators j h);
    functions = λ j h. state_function m tick var state v each known j (s j) (a.functions j h);
    crossings = λ place h. state_crossing m tick var state v each known place (condition_at m place) (c place) (a.crossings place h);
  };
  discrete = λ m tick var value v line s c each is a. record {
    integrators = λ j h. discrete_integrator m tick var value v each is.0 is.1 j (line j) (a.integrators j h);
    functions = λ j h. discrete_function m tick var value v each is.0 is.1 j (s j) (a.functions j h);
    crossings = λ place h. discrete_crossing m tick var value v each is.0 is.1 place (condition_at m place) (c place) (a.crossings place h);
  };
  level = λ m tick var level v line taken s c each known a others own. record {
    integrators = λ j h. level_integrator m tick var level v each known j (line j) (taken j) (a.integrators j h) (others j)
        (λ e. ap taken e ∙ own ∙ ap (λ (i : ℕ). record { tick = tick; x = state_at (line i) tick; slope = (line i).slope; level = level }) (sym e));
    functions = λ j h. level_function m tick var level v each known j (s j) (a.functions j h);
    crossings = λ place h. level_crossing m tick var level v each known place (condition_at m place) (c place) (a.crossings place h);
  };
  truth = λ m tick place v line s c turned a others own. record {
    integrators = a.integrators;
    functions = a.functions;
    crossings = λ k h. elim (cases_eq k place) [
      | inl e ↦
          subst (CrossingAgrees m tick v k (condition_at m k)) (sym (ap turned e ∙ own ∙ ap (λ (i : ℕ). crossing_after_transition (c i) tick) (sym e)))
          (turned_crossing m tick v k (condition_at m k) (c k) (a.crossings k h))
      | inr ne ↦ subst (CrossingAgrees m tick v k (condition_at m k)) (sym (others k ne)) (a.crossings k h)
    ];
  };
}
