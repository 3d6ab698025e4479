-- Models that receive a message, one after another, and may receive another.
use Rattle.qss_devs.proofs.Common
use Common.{[], ℕ, ℤ, ◌+◌, ◌<◌, ◌==◌, ◌^◌, ◌||◌, ◌∙◌, ◌∷◌, ◌≡◌, ◌≢◌, ◌≤◌, All, ap, AreGiven}
use Common.{AreReady, AreRisingBelow, AreSmallAt, arith, Bool, cases_Bool, Components, Crossing}
use Common.{crossing_after_message, crossing_of, CrossingModel, Discrete, discrete_count, false}
use Common.{function_after_message, FunctionModel, FunctionState, get_or, get_or-map}
use Common.{get_or-set_other, get_or-set_same, get_or_default, if_cases, if◌then◌else◌, inl, Input}
use Common.{input_at, inr, int_eq, is_listed, is_within_quantum, IsCrossingNext, IsCrossingReady}
use Common.{IsLineNext, IsMessage, IsSummingReady, IsTimely, IsWithin, LeavesAt, length, length-map}
use Common.{length-set, Level, Line, line_after_message, line_moved, List, Machine, map, MatchBool}
use Common.{Message, no_ticks, None, not_before, Option, option_or, refl, set, Slope, Some, State}
use Common.{state_count, subst, sum_at, sum_of, sym, take, tick_limit, true, Truth}
use Rattle.mu_num.specs.Ticks.{FirstAfter}
use Rattle.mu_num.proofs.Tests.{eqb-true, eqb-false}
use Rattle.std.proofs.lemmas.Bool.{or_cases, or_parts}
use Rattle.mu_num.proofs.Writes.{among_more}
use Rattle.qss_devs.proofs.Lists.{some_element}
use Rattle.qss_devs.proofs.OneTransition.{functions_are_ready}
use Rattle.qss_components.specs.Crossings.{form_at, speed_by, input_after_message}
use Rattle.qss_components.specs.Integrators.{line_told}
use Rattle.qss_components.specs.Functions.{levels_after_message, discretes_after_message}

-- ---- functions

change_now : (changed : Option ℕ) (tick next : ℕ) (same : Bool) → ((t : ℕ) → changed ≡ Some t → t ≡ tick) → option_or changed (if same then None else Some tick) ≡ Some next → next ≡ tick
change_now (Some first) tick next same now e = now next e
change_now None tick next true now e = absurd (cc)
change_now None tick next false now e = cc

pub summing_ready_given : (m : Machine) (tick : ℕ) (message : Message) (s : FunctionState) → IsSummingReady tick s → IsSummingReady tick (function_after_message m s tick message)
summing_ready_given m tick message s ready = record {
  not_later = omega arith;
  now = λ next e. change_now s.changed tick next (int_eq (sum_of m s)
      (sum_at m s.row (levels_after_message m s.row s.levels message)
      (discretes_after_message m s.row s.discretes message))) ready.now e;
}

-- ---- crossings

discrete_var : (states discretes var own : ℕ) → (own == var || own == var + discretes) ≡ true → states ≤ var → states ≤ own
discrete_var states discretes var own e low = by (own == var) refl (own == var + discretes) refl e
  where
    by : (b : Bool) → (own == var) ≡ b → (c : Bool) → (own == var + discretes) ≡ c → (b || c) ≡ true → states ≤ own
    by true first c second e = omega (arith, eqb-true own var first, low)
    by false first true second e = omega (arith, eqb-true own (var + discretes) second, low)
    by false first false second e = absurd (cc)

pub input_small : (m : Machine) (tick : ℕ) (message : Message) (i : Input) → IsMessage m message → (i.var < state_count m → IsWithin 88 (input_at tick i)) →
    (input_after_message m tick message i).var < state_count m → IsWithin 88 (input_at tick (input_after_message m tick message i))
input_small m tick (Slope var slope) i is small =
    if_cases (λ (r : Input). r.var < state_count m → IsWithin 88 (input_at tick r)) (i.var == var) _ _
    (λ e low. subst (IsWithin 88) (sym (no_ticks (input_at tick i) slope tick)) (small low)) (λ e. small)
input_small m tick (State var state) i is small =
    if_cases (λ (r : Input). r.var < state_count m → IsWithin 88 (input_at tick r)) (i.var == var) _ _
    (λ e low. subst (IsWithin 88) (sym (no_ticks state i.speed tick)) is.1) (λ e. small)
input_small m tick (Discrete var value) i is small =
    if_cases (λ (r : Input). r.var < state_count m → IsWithin 88 (input_at tick r)) (i.var == var || i.var == var + discrete_count m) _ _
    (λ e low. absurd (omega (arith, low, discrete_var (state_count m) (discrete_count m) var i.var e is.0))) (λ e. small)
input_small m tick (Level var level) i is small = small
input_small m tick (Truth place now) i is small = small

pub crossing_ready_given : (m : Machine) (tick : ℕ) (message : Message) (c : Crossing) → IsMessage m message → IsCrossingReady m tick c → IsCrossingReady m tick (crossing_after_message m c tick message)
crossing_ready_given m tick message c is ready = record {
  not_later = omega arith;
  later = λ next found. found.later;
  small = λ k d h.
      let inside : k < length c.inputs = omega (arith, h, length-map c.inputs (input_after_message m tick message)) in
      subst (λ (i : Input). i.var < state_count m → IsWithin 88 (input_at tick i)) (sym (get_or-map (input_after_message m tick message) c.inputs k d d inside))
      (input_small m tick message (get_or c.inputs k d) is (ready.small k d inside));
}

-- ---- a crossing that receives a discrete value twice

module _ (m : Machine) (tick var : ℕ) (value : ℤ) where
  abbrev given : Input → Input
  given i = input_after_message m tick (Discrete var value) i

  input_twice : (i : Input) → given (given i) ≡ given i
  input_twice i =
      if_cases (λ (r : Input). given r ≡ r) (i.var == var || i.var == var + discrete_count m) _ _
      (λ e. rw e) (λ e. rw e)

  inputs_twice : (inputs : List Input) → map given (map given inputs) ≡ map given inputs
  inputs_twice [] = refl
  inputs_twice (i ∷ inputs) = ap (λ (r : Input). r ∷ map given (map given inputs)) (input_twice i) ∙ ap (λ (rest : List Input). given i ∷ rest) (inputs_twice inputs)

  pub received_twice : (c : Crossing) → crossing_after_message m (crossing_after_message m c tick (Discrete var value)) tick (Discrete var value) ≡ crossing_after_message m c tick (Discrete var value)
  received_twice c =
      ap (λ (inputs : List Input). record c {
        detector = record { rel = c.detector.rel; tick = tick; value = form_at m inputs c.time c.gamma tick; speed = speed_by m inputs c.time };
        inputs = inputs;
      })
      (inputs_twice c.inputs)

-- ---- lines

-- a line's next transition is not before its own tick
pub next_from_own : (m : Machine) (var : ℕ) (line : Line) (next : ℕ) → IsLineNext m var line (Some next) → line.tick ≤ next
next_from_own m var line next found = by (is_within_quantum m var line.x line.level) found
  where
    by : (b : Bool) → MatchBool b (FirstAfter (LeavesAt m var line) line.tick (Some next)) (Some next ≡ Some line.tick) → line.tick ≤ next
    by true first = omega (arith, first.later)
    by false own = let e : next ≡ line.tick = cc in omega (arith, e)

told_tick : (var : ℕ) (line : Line) (message : Message) → (line_told var line message).tick ≡ line.tick
told_tick var line (Slope other slope) = if_cases (λ (l : Line). l.tick ≡ line.tick) (other == var) _ _ (λ e. refl) (λ e. refl)
told_tick var line (State other state) = if_cases (λ (l : Line). l.tick ≡ line.tick) (other == var) _ _ (λ e. refl) (λ e. refl)
told_tick var line (Level other level) = refl
told_tick var line (Discrete other value) = refl
told_tick var line (Truth place now) = refl

-- a line of a tick of a run is ready there
pub line_ready : (m : Machine) (var tick : ℕ) (line : Line) → tick < 2 ^ 32 → line.tick ≡ tick → IsTimely line.tick (IsLineNext m var line) tick
line_ready m var tick line in_time own = record {
  not_before = omega (arith, own);
  in_time = in_time;
  not_past = λ next found. omega (arith, own, next_from_own m var line next found);
}

pub line_ready_given : (m : Machine) (var tick : ℕ) (message : Message) (line : Line) → tick < 2 ^ 32 → IsTimely (line_after_message var line tick message).tick (IsLineNext m var (line_after_message var line tick message)) tick
line_ready_given m var tick message line in_time = line_ready m var tick (line_after_message var line tick message) in_time (told_tick var (line_moved line tick) message)

-- ---- functions and crossings that receive a message, one after another

-- one more model received the message
pub given_more : {A : Type 0} (Given : A → A → Type 0) (places : List ℕ) (i : ℕ) (old xs : List A)
    (r t : A) → i < length places → AreRisingBelow (length old) places →
    Given (get_or xs (get_or places i 0) r) t → AreGiven Given (take i places) old xs →
    AreGiven Given (take (i + 1) places) old (set xs (get_or places i 0) t)
given_more {A} Given places i old xs r t h numbers given are = record {
  as_many = length-set xs at t ∙ are.as_many;
  each = λ j d inside e. elim (or_cases (is_listed (take i places) j) (at == j) (sym (among_more places i j h) ∙ e)) [
    | inl sooner ↦
        let other : j ≢ at = λ same. let was : is_listed (take i places) at ≡ true = rw same at sooner in cc (before) in
        rw (get_or-set_other xs at j t d other) (are.each j d inside sooner)
    | inr here ↦
        let same : at ≡ j = eqb-true at j here in
        let was : get_or xs at r ≡ get_or old at d = are.others at r before ∙ get_or_default old at r d known in
        rw (← same, get_or-set_same xs at t d (omega (arith, known, are.as_many))) (rw was at given)
  ];
  others = λ j d e.
      let parts = or_parts (is_listed (take i places) j) (at == j) (sym (among_more places i j h) ∙ e) in
      get_or-set_other xs at j t d (λ same. eqb-false at j parts.1 (sym same)) ∙ are.others j d parts.0;
}
  where
    at : ℕ
    at = get_or places i 0

    known : at < length old
    known = numbers.below i 0 h

    before : is_listed (take i places) at ≡ false
    before = not_before places i numbers.rising h

-- ---- the elements of a list, each with a state and a machine

module _ {X S : Type 0} (state_of : X → S) (machine_of : X → Machine) (none : S)
    (after : Machine → S → S) (m : Machine) {places : List ℕ} {old new : List X}
    (are : AreGiven (λ s t. (machine_of t ≡ machine_of s) × (state_of t ≡ after (machine_of s) (state_of s))) places old new)
    (machines : All (λ (x : X). machine_of x ≡ m) old) where
  pub machines_stay : All (λ (x : X). machine_of x ≡ m) new
  machines_stay j d h =
      let inside : j < length old = omega (arith, h, are.as_many) in
      elim (cases_Bool (is_listed places j)) [
        | inl listed ↦ (are.each j d inside listed).0 ∙ machines j d inside
        | inr other ↦ rw (are.others j d other) (machines j d inside)
      ]

  pub given_by : (j : ℕ) → j < length old → (listed : Bool) → is_listed places j ≡ listed →
      get_or (map state_of new) j none
      ≡ (if listed then after m (get_or (map state_of old) j none) else get_or (map state_of old) j none)
  given_by j inside listed e =
      let d : X = some_element old j inside in
      let own : get_or (map state_of old) j none ≡ state_of (get_or old j d) = get_or-map state_of old j d none inside in
      let now : get_or (map state_of new) j none ≡ state_of (get_or new j d) = get_or-map state_of new j d none (omega (arith, inside, are.as_many)) in
      rw (own, now) (by d listed e)
    where
      by : (d : X) (b : Bool) → is_listed places j ≡ b → state_of (get_or new j d)
          ≡ (if b then after m (state_of (get_or old j d)) else state_of (get_or old j d))
      by d true q = rw (machines j d inside) at (are.each j d inside q).1
      by d false q = ap state_of (are.others j d q)

-- at some places and then at others, if twice is as once where both lists have the place
pub given_by_two : {S : Type 0} (after : S → S) (x y z : S) (a b : Bool) →
    (a ≡ true → b ≡ true → after (after x) ≡ after x) → y ≡ (if a then after x else x) →
    z ≡ (if b then after y else y) → z ≡ (if a || b then after x else x)
given_by_two after x y z true true twice one two = two ∙ ap after one ∙ twice refl refl
given_by_two after x y z true false twice one two = two ∙ one
given_by_two after x y z false true twice one two = two ∙ ap after one
given_by_two after x y z false false twice one two = two ∙ one

-- ---- components that are ready

pub functions_allowed : {X : Type 0} {g : _} (m : Machine) (tick : ℕ) (message : Message)
    (parts : Components X g) → AreReady m tick parts → IsMessage m message →
    All (λ (s : FunctionModel). IsTimely s.tick (λ next. s.changed ≡ next) tick
    × IsMessage s.machine.value message × Unit {0}) parts.functions.items
functions_allowed {X} {g} m tick message parts ready is k d h =
    let own = functions_are_ready m tick parts ready k d h in (
      record {
        not_before = own.not_later;
        in_time = ready.in_time;
        not_past = λ next e. omega (arith, own.now next e);
      },
      rw (ready.parts.own_functions k d h) is,
      tt,
    )

module _ (m : Machine) (tick : ℕ) (message : Message) (in_time : tick < tick_limit) (is : IsMessage m message)
    (xs : List CrossingModel) (machines : All (λ (c : CrossingModel). c.machine.value ≡ m) xs)
    (ready : All (λ (c : CrossingModel). IsCrossingReady m tick (crossing_of c)) xs) where
  pub crossings_allowed : All (λ (c : CrossingModel). IsTimely c.detector.tick (IsCrossingNext c.detector) tick
      × IsMessage c.machine.value message × AreSmallAt c.machine.value c.inputs.items tick) xs
  crossings_allowed k d h =
      let own = ready k d h in (
        record {
          not_before = own.not_later;
          in_time = in_time;
          not_past = λ next found. omega (arith, own.later next found);
        },
        rw (machines k d h) is,
        rw (machines k d h) own.small,
      )

  pub crossings_stay_ready : {places : List ℕ} {ys : List CrossingModel} →
      AreGiven (λ s t. (t.machine.value ≡ s.machine.value)
      × (crossing_of t ≡ crossing_after_message s.machine.value (crossing_of s) tick message)) places xs ys →
      All (λ (c : CrossingModel). IsCrossingReady m tick (crossing_of c)) ys
  crossings_stay_ready {places} {ys} are k d h =
      let inside : k < length xs = omega (arith, h, are.as_many) in
      elim (cases_Bool (is_listed places k)) [
        | inl listed ↦
            rw ((are.each k d inside listed).1, machines k d inside)
            (crossing_ready_given m tick message (crossing_of (get_or xs k d)) is (ready k d inside))
        | inr other ↦ rw (are.others k d other) (ready k d inside)
      ]
