-- Components of which some received a message, and their agreement with its value.
use Rattle.qss_devs.proofs.Common
use Common.{[], ℕ, ℤ, ◌+◌, ◌-◌, ◌<◌, ◌==◌, ◌||◌, ◌∙◌, ◌∷◌, ◌≡◌, ◌≢◌, Agrees, All, All-set}
use Common.{among_rows, ap, AreComponents, AreGiven, AreReady, AreRuled, arith, Bool, cases_eq}
use Common.{Components, Condition, condition_at, conditions, Crossing, crossing_after_message}
use Common.{crossing_at, crossing_of, CrossingAgrees, CrossingModel, Discrete, discrete_count}
use Common.{eqb-no, eqb-yes, false, function_after_message, function_state_at, function_state_of}
use Common.{FunctionModel, functions_given, FunctionState, get_or, get_or-map, HasEach}
use Common.{HaveReceived, if_cases, inl, inr, IntegratorModel, is_listed, IsCrossingReady}
use Common.{IsGivenLine, IsIntegratorOf, IsLineNext, IsMessage, IsSummingReady, IsTimely, length}
use Common.{length-set, Level, Line, line_after_message, line_at, LineAgrees, lines_given, List}
use Common.{Machine, Message, no_crossing, no_line, no_summing, Option, Quantizer, reading_rows}
use Common.{refl, Row, RowKind, Rule, set, Slope, State, state_at, state_count, subst, sum_of}
use Common.{summing_sent, SummingAgrees, sym, take, true, Values, values_after_row}
use Common.{values_after_rows}
use Rattle.std.proofs.Common.{◌⊎◌}
use Rattle.qss_components.specs.ComponentTheorems.{crossings_given, goes_to_crossing}
use Rattle.qss_components.specs.ComponentTheorems.{goes_to_function, goes_to_integrator}
use Rattle.qss_components.specs.ComponentTheorems.{values_after_message}
use Rattle.qss_machine.specs.Readers.{reading_conditions, condition_reads}
use Rattle.qss_devs.proofs.MessageDelivery.{summing_ready_given, crossing_ready_given}
use Rattle.qss_devs.proofs.MessageDelivery.{line_ready_given, received_twice, machines_stay}
use Rattle.qss_devs.proofs.MessageDelivery.{given_by, given_by_two}
use Rattle.qss_events.proofs.Readers.{among_conditions}
use Rattle.qss_devs.proofs.Lists.{mapped_set}
use Rattle.qss_devs.proofs.OneTransition.{integrators_set}
use Rattle.std.proofs.lemmas.List.Sums.{fold_more}
use Rattle.qss_components.specs.Agreement.{Agree}
use Rattle.qss_components.proofs.Keeping.{messages_keep_agreement}
use Rattle.qss_machine.specs.declared.machine_parts.RowKind.TheVariants as kind

either_none : (a : Bool) → (a || false) ≡ a
either_none true = refl
either_none false = refl

-- components that received a message are ready
ready_after : {X : Type 0} {g : _} (m : Machine) (tick : ℕ) (message : Message)
    (old new : Components X g) → IsMessage m message → AreReady m tick old → AreComponents m new →
    ((j : ℕ) → j < state_count m → line_at new j ≡ lines_given tick message (line_at old) j) →
    ((j : ℕ) → j < state_count m →
    function_state_at new j ≡ functions_given m tick message (function_state_at old) j) →
    ((place : ℕ) → place < length (conditions m) →
    crossing_at new place ≡ crossings_given m tick message (crossing_at old) place) →
    AreReady m tick new
ready_after m tick message old new is ready are lines functions crossings = record {
  parts = are;
  in_time = ready.in_time;
  integrators = λ j h.
      rw (lines j h)
      (if_cases (λ (l : Line). IsTimely l.tick (IsLineNext m j l) tick)
      (goes_to_integrator j message) _ _
      (λ e. line_ready_given m j tick message (line_at old j) ready.in_time)
      (λ e. ready.integrators j h));
  functions = λ j h.
      rw (functions j h)
      (if_cases (IsSummingReady tick) (goes_to_function m j message) _ _
      (λ e. summing_ready_given m tick message (function_state_at old j) (ready.functions j h))
      (λ e. ready.functions j h));
  crossings = λ place h.
      rw (crossings place h)
      (if_cases (IsCrossingReady m tick) (goes_to_crossing m (condition_at m place) message) _ _
      (λ e. crossing_ready_given m tick message (crossing_at old place) is (ready.crossings place h))
      (λ e. ready.crossings place h));
}

-- ---- the messages

module _ {X : Type 0} {g : _} (m : Machine) (tick var : ℕ) (message : Message)
    (old new : Components X g) (ready : AreReady m tick old) (is : IsMessage m message) where
  abbrev pub FunctionsReceive : List ℕ → List FunctionModel → List FunctionModel → Type 0
  FunctionsReceive = AreGiven (λ s t. (t.machine.value ≡ s.machine.value)
      × (function_state_of t ≡ function_after_message s.machine.value (function_state_of s) tick message))

  abbrev pub CrossingsReceive : List ℕ → List CrossingModel → List CrossingModel → Type 0
  CrossingsReceive = AreGiven (λ s t. (t.machine.value ≡ s.machine.value)
      × (crossing_of t ≡ crossing_after_message s.machine.value (crossing_of s) tick message))

  -- the integrators received the message
  record LinesReceive : Type 0 where
    count : length new.integrators.items ≡ state_count m
    own : (j : ℕ) (d : IntegratorModel X g) → j < length new.integrators.items →
        IsIntegratorOf m j (get_or new.integrators.items j d)
    ruled : (name : Option Rule) → AreRuled name old → AreRuled name new
    lines : (j : ℕ) → j < state_count m → line_at new j ≡ lines_given tick message (line_at old) j

  no_line_receives : ((j : ℕ) → goes_to_integrator j message ≡ false) →
      new.integrators.items ≡ old.integrators.items → LinesReceive
  no_line_receives no_line same = record {
    count = rw same ready.parts.integrators;
    own = rw same ready.parts.own_integrators;
    ruled = λ name before. rw same before;
    lines = λ j h. rw (same, no_line j);
  }

  none_receive : (xs : List CrossingModel) → CrossingsReceive [] xs xs
  none_receive xs = record { as_many = refl; each = λ j d h e. absurd (cc); others = λ j d e. refl }

  -- functions at some places received the message, and crossings at places of two lists
  readers_received : (rows first second : List ℕ) (mid : List CrossingModel) → LinesReceive →
      ((j : ℕ) → j < state_count m → is_listed rows j ≡ goes_to_function m j message) →
      ((place : ℕ) → place < length (conditions m) → goes_to_crossing m (condition_at m place) message
      ≡ (is_listed first place || is_listed second place)) →
      ((c : Crossing) (place : ℕ) → is_listed first place ≡ true → is_listed second place ≡ true →
      crossing_after_message m (crossing_after_message m c tick message) tick message
      ≡ crossing_after_message m c tick message) → new.uses ≡ old.uses →
      FunctionsReceive rows old.functions.items new.functions.items →
      CrossingsReceive first old.crossings.items mid →
      CrossingsReceive second mid new.crossings.items → HaveReceived m tick message old new
  readers_received rows first second mid integrators to_rows to_places twice same_uses written one
      two = record {
        ruled = integrators.ruled;
        ready = ready_after m tick message old new is ready (record {
          integrators = integrators.count;
          functions = written.as_many ∙ ready.parts.functions;
          crossings = two.as_many ∙ one.as_many ∙ ready.parts.crossings;
          own_integrators = integrators.own;
          own_functions =
              machines_stay function_state_of (λ (f : FunctionModel). f.machine.value) no_summing
              (λ n s. function_after_message n s tick message) m written ready.parts.own_functions;
          own_crossings =
              machines_stay crossing_of (λ (c : CrossingModel). c.machine.value) no_crossing
              (λ n c. crossing_after_message n c tick message) m two mid_machines;
          uses = same_uses ∙ ready.parts.uses;
        }) integrators.lines functions crossings;
        lines = integrators.lines;
        functions = functions;
        crossings = crossings;
      }
    where
      functions : (j : ℕ) → j < state_count m →
          function_state_at new j ≡ functions_given m tick message (function_state_at old) j
      functions j h =
          given_by function_state_of (λ (f : FunctionModel). f.machine.value) no_summing
          (λ n s. function_after_message n s tick message) m written ready.parts.own_functions j
          (omega (arith, h, ready.parts.functions)) (goes_to_function m j message) (to_rows j h)

      mid_machines : All (λ (c : CrossingModel). c.machine.value ≡ m) mid
      mid_machines =
          machines_stay crossing_of (λ (c : CrossingModel). c.machine.value) no_crossing
          (λ n c. crossing_after_message n c tick message) m one ready.parts.own_crossings

      crossings : (place : ℕ) → place < length (conditions m) →
          crossing_at new place ≡ crossings_given m tick message (crossing_at old) place
      crossings place h =
          let inside : place < length old.crossings.items = omega (arith, h, ready.parts.crossings) in
          rw (to_places place h)
          (given_by_two (λ c. crossing_after_message m c tick message) (crossing_at old place) _
          (crossing_at new place) (is_listed first place) (is_listed second place)
          (twice (crossing_at old place) place)
          (given_by crossing_of (λ (c : CrossingModel). c.machine.value) no_crossing
          (λ n c. crossing_after_message n c tick message) m one ready.parts.own_crossings place inside _ refl)
          (given_by crossing_of (λ (c : CrossingModel). c.machine.value) no_crossing
          (λ n c. crossing_after_message n c tick message) m two mid_machines place
          (omega (arith, inside, one.as_many)) _ refl))

  pub level_received : (places : List ℕ) → (level : ℤ) × (message ≡ Level var level) → places ≡ reading_rows m var →
      new.integrators.items ≡ old.integrators.items →
      new.crossings.items ≡ old.crossings.items → new.uses ≡ old.uses →
      FunctionsReceive places old.functions.items new.functions.items →
      HaveReceived m tick message old new
  level_received places own_kind own same_lines same_crossings same_uses written =
      readers_received places [] [] old.crossings.items
      (no_line_receives (λ j. rw own_kind.1) same_lines)
      (λ j h. rw (own_kind.1, own) (among_rows m var j h)) (λ place h. rw own_kind.1)
      (λ c place e f. absurd (cc)) same_uses written (none_receive _)
      (rw same_crossings (none_receive _))

  pub discrete_received : (rows first second : List ℕ) (mid : List CrossingModel) →
      (value : ℤ) × (message ≡ Discrete var value) → rows ≡ reading_rows m var → first ≡ reading_conditions m var →
      second ≡ reading_conditions m (var + discrete_count m) →
      new.integrators.items ≡ old.integrators.items → new.uses ≡ old.uses →
      FunctionsReceive rows old.functions.items new.functions.items →
      CrossingsReceive first old.crossings.items mid →
      CrossingsReceive second mid new.crossings.items → HaveReceived m tick message old new
  discrete_received rows first second mid own_kind own_rows own_first own_second same_lines =
      readers_received rows first second mid (no_line_receives (λ j. rw own_kind.1) same_lines)
      (λ j h. rw (own_kind.1, own_rows) (among_rows m var j h))
      (λ place h.
      rw (
        own_kind.1,
        own_first,
        own_second,
        among_conditions m var place h,
        among_conditions m (var + discrete_count m) place h,
      ))
      (λ c place e f. rw own_kind.1 (received_twice m tick var own_kind.0 c))

  pub line_received : (places : List ℕ) (t : IntegratorModel X g) →
      ((slope : ℤ) × (message ≡ Slope var slope)) ⊎ ((state : ℤ) × (message ≡ State var state)) →
      var < state_count m → places ≡ reading_conditions m var →
      new.integrators.items ≡ set old.integrators.items var t →
      IsGivenLine (get_or old.integrators.items var t) tick message t →
      new.functions.items ≡ old.functions.items → new.uses ≡ old.uses →
      CrossingsReceive places old.crossings.items new.crossings.items →
      HaveReceived m tick message old new
  line_received places t own_kind known reads now_set given same_functions same_uses written =
      readers_received [] places [] new.crossings.items (record {
        count = ap length now_set ∙ length-set old.integrators.items var t ∙ ready.parts.integrators;
        own =
            rw now_set
            (integrators_set m old.integrators.items var t inside ready.parts.own_integrators
            (record { machine = given.machine ∙ was.machine; own = given.own ∙ was.own }));
        ruled = λ name before.
            rw now_set
            (All-set (λ (i : IntegratorModel X g). i.quantizer.value.name ≡ name)
            old.integrators.items var t
            (ap (λ (q : Quantizer X g). q.name) given.rule ∙ before var t inside) before);
        lines = lines;
      }) (λ j h. sym (to_function j))
      (λ place h.
      to_crossing (condition_at m place)
      ∙ rw (reads, among_conditions m var place h) (sym (either_none _)))
      (λ c place e f. absurd (cc)) same_uses
      (rw same_functions (record { as_many = refl; each = λ j d h e. absurd (cc); others = λ j d e. refl }))
      written (none_receive _)
    where
      to_line : (j : ℕ) → goes_to_integrator j message ≡ (var == j)
      to_line j = elim own_kind [ inl of_slope ↦ rw of_slope.1 | inr of_state ↦ rw of_state.1 ]

      to_function : (j : ℕ) → goes_to_function m j message ≡ false
      to_function j = elim own_kind [ inl of_slope ↦ rw of_slope.1 | inr of_state ↦ rw of_state.1 ]

      to_crossing : (k : Condition) → goes_to_crossing m k message ≡ condition_reads var k
      to_crossing k = elim own_kind [ inl of_slope ↦ rw of_slope.1 | inr of_state ↦ rw of_state.1 ]

      inside : var < length old.integrators.items
      inside = omega (arith, known, ready.parts.integrators)

      was : IsIntegratorOf m var (get_or old.integrators.items var t)
      was = ready.parts.own_integrators var t inside

      own_line : (get_or old.integrators.items var t).line ≡ line_at old var
      own_line =
          sym (get_or-map (λ (i : IntegratorModel X g). i.line) old.integrators.items var t no_line inside)

      new_line : t.line ≡ line_after_message var (line_at old var) tick message
      new_line = given.line ∙ rw (was.own, own_line)

      lines : (j : ℕ) → j < state_count m → line_at new j ≡ lines_given tick message (line_at old) j
      lines j h = elim (cases_eq var j) [
        | inl e ↦
            rw (now_set, to_line j, eqb-yes var j e)
            (((mapped_set (λ (i : IntegratorModel X g). i.line) no_line old.integrators.items var t inside j).0 e ∙ new_line)
            ∙ ap (λ (k : ℕ). line_after_message k (line_at old k) tick message) e)
        | inr ne ↦ rw (now_set, to_line j, eqb-no var j ne) ((mapped_set (λ (i : IntegratorModel X g). i.line) no_line old.integrators.items var t inside j).1 ne)
      ]

-- ---- components that received a message agree with its value

-- agreement is one of each component
pub agree_same : (m : Machine) (tick : ℕ) (v : Values) (line now_line : ℕ → Line) (s now_s : ℕ → FunctionState) (c now_c : ℕ → Crossing) →
    ((j : ℕ) → j < state_count m → now_line j ≡ line j) → ((j : ℕ) → j < state_count m → now_s j ≡ s j) →
    ((place : ℕ) → place < length (conditions m) → now_c place ≡ c place) → Agree m tick v line s c → Agree m tick v now_line now_s now_c
agree_same m tick v line now_line s now_s c now_c lines functions crossings a = record {
  integrators = λ j h. subst (LineAgrees tick v j) (sym (lines j h)) (a.integrators j h);
  functions = λ j h. subst (SummingAgrees m tick v j) (sym (functions j h)) (a.functions j h);
  crossings = λ place h. subst (CrossingAgrees m tick v place (condition_at m place)) (sym (crossings place h)) (a.crossings place h);
}

module _ {X : Type 0} {g : _} (m : Machine) (tick : ℕ) (v : Values) (each : HasEach m v) (old new : Components X g) where
  pub agree_state : (var : ℕ) (state : ℤ) → var < state_count m → HaveReceived m tick (State var state) old new → Agrees m tick v old → Agrees m tick (values_after_message m v (State var state)) new
  agree_state var state known received a =
      agree_same m tick (values_after_message m v (State var state)) (lines_given tick (State var state) (line_at old)) (line_at new) (function_state_at old) (function_state_at new)
      (crossings_given m tick (State var state) (crossing_at old)) (crossing_at new) received.lines received.functions received.crossings
      (messages_keep_agreement.state m tick var state v (line_at old) (function_state_at old) (crossing_at old) each known a)

  pub agree_discrete : (var : ℕ) (value : ℤ) → IsMessage m (Discrete var value) → HaveReceived m tick (Discrete var value) old new → Agrees m tick v old → Agrees m tick (values_after_message m v (Discrete var value)) new
  agree_discrete var value is received a =
      agree_same m tick (values_after_message m v (Discrete var value)) (line_at old) (line_at new) (functions_given m tick (Discrete var value) (function_state_at old)) (function_state_at new)
      (crossings_given m tick (Discrete var value) (crossing_at old)) (crossing_at new) received.lines received.functions received.crossings
      (messages_keep_agreement.discrete m tick var value v (line_at old) (function_state_at old) (crossing_at old) each is a)

  -- where a state's integrator took the level before it was sent
  pub agree_level : (var : ℕ) (level : ℤ) (mid : Components X g) → var < state_count m → HaveReceived m tick (Level var level) mid new → Agrees m tick v old →
      ((j : ℕ) → j ≢ var → line_at mid j ≡ line_at old j) →
      line_at mid var ≡ record { tick = tick; x = state_at (line_at old var) tick; slope = (line_at old var).slope; level = level } →
      ((j : ℕ) → function_state_at mid j ≡ function_state_at old j) → ((place : ℕ) → crossing_at mid place ≡ crossing_at old place) →
      Agrees m tick (values_after_message m v (Level var level)) new
  agree_level var level mid known received a others own functions crossings =
      agree_same m tick (values_after_message m v (Level var level)) (line_at mid) (line_at new) (functions_given m tick (Level var level) (function_state_at old)) (function_state_at new)
      (crossing_at old) (crossing_at new) received.lines
      (λ j h. received.functions j h ∙ ap (λ (s : FunctionState). functions_given m tick (Level var level) (λ k. s) j) (functions j))
      (λ place h. received.crossings place h ∙ crossings place)
      (messages_keep_agreement.level m tick var level v (line_at old) (line_at mid) (function_state_at old) (crossing_at old) each known a others own)

  -- where a function made its transition before its sum was sent
  pub agree_slope : (var : ℕ) (mid : Components X g) → var < state_count m → HaveReceived m tick (Slope var (sum_of m (function_state_at old var))) mid new → Agrees m tick v old →
      ((j : ℕ) → line_at mid j ≡ line_at old j) → ((j : ℕ) → j ≢ var → function_state_at mid j ≡ function_state_at old j) →
      function_state_at mid var ≡ summing_sent (function_state_at old var) tick → ((place : ℕ) → crossing_at mid place ≡ crossing_at old place) →
      Agrees m tick (values_after_message m v (Slope var (sum_of m (function_state_at old var)))) new
  agree_slope var mid known received a lines others own crossings =
      let sum = sum_of m (function_state_at old var) in
      agree_same m tick (values_after_message m v (Slope var sum)) (lines_given tick (Slope var sum) (line_at old)) (line_at new) (function_state_at mid) (function_state_at new)
      (crossings_given m tick (Slope var sum) (crossing_at old)) (crossing_at new)
      (λ j h. received.lines j h ∙ ap (λ (l : Line). lines_given tick (Slope var sum) (λ k. l) j) (lines j)) received.functions
      (λ place h. received.crossings place h ∙ ap (λ (c : Crossing). crossings_given m tick (Slope var sum) (λ k. c) place) (crossings place))
      (messages_keep_agreement.slope m tick var v (line_at old) (function_state_at old) (function_state_at mid) (crossing_at old) each known a others own)

-- ---- rows

-- a row of another kind changes no value
pub kind_other : (m : Machine) (v : Values) (k : RowKind) (row : Row) → k ≢ kind.Set → k ≢ kind.Reinit → values_after_row m v k row ≡ v
kind_other m v kind.Start row a b = refl
kind_other m v (kind.When clause branch) row a b = refl
kind_other m v kind.Set row a b = absurd (a refl)
kind_other m v kind.Reinit row a b = absurd (b refl)
kind_other m v kind.Level row a b = refl
kind_other m v kind.End row a b = refl
kind_other m v kind.Overflow row a b = refl

-- the values after a row have the same lengths
kind_each : (m : Machine) (v : Values) (k : RowKind) (row : Row) → HasEach m v → HasEach m (values_after_row m v k row)
kind_each m v kind.Start row each = each
kind_each m v (kind.When clause branch) row each = each
kind_each m v kind.Set row each = record {
  states = each.states;
  slopes = each.slopes;
  levels = each.levels;
  discretes = length-set v.discretes (row.var - state_count m) row.level ∙ each.discretes;
}
kind_each m v kind.Reinit row each = record {
  states = length-set v.states row.var row.state ∙ each.states;
  slopes = each.slopes;
  levels = each.levels;
  discretes = each.discretes;
}
kind_each m v kind.Level row each = each
kind_each m v kind.End row each = each
kind_each m v kind.Overflow row each = each

pub rows_each : (m : Machine) (v : Values) (rows : List Row) → HasEach m v → HasEach m (values_after_rows m v rows)
rows_each m v [] each = each
rows_each m v (row ∷ rows) each = rows_each m (values_after_row m v row.kind row) rows (kind_each m v row.kind row each)

-- one row more
pub row_more : (m : Machine) (v : Values) (rows : List Row) (i : ℕ) (row : Row) → i < length rows → row ≡ get_or rows i row →
    values_after_row m (values_after_rows m v (take i rows)) row.kind row ≡ values_after_rows m v (take (i + 1) rows)
row_more m v rows i row h is =
    ap (λ (r : Row). values_after_row m (values_after_rows m v (take i rows)) r.kind r) is
    ∙ sym (fold_more (λ (values : Values) (r : Row). values_after_row m values r.kind r) v rows i row h)
