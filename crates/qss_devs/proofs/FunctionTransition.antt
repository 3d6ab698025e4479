-- The sum that a function sends at a tick or has sent, and its transition.
use Rattle.qss_devs.proofs.Common
use Common.{ℕ, ℤ, ◌<◌, ◌==◌, ◌∙◌, ◌≡◌, ◌≢◌, Agrees, AllLinesLater, ap, AreReady, AreValues}
use Common.{AreWithinQuanta, arith, Bool, cases_Bool, cases_eq, Components, crossing_at, exceeds}
use Common.{exceeds_row_limits, false, function_state_at, function_state_of, FunctionModel}
use Common.{functions_given, FunctionState, HasEach, HaveReceived, if-false, if-true, if◌then◌else◌}
use Common.{inl, inr, int_at, int_lt-true, is_within_quantum, IsLineNext, IsMessage, IsSlopeSent}
use Common.{IsSummingReady, IsWithin, light_row, Line, line_after_message, line_at, line_moved}
use Common.{LineAgrees, lines_given, List, Machine, Message, near_later, None, Option}
use Common.{passes-within, passes_limit, pos, refl, row_at, set, set-get_or, Slope, slope_at, Some}
use Common.{state_at, state_count, subst, sum_at, sum_of, sum_same, summing_sent, SummingAgrees}
use Common.{sym, true, Values, within-passes}
use Rattle.qss_devs.proofs.MessagesReceived.{agree_same, agree_slope}
use Rattle.qss_devs.proofs.OneTransition.{HasNewFunction, function_machine, own_summing}
use Rattle.qss_devs.proofs.OneTransition.{new_summing, summings_other, function_ready}
use Rattle.qss_components.proofs.Sent.{still_light, own_slope}

-- a sum passes the limit of slopes where its row is past its limits
pub past_or_slope : (m : Machine) (j : ℕ) (levels discretes : List ℤ) → exceeds 88 (sum_at m j levels discretes) ≡ exceeds_row_limits m levels discretes (row_at m j)
past_or_slope m j levels discretes =
    elim (cases_Bool (exceeds_row_limits m levels discretes (row_at m j))) [
      | inl past ↦ rw past
      | inr light ↦
          rw light (within-passes 88 (slope_at m j levels discretes) (light_row m levels discretes j light).slope)
    ]

-- a function that has no change of a tick has none
pub none_left : (tick : ℕ) (changed : Option ℕ) → ((next : ℕ) → changed ≡ Some next → next ≡ tick) → (changed ≡ Some tick → ⊥) → changed ≡ None
none_left tick None now rests = refl
none_left tick (Some next) now rests = absurd (rests (ap (λ (k : ℕ). Some k) (now next refl)))

-- a line that is near its level leaves it later, also if it receives a slope
later_with_slope : (m : Machine) (i j tick next : ℕ) (slope : ℤ) (line : Line) → is_within_quantum m i (state_at line tick) line.level ≡ true → (IsLineNext m i line (Some next) → tick < next) →
    IsLineNext m i (if j == i then line_after_message i line tick (Slope j slope) else line) (Some next) → tick < next
later_with_slope m i j tick next slope line inside later found = by (j == i) refl found
  where
    by : (b : Bool) → (j == i) ≡ b → IsLineNext m i (if b then (if b then record line { tick = tick; x = state_at line tick; slope = slope } else line_moved line tick) else line) (Some next) → tick < next
    by true e there =
        near_later m i (record line { tick = tick; x = state_at line tick; slope = slope }) (int_lt-true _ _ inside) next there
    by false e there = later there

-- ---- a function that made its transition

module _ (m : Machine) (tick : ℕ) (v : Values) (each : HasEach m v) (j : ℕ) (known : j < state_count m) where
  pub sent_rests : {X : Type 0} {g : _} (parts : Components X g) → IsWithin 88 (int_at v.slopes j) → (function_state_at parts j).changed ≡ None → Agrees m tick v parts → IsSlopeSent m tick v j parts None
  sent_rests {X} {g} parts small none a =
      let own : SummingAgrees m tick v j (function_state_at parts j) = a.functions j known in
      let same : set v.slopes j (slope_at m j v.levels v.discretes) ≡ v.slopes =
      ap (λ (z : ℤ). set v.slopes j z) (sym (own_slope m tick v each j known (function_state_at parts j) own none small)) ∙ set-get_or v.slopes j (pos 0) in
      record {
        own_over = sym (if-false (exceeds_row_limits m v.levels v.discretes (row_at m j)) _ _ (still_light m tick v each j known (function_state_at parts j) own none small));
        agree = λ e. subst (λ (slopes : List ℤ). Agrees m tick (record v { slopes = slopes }) parts) (sym same) a;
        sent = λ e. none;
      }

  pub sent_passes : {X : Type 0} {g : _} (parts : Components X g) → exceeds 88 (sum_of m (function_state_at parts j)) ≡ true → Agrees m tick v parts → IsSlopeSent m tick v j parts (Some j)
  sent_passes {X} {g} parts past a =
      let sum : sum_of m (function_state_at parts j) ≡ sum_at m j v.levels v.discretes = sum_same m tick v each j known (function_state_at parts j) (a.functions j known) in
      let heavy : exceeds_row_limits m v.levels v.discretes (row_at m j) ≡ true = sym (past_or_slope m j v.levels v.discretes) ∙ ap (exceeds 88) (sym sum) ∙ past in
      record {
        own_over = sym (if-true (exceeds_row_limits m v.levels v.discretes (row_at m j)) _ _ heavy);
        agree = λ e. absurd (cc);
        sent = λ e. absurd (cc);
      }

  module _ {X : Type 0} {g : _} (old mid new : Components X g) (sent : Message) (a : Agrees m tick v old) (is : sent ≡ Slope j (sum_of m (function_state_at old j))) (received : HaveReceived m tick sent mid new) where
    now : HaveReceived m tick (Slope j (sum_of m (function_state_at old j))) mid new
    now = subst (λ (s : Message). HaveReceived m tick s mid new) is received

    pub sent_sends : passes_limit sent ≡ false → ((i : ℕ) → line_at mid i ≡ line_at old i) → ((i : ℕ) → i ≢ j → function_state_at mid i ≡ function_state_at old i) →
        function_state_at mid j ≡ summing_sent (function_state_at old j) tick → ((place : ℕ) → crossing_at mid place ≡ crossing_at old place) → IsSlopeSent m tick v j new None
    sent_sends small lines others own crossings =
        let sum : sum_of m (function_state_at old j) ≡ sum_at m j v.levels v.discretes = sum_same m tick v each j known (function_state_at old j) (a.functions j known) in
        let light : exceeds_row_limits m v.levels v.discretes (row_at m j) ≡ false = sym (past_or_slope m j v.levels v.discretes) ∙ ap (exceeds 88) (sym sum) ∙ sym (ap passes_limit is) ∙ small in
        let slope : sum_of m (function_state_at old j) ≡ slope_at m j v.levels v.discretes = sum ∙ if-false (exceeds_row_limits m v.levels v.discretes (row_at m j)) _ _ light in
        record {
          own_over = sym (if-false (exceeds_row_limits m v.levels v.discretes (row_at m j)) _ _ light);
          agree = λ e. subst (λ (z : ℤ). Agrees m tick (record v { slopes = set v.slopes j z }) new) slope (agree_slope m tick v each old new j mid known now a lines others own crossings);
          sent = λ e. ap (λ (s : FunctionState). s.changed) (now.functions j known ∙ own);
        }

    -- the line that receives a slope is near its level, and leaves it later
    pub lines_later : AreWithinQuanta m v → ((i : ℕ) → line_at mid i ≡ line_at old i) → AllLinesLater m tick (line_at old) → AllLinesLater m tick (line_at new)
    lines_later near lines later i next h found =
        let given : line_at new i ≡ lines_given tick (Slope j (sum_of m (function_state_at old j))) (line_at old) i =
        now.lines i h ∙ ap (λ (l : Line). lines_given tick (Slope j (sum_of m (function_state_at old j))) (λ k. l) i) (lines i) in
        let own : LineAgrees tick v i (line_at old i) = a.integrators i h in
        let inside : is_within_quantum m i (state_at (line_at old i) tick) (line_at old i).level ≡ true =
        ap (λ x. is_within_quantum m i x (line_at old i).level) own.here ∙ ap (λ level. is_within_quantum m i (int_at v.states i) level) own.own_level ∙ near i h in
        later_with_slope m i j tick next (sum_of m (function_state_at old j)) (line_at old i) inside (later i next h) (subst (λ (l : Line). IsLineNext m i l (Some next)) given found)

-- ---- a function that made its transition

module _ {X : Type 0} {g : _} {m : Machine} {j : ℕ} {old mid : Components X g}
    {s t : FunctionModel} (tick : ℕ) (e : HasNewFunction m j old mid s t)
    (ready : AreReady m tick old) where
  own_ready : IsSummingReady tick (function_state_of s)
  own_ready = rw (own_summing e) (ready.functions j e.known)

  -- ---- one that did not change

  module _ (same : t ≡ s) where
    here : function_state_at mid j ≡ function_state_of s
    here = new_summing e ∙ ap function_state_of same

    pub same_summings : (i : ℕ) → function_state_at mid i ≡ function_state_at old i
    same_summings i = elim (cases_eq i j) [
      | inl is ↦ rw is (here ∙ own_summing e)
      | inr ne ↦ summings_other e i ne
    ]

    pub same_ready : AreReady m tick mid
    same_ready =
        function_ready e tick (ap (λ (f : FunctionModel). f.machine.value) same) (rw same own_ready)
        ready

    same_agree : (v : Values) → Agrees m tick v old → Agrees m tick v mid
    same_agree v a =
        agree_same m tick v (line_at old) (line_at mid) (function_state_at old)
        (function_state_at mid) (crossing_at old) (crossing_at mid)
        (λ i h. rw e.lines) (λ i h. same_summings i)
        (λ place h. rw e.crossings) a

    pub same_later : AllLinesLater m tick (line_at old) → AllLinesLater m tick (line_at mid)
    same_later later i next h found = later i next h (rw e.lines at found)

    pub rests_sent : (s.changed ≡ Some tick → ⊥) → (v : Values) → AreValues m v →
        Agrees m tick v old → IsSlopeSent m tick v j mid None
    rests_sent rests v values a =
        let none : (function_state_at mid j).changed ≡ None =
        ap (λ (r : FunctionState). r.changed) here
        ∙ none_left tick s.changed own_ready.now rests in
        sent_rests m tick v values.each j e.known mid (values.slow j e.known) none
        (same_agree v a)

    pub exceeds_sent : (sent : Message) →
        sent ≡ Slope s.row (sum_of s.machine.value (function_state_of s)) →
        passes_limit sent ≡ true → (v : Values) → AreValues m v → Agrees m tick v old →
        IsSlopeSent m tick v j mid (Some j)
    exceeds_sent sent sends past v values a =
        let over : exceeds 88 (sum_of m (function_state_at mid j)) ≡ true =
        rw here (rw (← function_machine e) (rw sends at past)) in
        sent_passes m tick v values.each j e.known mid over (same_agree v a)

  -- ---- one that sent its sum

  module _ (sent : Message)
      (sends : sent ≡ Slope s.row (sum_of s.machine.value (function_state_of s)))
      (small : passes_limit sent ≡ false) (machine : t.machine.value ≡ s.machine.value)
      (turned : function_state_of t ≡ summing_sent (function_state_of s) tick) where
    pub slope_ready : AreReady m tick mid
    slope_ready =
        function_ready e tick machine
        (subst (IsSummingReady tick) (sym turned)
        (record { not_later = omega arith; now = λ next is. absurd (cc) })) ready

    pub slope_message : IsMessage m sent
    slope_message =
        let slope : IsWithin 88 (sum_of s.machine.value (function_state_of s)) =
        passes-within 88 (sum_of s.machine.value (function_state_of s))
        (sym (ap passes_limit sends) ∙ small) in
        let row : s.row < state_count m =
        subst (λ (n : Machine). s.row < state_count n) (function_machine e) s.known in
        subst (IsMessage m) (sym sends) (row, slope)

    module _ (new : Components X g) (received : HaveReceived m tick sent mid new) where
      pub slope_others : (i : ℕ) → i < state_count m → i ≢ j →
          function_state_at new i ≡ function_state_at old i
      slope_others i h ne =
          subst (λ (a : Message). function_state_at new i
          ≡ functions_given m tick a (function_state_at mid) i) sends (received.functions i h)
          ∙ summings_other e i ne

      module _ (v : Values) (values : AreValues m v) (a : Agrees m tick v old) where
        slope_message_is : sent ≡ Slope j (sum_of m (function_state_at old j))
        slope_message_is =
            sends
            ∙ ap (λ (k : ℕ). Slope k (sum_of s.machine.value (function_state_of s)))
            (ap (λ (r : FunctionState). r.row) (own_summing e) ∙ (a.functions j e.known).own)
            ∙ ap (λ (n : Machine). Slope j (sum_of n (function_state_of s))) (function_machine e)
            ∙ ap (λ (r : FunctionState). Slope j (sum_of m r)) (own_summing e)

        pub slope_sent : IsSlopeSent m tick v j new None
        slope_sent =
            sent_sends m tick v values.each j e.known old mid new sent a slope_message_is received small
            (λ i. rw e.lines) (summings_other e)
            (new_summing e ∙ turned ∙ ap (λ r. summing_sent r tick) (own_summing e))
            (λ place. rw e.crossings)

        pub slope_later : AreWithinQuanta m v → AllLinesLater m tick (line_at old) →
            AllLinesLater m tick (line_at new)
        slope_later near later =
            lines_later m tick v values.each j e.known old mid new sent a slope_message_is received near
            (λ i. rw e.lines) later
