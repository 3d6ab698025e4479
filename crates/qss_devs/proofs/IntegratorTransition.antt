-- The level that an integrator takes at a tick or keeps, and its transition.
use Rattle.qss_devs.proofs.Common
use Common.{[], ℕ, ℤ, ◌++◌, ◌<◌, ◌^◌, ◌∙◌, ◌∷◌, ◌≡◌, ◌≢◌, ◌≤◌, Agrees, ap, append-nil, AreReady}
use Common.{AreRuled, AreValues, arith, Bool, cases_Bool, cases_eq, cases_lt, Components}
use Common.{crossing_at, exceeds, false, function_state_at, HasEach, HasSmallLevel, HaveReceived}
use Common.{if-false, if-true, inl, inr, int_at, int_eq, int_lt-true, IntegratorModel, ints}
use Common.{is_within_quantum, IsFirstAfter, IsLevelTaken, IsLineNext, IsMessage, IsWithin}
use Common.{IsWithinOneLevel, LeavesAt, Level, level_after, level_unit, Line, line_at, LineAgrees}
use Common.{lines_given, List, Machine, Message, None, Option, passes_limit, pos, Quantizer, refl}
use Common.{Row, row_after, Rule, set, set-get_or, Some, state_at, state_count, subst, sym, true}
use Common.{Values, within-passes}
use Rattle.qss_components.specs.Integrators.{SendsLevel, TakesLevel}
use Rattle.qss_components.proofs.Passing.{level_small}
use Rattle.qss_devs.proofs.MessagesReceived.{agree_same, agree_level}
use Rattle.qss_devs.proofs.OneTransition.{HasNewIntegrator, own, own_line, own_rule, of_line}
use Rattle.qss_devs.proofs.OneTransition.{to_model, new_line, lines_other, integrator_ruled}
use Rattle.qss_devs.proofs.OneTransition.{integrator_ready}
use Rattle.qss_devs.proofs.MessageDelivery.{line_ready}
use Rattle.std.proofs.lemmas.Bool.Decides.{Decides-int_eq}
use Rattle.mu_num.proofs.Tests.{int_lt-false, int_lt-no}
use Rattle.qss_machine.specs.Machines.{quantum_of}
use Rattle.qss_quant.specs.IntegratorLines.{IsLineWithinQuantum}
use Rattle.qss_events.proofs.Changes.{leaving_changes_level}
use Rattle.qss_events.proofs.Lines.{line_here}
use Rattle.qss_devs.proofs.Stays.{same_up_to}
use Rattle.qss_machine.specs.declared.machine_parts.RowKind.TheVariants as kind

module _ (m : Machine) (var : ℕ) (line : Line) where
  abbrev near_at : ℕ → Bool
  near_at t = is_within_quantum m var (state_at line t) line.level

  own_state : state_at line line.tick ≡ line.x
  own_state = line_here line.tick line.x line.slope line.level

  -- where a line is due it is away from its level
  pub due_away : (tick : ℕ) → IsLineNext m var line (Some tick) → near_at tick ≡ false
  due_away tick next = elim (cases_Bool (is_within_quantum m var line.x line.level)) [
    | inl near ↦
        let first : IsFirstAfter (LeavesAt m var line) line.tick tick = rw near at next in
        int_lt-no _ _ first.holds
    | inr away ↦
        let own : Some tick ≡ Some line.tick = rw away at next in
        let same : tick ≡ line.tick = cc in
        ap near_at same ∙ ap (λ x. is_within_quantum m var x line.level) own_state ∙ away
  ]

  module _ (tick : ℕ) (early : line.tick ≤ tick) (in_time : tick < 2 ^ 32) (later : (next : ℕ) → IsLineNext m var line (Some next) → tick < next) where
    own_near : is_within_quantum m var line.x line.level ≡ true
    own_near = elim (cases_Bool (is_within_quantum m var line.x line.level)) [
      | inl near ↦ near
      | inr away ↦ absurd (omega (arith, later line.tick (rw away refl), early))
    ]

    -- where it leaves it only later, it is near its level
    pub rests_near : near_at tick ≡ true
    rests_near =
        same_up_to near_at true line.tick tick (omega (arith, in_time))
        (ap (λ x. is_within_quantum m var x line.level) own_state ∙ own_near) leaves_later early
      where
        leaves_later : (next : ℕ) → IsFirstAfter (λ t. near_at t ≢ true) line.tick next → tick < next
        leaves_later next change = later next (rw own_near (record {
          later = change.later;
          in_time = change.in_time;
          holds = elim (cases_Bool (near_at next)) [
            | inl near ↦ absurd (change.holds near)
            | inr away ↦ int_lt-false _ _ away
          ];
          first = λ u after before away. change.first u after before (λ near.
              let inside : IsLineWithinQuantum (level_unit m) (state_at line u) line.level (quantum_of m var line.level) = int_lt-true _ _ near in
              absurd (omega (arith, ints, inside, away)));
        }))

-- a transition that is neither before a tick nor at it is after it
pub later_yet : (IsNext : ℕ → Type 0) (tick : ℕ) → ((next : ℕ) → IsNext next → tick ≤ next) → (IsNext tick → ⊥) → (next : ℕ) → IsNext next → tick < next
later_yet IsNext tick not_past rests next is = elim (cases_lt tick next) [
  | inl less ↦ less
  | inr past ↦ let same : next ≡ tick = omega (arith, past, not_past next is) in absurd (rests (subst IsNext same is))
]

module _ (m : Machine) (rule : Rule) (tick : ℕ) (v : Values) (j : ℕ) (line : Line) (a : LineAgrees tick v j line) where
  near_is : is_within_quantum m j (state_at line tick) line.level ≡ is_within_quantum m j (int_at v.states j) (int_at v.levels j)
  near_is = ap (λ x. is_within_quantum m j x line.level) a.here ∙ ap (λ level. is_within_quantum m j (int_at v.states j) level) a.own_level

  -- a line that rests keeps its level
  pub rest_level : line.tick ≤ tick → tick < 2 ^ 32 → ((next : ℕ) → IsLineNext m j line (Some next) → tick < next) → level_after m rule v j ≡ int_at v.levels j
  rest_level early in_time later = if-true (is_within_quantum m j (int_at v.states j) (int_at v.levels j)) _ _ (sym near_is ∙ rests_near m j line tick early in_time later)

  -- one that is due takes the level of the rule
  module _ {Answers : ℤ → ℤ → ℤ → ℤ → Type 0} (name : Option Rule) (sent : Message) (named : name ≡ Some rule)
      (next : IsLineNext m j line (Some tick)) (sends : SendsLevel m name Answers j line tick sent) where
    away : is_within_quantum m j (int_at v.states j) (int_at v.levels j) ≡ false
    away = sym near_is ∙ due_away m j line tick next

    level_is : sends.level ≡ level_after m rule v j
    level_is =
        sends.allowed.named rule named
        ∙ rw (a.here, a.own_level)
        (sym (if-false (is_within_quantum m j (int_at v.states j) (int_at v.levels j)) _ _ away))

    pub due_level : sent ≡ Level j (level_after m rule v j)
    due_level = sends.told ∙ ap (λ (l : ℤ). Level j l) level_is

    -- which is another one
    pub due_changes : j < state_count m → int_eq (int_at v.levels j) (level_after m rule v j) ≡ false
    due_changes known = by (int_eq (int_at v.levels j) (level_after m rule v j)) refl
      where
        free : IsWithinOneLevel (level_unit m) (int_at v.states j) (int_at v.levels j) (level_after m rule v j)
        free =
            subst (λ x. IsWithinOneLevel (level_unit m) x (int_at v.levels j) (level_after m rule v j)) a.here
            (subst (λ old. IsWithinOneLevel (level_unit m) (state_at line tick) old (level_after m rule v j)) a.own_level
            (subst (IsWithinOneLevel (level_unit m) (state_at line tick) line.level) level_is sends.allowed.close))

        by : (b : Bool) → int_eq (int_at v.levels j) (level_after m rule v j) ≡ b → int_eq (int_at v.levels j) (level_after m rule v j) ≡ false
        by false e = e
        by true e =
            let same : int_at v.levels j ≡ level_after m rule v j = (Decides-int_eq (int_at v.levels j) (level_after m rule v j)).0 e in
            absurd (leaving_changes_level m j (int_at v.states j) (int_at v.levels j) (level_after m rule v j) known away free (sym same))

-- ---- an integrator that made its transition

pub taken_rests : {X : Type 0} {g : _} (m : Machine) (rule : Rule) (tick : ℕ) (v : Values) (j : ℕ) (parts : Components X g) (rows : List Row) → IsWithin 43 (int_at v.levels j) → level_after m rule v j ≡ int_at v.levels j →
    Agrees m tick v parts → IsLevelTaken m rule tick v j parts rows rows None
taken_rests {X} {g} m rule tick v j parts rows small kept a =
    let same : set v.levels j (level_after m rule v j) ≡ v.levels = ap (λ (z : ℤ). set v.levels j z) kept ∙ set-get_or v.levels j (pos 0) in
    let none : row_after m rule tick v j ≡ [] = if-true (int_eq (int_at v.levels j) (level_after m rule v j)) _ _ ((Decides-int_eq (int_at v.levels j) (level_after m rule v j)).1 (sym kept)) in
    record {
      own_over = sym (if-false (exceeds 43 (level_after m rule v j)) _ _ (ap (exceeds 43) kept ∙ within-passes 43 (int_at v.levels j) small));
      agree = λ e. subst (λ (levels : List ℤ). Agrees m tick (record v { levels = levels }) parts) (sym same) a;
      rows = λ e. sym (ap (λ (more : List Row). rows ++ more) none ∙ append-nil rows);
    }

pub taken_passes : {X : Type 0} {g : _} (m : Machine) (rule : Rule) (tick : ℕ) (v : Values) (j : ℕ) (parts : Components X g) (rows : List Row) → exceeds 43 (level_after m rule v j) ≡ true →
    IsLevelTaken m rule tick v j parts rows rows (Some j)
taken_passes {X} {g} m rule tick v j parts rows past = record {
  own_over = sym (if-true (exceeds 43 (level_after m rule v j)) _ _ past);
  agree = λ e. absurd (cc);
  rows = λ e. absurd (cc);
}

pub taken_sends : {X : Type 0} {g : _} {Answers : ℤ → ℤ → ℤ → ℤ → Type 0} (m : Machine) (rule : Rule) (tick : ℕ) (v : Values) (j : ℕ) (old mid new : Components X g) (before after : List Row) (name : Option Rule) (sent : Message) →
    HasEach m v → j < state_count m → Agrees m tick v old → name ≡ Some rule → IsLineNext m j (line_at old j) (Some tick) → SendsLevel m name Answers j (line_at old j) tick sent → passes_limit sent ≡ false →
    TakesLevel j (line_at old j) tick sent (line_at mid j) → ((i : ℕ) → i ≢ j → line_at mid i ≡ line_at old i) →
    ((i : ℕ) → function_state_at mid i ≡ function_state_at old i) → ((place : ℕ) → crossing_at mid place ≡ crossing_at old place) → HaveReceived m tick sent mid new →
    after ≡ before ++ record { tick = tick; kind = kind.Level; var = j; level = (line_at mid j).level; state = (line_at mid j).x } ∷ [] →
    IsLevelTaken m rule tick v j new before after None
taken_sends {X} {g} {Answers} m rule tick v j old mid new before after name sent each known a named next sends small takes others functions crossings received row_is =
    let own : LineAgrees tick v j (line_at old j) = a.integrators j known in
    let is : sent ≡ Level j (level_after m rule v j) = due_level m rule tick v j (line_at old j) own name sent named next sends in
    let same : Level j takes.level ≡ Level j (level_after m rule v j) = sym takes.told ∙ is in
    let same_level : takes.level ≡ level_after m rule v j = cc in
    let taken : line_at mid j ≡ record { tick = tick; x = state_at (line_at old j) tick; slope = (line_at old j).slope; level = level_after m rule v j } =
    takes.taken ∙ ap (λ (z : ℤ). record { tick = tick; x = state_at (line_at old j) tick; slope = (line_at old j).slope; level = z }) same_level in
    record {
      own_over = sym (if-false (exceeds 43 (level_after m rule v j)) _ _ (sym (ap passes_limit is) ∙ small));
      agree = λ e. agree_level m tick v each old new j (level_after m rule v j) mid known (subst (λ (s : Message). HaveReceived m tick s mid new) is received) a others taken functions crossings;
      rows = λ e.
          let changes = due_changes m rule tick v j (line_at old j) own name sent named next sends known in
          row_is
          ∙ rw (taken, own.here)
          (ap (λ (more : List Row). before ++ more) (sym (if-false (int_eq (int_at v.levels j) (level_after m rule v j)) _ _ changes)));
    }

-- ---- an integrator that made its transition

-- a level message changes no line
level_lines : {X : Type 0} {g : _} (m : Machine) (tick k : ℕ) (level : ℤ) (sent : Message)
    (mid new : Components X g) → sent ≡ Level k level → HaveReceived m tick sent mid new →
    (i : ℕ) → i < state_count m → line_at new i ≡ line_at mid i
level_lines m tick k level sent mid new is received i h =
    subst (λ (s : Message). line_at new i ≡ lines_given tick s (line_at mid) i) is (received.lines i h)

module _ {X : Type 0} {g : _} {m : Machine} {j : ℕ} {old mid : Components X g}
    {s t : IntegratorModel X g} (tick : ℕ) (e : HasNewIntegrator m j old mid s t)
    (ready : AreReady m tick old) where
  -- ---- one that did not change

  module _ (same : t ≡ s) where
    pub same_lines : (i : ℕ) → line_at mid i ≡ line_at old i
    same_lines i = elim (cases_eq i j) [
      | inl here ↦
          rw here (new_line e ∙ ap (λ (k : IntegratorModel X g). k.line) same ∙ own_line e.at)
      | inr ne ↦ lines_other e i ne
    ]

    pub same_ruled : (name : Option Rule) → AreRuled name old → AreRuled name mid
    same_ruled = integrator_ruled e (ap (λ (k : IntegratorModel X g). k.quantizer.value.name) same)

    pub same_ready : AreReady m tick mid
    same_ready =
        integrator_ready e tick (ap (λ (k : IntegratorModel X g). k.machine.value) same)
        (ap (λ (k : IntegratorModel X g). k.var) same)
        (rw (same, own_line e.at) (ready.integrators j e.at.known)) ready

    same_agree : (v : Values) → Agrees m tick v old → Agrees m tick v mid
    same_agree v a =
        agree_same m tick v (line_at old) (line_at mid) (function_state_at old)
        (function_state_at mid) (crossing_at old) (crossing_at mid) (λ i h. same_lines i)
        (λ i h. rw e.functions) (λ place h. rw e.crossings) a

    -- it rests
    module _ (rests : IsLineNext s.machine.value s.var s.line (Some tick) → ⊥) where
      rests_later : (next : ℕ) → IsLineNext m j (line_at old j) (Some next) → tick < next
      rests_later =
          later_yet (λ (next : ℕ). IsLineNext m j (line_at old j) (Some next)) tick
          (ready.integrators j e.at.known).not_past
          (λ n. rests (to_model e.at (λ k var l. IsLineNext k var l (Some tick)) n))

      pub rests_taken : (rule : Rule) (v : Values) (rows : List Row) → AreValues m v →
          Agrees m tick v old → IsLevelTaken m rule tick v j mid rows rows None
      rests_taken rule v rows values a =
          taken_rests m rule tick v j mid rows (values.small j e.at.known)
          (rest_level m rule tick v j (line_at old j) (a.integrators j e.at.known)
          (a.integrators j e.at.known).not_later ready.in_time rests_later) (same_agree v a)

      pub still_later : (next : ℕ) → IsLineNext m j (line_at mid j) (Some next) → tick < next
      still_later next found = rests_later next (rw (same_lines j) at found)

  -- ---- one that is due

  module _ {Answers : ℤ → ℤ → ℤ → ℤ → Type 0} (sent : Message)
      (next : IsLineNext s.machine.value s.var s.line (Some tick))
      (sends : SendsLevel s.machine.value s.quantizer.value.name Answers s.var s.line tick sent) where
    module _ (rule : Rule) (ruled : AreRuled (Some rule) old) where
      own_next : IsLineNext m j (line_at old j) (Some tick)
      own_next = of_line e.at (λ k var l. IsLineNext k var l (Some tick)) next

      own_sends : SendsLevel m (Some rule) Answers j (line_at old j) tick sent
      own_sends =
          of_line e.at (λ k var l. SendsLevel k (Some rule) Answers var l tick sent)
          (rw (own_rule e.at (Some rule) ruled) at sends)

      -- what it would send exceeds its limit
      pub exceeds_taken : passes_limit sent ≡ true → (v : Values) (rows : List Row) → AreValues m v →
          Agrees m tick v old → IsLevelTaken m rule tick v j mid rows rows (Some j)
      exceeds_taken past v rows values a =
          let level : sent ≡ Level j (level_after m rule v j) =
          due_level m rule tick v j (line_at old j) (a.integrators j e.at.known) (Some rule) sent
          refl own_next own_sends in
          taken_passes m rule tick v j mid rows (sym (ap passes_limit level) ∙ past)

    -- it takes the level
    module _ (small : passes_limit sent ≡ false) (machine : t.machine.value ≡ s.machine.value)
        (quantizer : t.quantizer.value ≡ s.quantizer.value) (var : t.var ≡ s.var)
        (takes : TakesLevel s.var s.line tick sent t.line) where
      pub sent_ruled : (name : Option Rule) → AreRuled name old → AreRuled name mid
      sent_ruled = integrator_ruled e (ap (λ (q : Quantizer X g). q.name) quantizer)

      pub sent_ready : AreReady m tick mid
      sent_ready =
          integrator_ready e tick machine var
          (line_ready m j tick t.line ready.in_time (ap (λ (l : Line). l.tick) takes.taken)) ready

      pub sent_message : IsMessage m sent
      sent_message =
          let level : IsWithin 43 takes.level =
          subst HasSmallLevel takes.told (level_small sent small) in
          let inside : s.var < state_count m = omega (arith, e.at.known, (own e.at).own) in
          subst (IsMessage m) (sym takes.told) (inside, level)

      module _ (new : Components X g) (received : HaveReceived m tick sent mid new) where
        pub sent_later :
            ((n : ℕ) → IsLineNext t.machine.value t.var t.line (Some n) → tick < n) →
            (n : ℕ) → IsLineNext m j (line_at new j) (Some n) → tick < n
        sent_later later n found =
            let line : line_at new j ≡ t.line =
            level_lines m tick s.var takes.level sent mid new takes.told received j e.at.known
            ∙ new_line e in
            let next_is : IsLineNext m j t.line (Some n) = rw line at found in
            later n
            (subst (λ (k : Machine). IsLineNext k t.var t.line (Some n))
            (sym (machine ∙ (own e.at).machine))
            (subst (λ (k : ℕ). IsLineNext m k t.line (Some n)) (sym (var ∙ (own e.at).own)) next_is))

        pub sent_others : (i : ℕ) → i < state_count m → i ≢ j → line_at new i ≡ line_at old i
        sent_others i h ne =
            level_lines m tick s.var takes.level sent mid new takes.told received i h
            ∙ lines_other e i ne

        pub sent_taken : (rule : Rule) → AreRuled (Some rule) old → (v : Values)
            (before after : List Row) → AreValues m v → Agrees m tick v old →
            after ≡ before ++ record { tick = tick; kind = kind.Level; var = j; level = t.line.level; state = t.line.x } ∷ [] →
            IsLevelTaken m rule tick v j new before after None
        sent_taken rule ruled v before after values a row_is =
            let own_takes : TakesLevel j (line_at old j) tick sent (line_at mid j) =
            rw (new_line e) (of_line e.at (λ k var l. TakesLevel var l tick sent t.line) takes) in
            taken_sends m rule tick v j old mid new before after (Some rule) sent values.each
            e.at.known a refl (own_next rule ruled) (own_sends rule ruled) small own_takes
            (lines_other e) (λ i. rw e.functions) (λ place. rw e.crossings) received
            (row_is
            ∙ ap (λ (l : Line). before ++ record { tick = tick; kind = kind.Level; var = j; level = l.level; state = l.x } ∷ [])
            (sym (new_line e)))
