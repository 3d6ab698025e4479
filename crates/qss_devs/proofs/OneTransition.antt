-- Components of which one made a transition.
use Rattle.qss_devs.proofs.Common
use Common.{ℕ, ◌<◌, ◌∙◌, ◌≡◌, ◌≢◌, All, All-set, ap, AreComponents, AreReady, AreRuled, arith}
use Common.{cases_eq, Components, crossing_of, CrossingModel, function_state_at, function_state_of}
use Common.{FunctionModel, get_or, get_or-map, get_or-set_other, get_or-set_same, get_or_default}
use Common.{inl, inr, IntegratorModel, IsCrossingReady, IsIntegratorOf, IsLineNext, IsSummingReady}
use Common.{IsTimely, length, length-set, Line, line_at, List, Machine, no_crossing, no_line}
use Common.{no_summing, Option, refl, Rule, set, state_count, subst, sym}
use Rattle.qss_devs.proofs.Lists.{mapped_set}

-- ---- an integrator

pub integrators_set : {X : Type 0} {g : _} (m : Machine) (xs : List (IntegratorModel X g)) (var : ℕ)
    (t : IntegratorModel X g) → var < length xs →
    ((j : ℕ) (d : IntegratorModel X g) → j < length xs → IsIntegratorOf m j (get_or xs j d)) →
    IsIntegratorOf m var t → (j : ℕ) (d : IntegratorModel X g) → j < length (set xs var t) →
    IsIntegratorOf m j (get_or (set xs var t) j d)
integrators_set {X} {g} m xs var t inside each own j d h = elim (cases_eq var j) [
  | inl e ↦ rw (← e, get_or-set_same xs var t d inside) own
  | inr ne ↦
      rw (get_or-set_other xs var j t d (λ e. ne (sym e)))
      (each j d (omega (arith, h, length-set xs var t)))
]

-- the integrator of a state
pub record HasIntegrator {X : Type 0} {g : _} (m : Machine) (j : ℕ) (old : Components X g) (s : IntegratorModel X g) : Type 0 where
  pub are : AreComponents m old
  pub known : j < state_count m
  pub is : s ≡ get_or old.integrators.items j s

-- only this integrator is replaced
pub record HasNewIntegrator {X : Type 0} {g : _} (m : Machine) (j : ℕ) (old mid : Components X g) (s t : IntegratorModel X g) : Type 0 where
  pub at : HasIntegrator m j old s
  pub set_is : mid.integrators.items ≡ set old.integrators.items j t
  pub functions : mid.functions.items ≡ old.functions.items
  pub crossings : mid.crossings.items ≡ old.crossings.items
  pub uses : mid.uses ≡ old.uses

module _ {X : Type 0} {g : _} {m : Machine} {j : ℕ} {old : Components X g} {s : IntegratorModel X g} (at : HasIntegrator m j old s) where
  inside : j < length old.integrators.items
  inside = omega (arith, at.known, at.are.integrators)

  pub own : IsIntegratorOf m j s
  own = subst (IsIntegratorOf m j) (sym at.is) (at.are.own_integrators j s inside)

  pub own_line : s.line ≡ line_at old j
  own_line =
      ap (λ (i : IntegratorModel X g). i.line) at.is
      ∙ sym (get_or-map (λ (i : IntegratorModel X g). i.line) old.integrators.items j s no_line inside)

  pub own_rule : (name : Option Rule) → AreRuled name old → s.quantizer.value.name ≡ name
  own_rule name ruled = subst (λ (i : IntegratorModel X g). i.quantizer.value.name ≡ name) (sym at.is) (ruled j s inside)

  -- what holds of it holds of the state's line
  pub of_line : (P : Machine → ℕ → Line → Type 0) → P s.machine.value s.var s.line → P m j (line_at old j)
  of_line P p = rw (← own_line, ← own.own, ← own.machine) p

  pub to_model : (P : Machine → ℕ → Line → Type 0) → P m j (line_at old j) → P s.machine.value s.var s.line
  to_model P p = rw (own.machine, own.own, own_line) p

module _ {X : Type 0} {g : _} {m : Machine} {j : ℕ} {old mid : Components X g} {s t : IntegratorModel X g} (e : HasNewIntegrator m j old mid s t) where
  pub new_line : line_at mid j ≡ t.line
  new_line = rw e.set_is ((mapped_set (λ (i : IntegratorModel X g). i.line) no_line old.integrators.items j t (inside e.at) j).0 refl)

  pub lines_other : (i : ℕ) → i ≢ j → line_at mid i ≡ line_at old i
  lines_other i ne =
      rw e.set_is ((mapped_set (λ (i : IntegratorModel X g). i.line) no_line old.integrators.items j t (inside e.at) i).1 (λ same. ne (sym same)))

  pub integrator_ruled : (t.quantizer.value.name ≡ s.quantizer.value.name) → (name : Option Rule) → AreRuled name old → AreRuled name mid
  integrator_ruled rule name before =
      subst (All (λ (i : IntegratorModel X g). i.quantizer.value.name ≡ name)) (sym e.set_is)
      (All-set (λ (i : IntegratorModel X g). i.quantizer.value.name ≡ name) old.integrators.items j t (rule ∙ own_rule e.at name before) before)

  -- if its line begins at the tick, or is unchanged, all may receive a message as before
  pub integrator_ready : (tick : ℕ) → t.machine.value ≡ s.machine.value → t.var ≡ s.var →
      IsTimely t.line.tick (IsLineNext m j t.line) tick → AreReady m tick old → AreReady m tick mid
  integrator_ready tick machine var timely ready = record {
    parts = record {
      integrators = ap length e.set_is ∙ length-set old.integrators.items j t ∙ e.at.are.integrators;
      functions = ap length e.functions ∙ e.at.are.functions;
      crossings = ap length e.crossings ∙ e.at.are.crossings;
      own_integrators =
          rw e.set_is
          (integrators_set m old.integrators.items j t (inside e.at) e.at.are.own_integrators
          (record { machine = machine ∙ (own e.at).machine; own = var ∙ (own e.at).own }));
      own_functions = rw e.functions e.at.are.own_functions;
      own_crossings = rw e.crossings e.at.are.own_crossings;
      uses = e.uses ∙ e.at.are.uses;
    };
    in_time = ready.in_time;
    integrators = λ i h. elim (cases_eq i j) [
      | inl same ↦ rw (same, new_line) timely
      | inr ne ↦ rw (lines_other i ne) (ready.integrators i h)
    ];
    functions = λ i h. rw e.functions (ready.functions i h);
    crossings = λ place h. rw e.crossings (ready.crossings place h);
  }

-- an element of the list of integrators
pub integrator_at : {X : Type 0} {g : _} {m : Machine} {parts : Components X g} →
    AreComponents m parts → (j : ℕ) (d : IntegratorModel X g) → j < length parts.integrators.items →
    HasIntegrator m j parts (get_or parts.integrators.items j d)
integrator_at {X} {g} {m} {parts} are j d h = record {
  are = are;
  known = omega (arith, h, are.integrators);
  is = get_or_default parts.integrators.items j d (get_or parts.integrators.items j d) h;
}

-- the integrators, the functions and the crossings may each receive a message
pub integrators_timely : {X : Type 0} {g : _} (m : Machine) (tick : ℕ) (parts : Components X g) → AreReady m tick parts →
    All (λ (i : IntegratorModel X g). IsTimely i.line.tick (IsLineNext i.machine.value i.var i.line) tick) parts.integrators.items
integrators_timely {X} {g} m tick parts ready k d h =
    to_model (integrator_at ready.parts k d h) (λ n var l. IsTimely l.tick (IsLineNext n var l) tick)
    (ready.integrators k (omega (arith, h, ready.parts.integrators)))

pub integrators_own : {X : Type 0} {g : _} (m : Machine) (parts : Components X g) → AreComponents m parts → All (λ (i : IntegratorModel X g). i.machine.value ≡ m) parts.integrators.items
integrators_own {X} {g} m parts are k d h = (are.own_integrators k d h).machine

pub functions_are_ready : {X : Type 0} {g : _} (m : Machine) (tick : ℕ) (parts : Components X g) → AreReady m tick parts →
    All (λ (f : FunctionModel). IsSummingReady tick (function_state_of f)) parts.functions.items
functions_are_ready {X} {g} m tick parts ready k d h =
    subst (IsSummingReady tick) (get_or-map function_state_of parts.functions.items k d no_summing h) (ready.functions k (omega (arith, h, ready.parts.functions)))

pub crossings_are_ready : {X : Type 0} {g : _} (m : Machine) (tick : ℕ) (parts : Components X g) → AreReady m tick parts →
    All (λ (c : CrossingModel). IsCrossingReady m tick (crossing_of c)) parts.crossings.items
crossings_are_ready {X} {g} m tick parts ready k d h =
    subst (IsCrossingReady m tick) (get_or-map crossing_of parts.crossings.items k d no_crossing h) (ready.crossings k (omega (arith, h, ready.parts.crossings)))

-- ---- a function

-- only this function is replaced
pub record HasNewFunction {X : Type 0} {g : _} (m : Machine) (j : ℕ) (old mid : Components X g) (s t : FunctionModel) : Type 0 where
  pub are : AreComponents m old
  pub known : j < state_count m
  pub is : s ≡ get_or old.functions.items j s
  pub set_is : mid.functions.items ≡ set old.functions.items j t
  pub lines : mid.integrators.items ≡ old.integrators.items
  pub crossings : mid.crossings.items ≡ old.crossings.items
  pub uses : mid.uses ≡ old.uses

module _ {X : Type 0} {g : _} {m : Machine} {j : ℕ} {old mid : Components X g} {s t : FunctionModel} (e : HasNewFunction m j old mid s t) where
  within : j < length old.functions.items
  within = omega (arith, e.known, e.are.functions)

  pub function_machine : s.machine.value ≡ m
  function_machine = subst (λ (f : FunctionModel). f.machine.value ≡ m) (sym e.is) (e.are.own_functions j s within)

  pub own_summing : function_state_of s ≡ function_state_at old j
  own_summing = ap function_state_of e.is ∙ sym (get_or-map function_state_of old.functions.items j s no_summing within)

  pub new_summing : function_state_at mid j ≡ function_state_of t
  new_summing =
      rw e.set_is ((mapped_set function_state_of no_summing old.functions.items j t within j).0 refl)

  pub summings_other : (i : ℕ) → i ≢ j → function_state_at mid i ≡ function_state_at old i
  summings_other i ne =
      rw e.set_is
      ((mapped_set function_state_of no_summing old.functions.items j t within i).1 (λ same. ne (sym same)))

  pub function_ready : (tick : ℕ) → t.machine.value ≡ s.machine.value →
      IsSummingReady tick (function_state_of t) → AreReady m tick old → AreReady m tick mid
  function_ready tick machine own_ready ready = record {
    parts = record {
      integrators = ap length e.lines ∙ e.are.integrators;
      functions = ap length e.set_is ∙ length-set old.functions.items j t ∙ e.are.functions;
      crossings = ap length e.crossings ∙ e.are.crossings;
      own_integrators = rw e.lines e.are.own_integrators;
      own_functions =
          rw e.set_is
          (All-set (λ (f : FunctionModel). f.machine.value ≡ m) old.functions.items j t
          (machine ∙ function_machine) e.are.own_functions);
      own_crossings = rw e.crossings e.are.own_crossings;
      uses = e.uses ∙ e.are.uses;
    };
    in_time = ready.in_time;
    integrators = λ i h. rw e.lines (ready.integrators i h);
    functions = λ i h. elim (cases_eq i j) [
      | inl same ↦ rw (same, new_summing) own_ready
      | inr ne ↦ rw (summings_other i ne) (ready.functions i h)
    ];
    crossings = λ place h. rw e.crossings (ready.crossings place h);
  }
