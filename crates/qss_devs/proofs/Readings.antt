-- Crossings that were read on arrival at a tick, and components with them.
use Rattle.qss_devs.proofs.Common
use Common.{ℕ, ◌+◌, ◌<◌, ◌∙◌, ◌≡◌, ◌≤◌, Agrees, All, ap, AreComponents, arith, Bool, compares}
use Common.{Components, Condition, condition_at, conditions, Crossing, crossing_at, crossing_of}
use Common.{CrossingAgrees, CrossingModel, CrossingsLater, false, flag_at, FunctionModel, get_or}
use Common.{get_or-map, get_or-set_other, get_or_default, inl, inr, IntegratorModel, IsCrossingNext}
use Common.{IsTimely, length, length-map, length-set, List, Machine, map, Message, no_crossing}
use Common.{no_ticks, None, Option, refl, same_lists, set, Some, subst, sym, Values}
use Rattle.qss_devs.specs.Coupling.{IsReadAt}
use Rattle.qss_components.specs.Crossings.{IsRead}
use Rattle.std.specs.Prelude.{IsSome, IfSome}
use Rattle.qss_cross.specs.Crossing.{value_at}
use Rattle.qss_devs.proofs.Lists.{set_more, at_twice, some_element}

-- the message that is there
pub message_is : (o : Option Message) (a : Message) → IsSome o → IfSome o (λ s. s ≡ a) → o ≡ Some a
message_is None a some is = absurd (cc)
message_is (Some s) a some is = ap (λ (m : Message). Some m) is

-- a crossing that was read agrees as before
pub read_agrees : (m : Machine) (tick : ℕ) (v : Values) (place : ℕ) (condition : Condition) (old new : Crossing) → IsRead tick old new → CrossingAgrees m tick v place condition old →
    CrossingAgrees m tick v place condition new
read_agrees m tick v place condition old new (inl same) a = subst (CrossingAgrees m tick v place condition) (sym same) a
read_agrees m tick v place condition old new (inr turned) a = subst (CrossingAgrees m tick v place condition) (sym turned) (record {
  own = a.own;
  own_rel = a.own_rel;
  own_time = a.own_time;
  own_constant = a.own_constant;
  entries = a.entries;
  not_later = omega arith;
  lines = a.lines;
  here = no_ticks (value_at old.detector tick) old.detector.speed tick ∙ a.here;
  own_speed = a.own_speed;
})

-- the crossings before a place were read, and the others are as they were
pub record AreReadUpTo (tick place : ℕ) (old new : List CrossingModel) : Type 0 where
  pub as_many : length new ≡ length old
  pub read : (k : ℕ) (d : CrossingModel) → k < place → k < length old → IsReadAt tick (get_or old k d) (get_or new k d)
  pub rest : (k : ℕ) (d : CrossingModel) → place ≤ k → get_or new k d ≡ get_or old k d

pub none_read : (tick : ℕ) (xs : List CrossingModel) → AreReadUpTo tick 0 xs xs
none_read tick xs = record {
  as_many = refl;
  read = λ k d below inside. absurd (omega (arith, below));
  rest = λ k d past. refl;
}

module _ (tick place : ℕ) (old now : List CrossingModel) (x e : CrossingModel) (h : place < length old) (are : AreReadUpTo tick place old now)
    (read : IsReadAt tick (get_or old place e) x) where
  -- one more crossing was read
  pub read_more : AreReadUpTo tick (place + 1) old (set now place x)
  read_more = record {
    as_many = length-set now place x ∙ are.as_many;
    read = λ k d below inside.
        set_more (λ i (c : CrossingModel). IsReadAt tick (get_or old i d) c) now place x d k
        (omega (arith, h, are.as_many)) below (λ less. are.read k d less inside)
        (rw (get_or_default old place d e h) read);
    rest = λ k d past.
        get_or-set_other now place k x d (λ same. omega (arith, past, same))
        ∙ are.rest k d (omega (arith, past));
  }

-- ---- components whose crossings were read on arrival at a tick

-- what holds of each condition's crossing holds of all crossings
pub crossings_timely : {X : Type 0} {g : _} (m : Machine) (tick : ℕ) (parts : Components X g) → AreComponents m parts →
    ((place : ℕ) → place < length (conditions m) → IsTimely (crossing_at parts place).detector.tick (IsCrossingNext (crossing_at parts place).detector) tick) →
    All (λ (c : CrossingModel). IsTimely c.detector.tick (IsCrossingNext c.detector) tick) parts.crossings.items
crossings_timely {X} {g} m tick parts are timely k d h =
    subst (λ (c : Crossing). IsTimely c.detector.tick (IsCrossingNext c.detector) tick) (get_or-map crossing_of parts.crossings.items k d no_crossing h) (timely k (omega (arith, h, are.crossings)))

pub crossings_hold : {X : Type 0} {g : _} (m : Machine) (parts : Components X g) → AreComponents m parts → (now : List Bool) → length now ≡ length (conditions m) →
    ((place : ℕ) → place < length (conditions m) → flag_at now place ≡ compares (crossing_at parts place).detector.rel (crossing_at parts place).detector.value) →
    now ≡ map (λ (c : CrossingModel). compares c.detector.rel c.detector.value) parts.crossings.items
crossings_hold {X} {g} m parts are now many held =
    let holds : CrossingModel → Bool = λ c. compares c.detector.rel c.detector.value in
    let items : List CrossingModel = parts.crossings.items in
    same_lists false now (map holds items)
    (many ∙ sym are.crossings ∙ sym (length-map items holds))
    (λ k h.
    let inside : k < length items = omega (arith, h, length-map items holds) in
    held k (omega (arith, inside, are.crossings))
    ∙ sym (at_twice crossing_of (λ (c : Crossing). compares c.detector.rel c.detector.value) items k no_crossing false inside))

module _ {X : Type 0} {g : _} (m : Machine) (tick : ℕ) (old new : Components X g) (are : AreComponents m old)
    (same_lines : new.integrators.items ≡ old.integrators.items) (same_functions : new.functions.items ≡ old.functions.items) (same_uses : new.uses ≡ old.uses)
    (as_many : length new.crossings.items ≡ length old.crossings.items)
    (read : (k : ℕ) (d : CrossingModel) → k < length old.crossings.items → IsReadAt tick (get_or old.crossings.items k d) (get_or new.crossings.items k d)) where
  pub read_components : AreComponents m new
  read_components = record {
    integrators = ap (λ (l : List (IntegratorModel X g)). length l) same_lines ∙ are.integrators;
    functions = ap (λ (l : List FunctionModel). length l) same_functions ∙ are.functions;
    crossings = as_many ∙ are.crossings;
    own_integrators = rw same_lines are.own_integrators;
    own_functions = rw same_functions are.own_functions;
    own_crossings = λ k d h. let inside : k < length old.crossings.items = omega (arith, h, as_many) in (read k d inside).machine ∙ are.own_crossings k d inside;
    uses = same_uses ∙ are.uses;
  }

  was_read : (place : ℕ) → place < length (conditions m) → IsRead tick (crossing_at old place) (crossing_at new place)
  was_read place h =
      let inside : place < length old.crossings.items = omega (arith, h, are.crossings) in
      let here : place < length new.crossings.items = omega (arith, inside, as_many) in
      let d : CrossingModel = some_element old.crossings.items place inside in
      subst (λ (c : Crossing). IsRead tick c (crossing_at new place)) (sym (get_or-map crossing_of old.crossings.items place d no_crossing inside))
      (subst (λ (c : Crossing). IsRead tick (crossing_of (get_or old.crossings.items place d)) c) (sym (get_or-map crossing_of new.crossings.items place d no_crossing here)) (read place d inside).read)

  pub read_agree : (v : Values) → Agrees m tick v old → Agrees m tick v new
  read_agree v a = record {
    integrators = λ j h. rw same_lines (a.integrators j h);
    functions = λ j h. rw same_functions (a.functions j h);
    crossings = λ place h. read_agrees m tick v place (condition_at m place) (crossing_at old place) (crossing_at new place) (was_read place h) (a.crossings place h);
  }

  pub read_later : CrossingsLater m tick (crossing_at new)
  read_later place next h is =
      let inside : place < length old.crossings.items = omega (arith, h, are.crossings) in
      let here : place < length new.crossings.items = omega (arith, inside, as_many) in
      let d : CrossingModel = some_element old.crossings.items place inside in
      (read place d inside).later next (subst (λ (c : Crossing). IsCrossingNext c.detector (Some next)) (get_or-map crossing_of new.crossings.items place d no_crossing here) is)
