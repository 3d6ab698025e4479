-- Conditions that go on, or of which some settle, are a machine's conditions still.
use Rattle.qss_run.proofs.Common
use Common.{[], ℕ, ℤ, ◌++◌, ◌∙◌, ◌≡◌, All, All-append, ap, AreBranches, AreConditionsOf}
use Common.{AreDetectorsUpdated, AreSettled, AreSettledAlong, arith, Bool, Conditions, conditions}
use Common.{detector_states_of, Global, HasSpeed, IsSmall, IsWithin, length, List, Machine, Option}
use Common.{PlaceList, refl, states_at, subst, sym, Values, Vec}
use Rattle.qss_run.specs.ConditionContexts.{CanSettle, CanUpdateDetectors}
use Rattle.qss_run.specs.declared.run_conditions.ConditionContext.{ConditionContext}
use Rattle.qss_run.proofs.Apart.{none_noted, noted_then}
use Rattle.qss_run.proofs.Rewatching.{none_settled, settled_then}
use Rattle.qss_run.proofs.Settling.{none_arrived, arrived_on}
use Rattle.qss_run.proofs.Speeds.{going_on_more, has_speed_still}

-- ---- whose truths on arrival are others

pub arrived_anew : (m : Machine) (all : Conditions) (at_arrival : Vec Bool Global) (flipped : PlaceList) → AreConditionsOf m all → length at_arrival.items ≡ length (conditions m) →
    flipped.count ≡ all.flipped.count → AreConditionsOf m (record all { at_arrival = at_arrival; flipped = flipped })
arrived_anew m all at_arrival flipped are many count = record { branches = are.branches; detectors = are.detectors; at_arrival = many; after_handlers = are.after_handlers; flipped = count ∙ are.flipped }

-- ---- that go on at speeds

watched_then : (a b c : Conditions) → b ≡ record a { detectors = b.detectors } → c ≡ record b { detectors = c.detectors } → c ≡ record a { detectors = c.detectors }
watched_then a b c first second = second ∙ ap (λ (all : Conditions). record all { detectors = c.detectors }) first

pub still_fits : (m : Machine) (old new : Conditions) → AreConditionsOf m old → new ≡ record old { detectors = new.detectors } → length new.detectors.items ≡ length old.detectors.items → AreConditionsOf m new
still_fits m old new are rest many = record {
  branches = subst (AreBranches m) (sym (ap (λ (all : Conditions). all.branches.items) rest)) are.branches;
  detectors = many ∙ are.detectors;
  at_arrival = ap (λ (all : Conditions). length all.at_arrival.items) rest ∙ are.at_arrival;
  after_handlers = ap (λ (all : Conditions). length all.after_handlers.items) rest ∙ are.after_handlers;
  flipped = ap (λ (all : Conditions). all.flipped.count) rest ∙ are.flipped;
}

module _ (at : ConditionContext) where
  -- others may go on then
  pub still_goes : (places : List ℕ) (old new : Conditions) (due next : List (Option ℕ)) → CanUpdateDetectors at old due → AreDetectorsUpdated at places old new due next →
      CanUpdateDetectors at new next
  still_goes places old new due next can are = record {
    fits = still_fits at.machine.now old new can.fits are.same are.goes_on.as_many;
    places = omega (arith, are.goes_on.places, can.places);
    small = record {
      later = λ place h. (are.goes_on.each place (omega (arith, h, are.goes_on.as_many))).not_later;
      small = λ place h. subst IsSmall (sym (are.goes_on.each place (omega (arith, h, are.goes_on.as_many))).here) (can.small.small place (omega (arith, h, are.goes_on.as_many)));
    };
    slopes_of = can.slopes_of;
    in_time = can.in_time;
  }

  -- these places one after another, where the second are others that are equal
  pub rewatched_more : (xs ys zs all : List ℕ) (a b c : Conditions) (p q r : List (Option ℕ)) → AreDetectorsUpdated at xs a b p q → zs ≡ ys → all ≡ xs ++ ys → AreDetectorsUpdated at zs b c q r →
      AreDetectorsUpdated at all a c p r
  rewatched_more xs ys zs all a b c p q r first equal is second =
      let Own : ℕ → Type 0 = HasSpeed at.machine.now at.slopes.now c.detectors.items in
      let before : All Own xs = λ k d h. has_speed_still at.machine.now at.tick at.slopes.now b.detectors.items c.detectors.items q r second.goes_on _ (first.speeds k d h) in
      record {
        goes_on = going_on_more at.machine.now at.tick at.slopes.now a.detectors.items b.detectors.items c.detectors.items p q r first.goes_on second.goes_on;
        speeds = subst (All Own) (sym is) (All-append Own xs ys before (subst (All Own) equal second.speeds));
        same = watched_then a b c first.same second.same;
      }

-- ---- of which some settle

pub settled_fits : (m : Machine) (old new : Conditions) → AreConditionsOf m old → new ≡ record old { detectors = new.detectors; after_handlers = new.after_handlers; flipped = new.flipped } →
    length new.detectors.items ≡ length old.detectors.items → length new.after_handlers.items ≡ length old.after_handlers.items → new.flipped.count ≡ old.flipped.count → AreConditionsOf m new
settled_fits m old new are rest detectors after_handlers count = record {
  branches = subst (AreBranches m) (sym (ap (λ (all : Conditions). all.branches.items) rest)) are.branches;
  detectors = detectors ∙ are.detectors;
  at_arrival = ap (λ (all : Conditions). length all.at_arrival.items) rest ∙ are.at_arrival;
  after_handlers = after_handlers ∙ are.after_handlers;
  flipped = count ∙ are.flipped;
}

pub rest_then : (a b c : Conditions) → b ≡ record a { detectors = b.detectors; after_handlers = b.after_handlers; flipped = b.flipped } → c ≡ record b { detectors = c.detectors; after_handlers = c.after_handlers; flipped = c.flipped } →
    c ≡ record a { detectors = c.detectors; after_handlers = c.after_handlers; flipped = c.flipped }
rest_then a b c first second = second ∙ ap (λ (all : Conditions). record all { detectors = c.detectors; after_handlers = c.after_handlers; flipped = c.flipped }) first

module _ (at : ConditionContext) where
  -- none has settled at first
  pub none_along : (all : Conditions) (due : List (Option ℕ)) (work : Values) → CanSettle at all due work → AreSettledAlong at [] all all due due work work
  none_along all due work can = record {
    after_handlers = none_settled at.machine.now at.tick (states_at at.lines.now at.tick) work.d at.slopes.now (detector_states_of all due);
    noted = none_noted all;
    rest = refl;
    at_arrival = none_arrived at.machine.now (states_at at.lines.now at.tick) work.x;
    small = can.values.small_states;
    work = refl;
  }

  -- and then more settle
  pub along_then : (xs ys : List ℕ) (a b c : Conditions) (p q r : List (Option ℕ)) (u v w : Values) → AreSettledAlong at xs a b p q u v → AreSettledAlong at ys b c q r v w →
      AreSettledAlong at (xs ++ ys) a c p r u w
  along_then xs ys a b c p q r u v w first second =
      let full : List ℤ = states_at at.lines.now at.tick in
      let before = detector_states_of a p in
      let between = detector_states_of b q in
      let after = detector_states_of c r in
      let same : v.d ≡ u.d = ap (λ (z : Values). z.d) first.work in
      let then_settled = subst (λ d. AreSettled at.machine.now at.tick full d at.slopes.now ys between after) same second.after_handlers in
      record {
        after_handlers = settled_then at.machine.now at.tick full u.d at.slopes.now xs ys before between after first.after_handlers then_settled;
        noted = noted_then xs ys a b c first.noted second.noted (ap (λ (all : Conditions). all.at_arrival.items) second.rest) (λ place none. (second.after_handlers.kept place none).truth);
        rest = rest_then a b c first.rest second.rest;
        at_arrival = arrived_on at.machine.now xs ys full u.x v.x w.x first.at_arrival second.at_arrival;
        small = second.small;
        work = second.work ∙ ap (λ (z : Values). record z { x = w.x }) first.work;
      }

  -- these lists of places one after another, where the second is another one that is equal
  pub along_more : (xs ys zs all : List ℕ) (a b c : Conditions) (p q r : List (Option ℕ)) (u v w : Values) → AreSettledAlong at xs a b p q u v → zs ≡ ys → all ≡ xs ++ ys →
      AreSettledAlong at zs b c q r v w → AreSettledAlong at all a c p r u w
  along_more xs ys zs all a b c p q r u v w first same is second =
      subst (λ (places : List ℕ). AreSettledAlong at places a c p r u w) (sym is)
      (along_then xs ys a b c p q r u v w first (subst (λ (places : List ℕ). AreSettledAlong at places b c q r v w) same second))

  -- others may settle then
  pub still_settles : (places : List ℕ) (old new : Conditions) (due next : List (Option ℕ)) (v w : Values) → CanSettle at old due v → AreSettledAlong at places old new due next v w →
      CanSettle at new next w
  still_settles places old new due next v w can are =
      let of_d : w.d ≡ v.d = ap (λ (z : Values). z.d) are.work in
      record {
        moment = can.moment;
        fits = settled_fits at.machine.now old new can.fits are.rest are.after_handlers.many_watches are.after_handlers.many_truths are.noted.count;
        places = omega (arith, are.after_handlers.many_dues, can.places);
        values = record {
          states = are.at_arrival.as_many ∙ can.values.states;
          discretes = ap length of_d ∙ can.values.discretes;
          small_states = are.small;
          small_discretes = subst (All (IsWithin 43)) (sym of_d) can.values.small_discretes;
        };
      }

-- after that some go on
pub rest_watched : (a b c : Conditions) → b ≡ record a { detectors = b.detectors; after_handlers = b.after_handlers; flipped = b.flipped } → c ≡ record b { detectors = c.detectors } →
    c ≡ record a { detectors = c.detectors; after_handlers = c.after_handlers; flipped = c.flipped }
rest_watched a b c first second =
    second ∙ ap (λ (all : Conditions). record all { detectors = c.detectors }) first
    ∙ ap (λ after_handlers. record a { detectors = c.detectors; after_handlers = after_handlers; flipped = b.flipped }) (sym (ap (λ (all : Conditions). all.after_handlers) second))
    ∙ ap (λ flipped. record a { detectors = c.detectors; after_handlers = c.after_handlers; flipped = flipped }) (sym (ap (λ (all : Conditions). all.flipped) second))
