-- A store just before its next event step.
use Rattle.qss_run.proofs.Common
use Common.{ℕ, ℤ, ◌*ℤ◌, ◌+ℤ◌, ◌+◌, ◌-◌, ◌<◌, ◌∙◌, ◌≡◌, ◌≤◌, ap, AreAlikeBut, AreEventFree, arith}
use Common.{arrived_then, Bool, cases_lt, conditions, detector_at, due_at, false, firing_flags}
use Common.{FirstAfter, FitsMachine, get_or_past, Global, if◌then◌else◌, inl, inr, int_at}
use Common.{int_at-tabulate, IsScheduleOf, IsStoreAt, length, line_at, line_state_at, List}
use Common.{list_any, Machine, None, Option, PlaceList, pos, quiet_worlds, refl, rises, Rule}
use Common.{settled_twice, slope_at, Snapshot, snapshot_of, Some, state_at, state_count, states_at}
use Common.{Store, subst, suc, sym, tabulate, tabulate-same, true, Vec, zero}
use Rattle.qss_events.specs.EventFreeTicks.{states_after, snapshot_after}
use Rattle.qss_run.proofs.OwnConditions.{arrived_anew}
use Rattle.qss_events.proofs.Silence.{none_rises, silence, stands_still}
use Rattle.qss_events.proofs.Silences.{quiet_leads}

later_of : (P : ℕ → Type 0) (from t : ℕ) (found : Option ℕ) → FirstAfter P from found → found ≡ Some t → from < t
later_of P from t None first e = absurd (cc)
later_of P from t (Some u) first e = let same : u ≡ t = cc in omega (arith, first.later, same)

later_if : (tick t : ℕ) (b : Bool) → (if b then Some (tick + 1) else None) ≡ Some t → tick < t
later_if tick t true e = let same : tick + 1 ≡ t = cc in omega (arith, same)
later_if tick t false e = absurd (cc)

-- each due tick is later
pub dues_later : (m : Machine) (tick : ℕ) (s : Store) → IsStoreAt m tick s → (place t : ℕ) → due_at s.agenda place ≡ Some t → tick < t
dues_later m tick s stands place t e = elim (cases_lt place n) [ inl below ↦ later_of _ tick t _ (for.dues place below) e | inr past ↦ beyond past ]
  where
    n : ℕ
    n = state_count m

    for : IsScheduleOf m tick (snapshot_of tick s) (line_at s.states.lines.items) (detector_at s.conditions.detectors.items) (due_at s.agenda)
    for = stands.stands_for

    count : ℕ
    count = length (conditions m)

    out_of : n + count < place → tick < t
    out_of out = let none : due_at s.agenda place ≡ None = get_or_past s.agenda place None (omega (arith, out, stands.fits.places)) in absurd (cc)

    risen : place ≡ n + count → tick < t
    risen same = later_if tick t (rises (snapshot_of tick s)) (sym for.rising ∙ ap (due_at s.agenda) (sym same) ∙ e)

    last_place : n ≤ place → count ≤ (place - n) → tick < t
    last_place past over = elim (cases_lt (n + count) place) [ inl out ↦ out_of out | inr within ↦ risen (omega (arith, past, over, within)) ]

    inner : n ≤ place → (place - n) < count → tick < t
    inner past inside =
        let same : n + (place - n) ≡ place = omega (arith, past) in
        later_of _ tick t _ (for.changes (place - n) inside) (ap (due_at s.agenda) same ∙ e)

    beyond : n ≤ place → tick < t
    beyond past = elim (cases_lt (place - n) count) [ inl inside ↦ inner past inside | inr over ↦ last_place past over ]

-- the next event step is later
pub next_later : (m : Machine) (tick : ℕ) (s : Store) (next last : ℕ) → IsStoreAt m tick s → tick < last → next ≤ last →
    (next < last → (place : ℕ) × (due_at s.agenda place ≡ Some next)) → tick < next
next_later m tick s next last stands before at_most reached =
    elim (cases_lt next last) [ inl below ↦ dues_later m tick s stands (reached below).0 next (reached below).1 | inr past ↦ omega (arith, before, past) ]

-- the states by then
states_later : (m : Machine) (tick : ℕ) (s : Store) → IsStoreAt m tick s → (k : ℕ) → states_at s.states.lines.items (tick + k) ≡ states_after m (snapshot_of tick s) k
states_later m tick s stands k =
    ap (λ n. tabulate n (λ j. state_at (line_at s.states.lines.items j) (tick + k))) stands.fits.lines
    ∙ tabulate-same (pos 0) (state_count m) _ _
    (λ j h.
    line_state_at m tick (snapshot_of tick s) (line_at s.states.lines.items) (detector_at s.conditions.detectors.items) (due_at s.agenda) stands.stands_for j k h
    ∙ int_at-tabulate (state_count m) (λ i. int_at (snapshot_of tick s).states i +ℤ pos k *ℤ slope_at m i s.states.levels.items s.work.d) j h)

-- a store with other truths on arrival
abbrev pub with_arrived : Store → Vec Bool Global → PlaceList → Store
with_arrived s at_arrival flipped = record s { conditions = record s.conditions { at_arrival = at_arrival; flipped = flipped } }

pub world_then : (m : Machine) (tick ticks : ℕ) (s : Store) (at_arrival : Vec Bool Global) (flipped : PlaceList) → IsStoreAt m tick s → at_arrival.items ≡ arrived_then ticks s.conditions.at_arrival.items s.conditions.after_handlers.items →
    snapshot_of (tick + ticks) (with_arrived s at_arrival flipped) ≡ snapshot_after m (snapshot_of tick s) ticks
world_then m tick zero s at_arrival flipped stands is =
    let e : tick + 0 ≡ tick = omega arith in
    ap (λ t. snapshot_of t (with_arrived s at_arrival flipped)) e
    ∙ ap (λ (a : List Bool). record { states = states_at s.states.lines.items tick; levels = s.states.levels.items; discretes = s.work.d; at_arrival = a; after_handlers = s.conditions.after_handlers.items }) is
world_then m tick (suc ticks) s at_arrival flipped stands is =
    ap (λ (x : List ℤ). record { states = x; levels = s.states.levels.items; discretes = s.work.d; at_arrival = at_arrival.items; after_handlers = s.conditions.after_handlers.items }) (states_later m tick s stands (suc ticks))
    ∙ ap (λ (a : List Bool). record { states = states_after m (snapshot_of tick s) (suc ticks); levels = s.states.levels.items; discretes = s.work.d; at_arrival = a; after_handlers = s.conditions.after_handlers.items }) is

pub fits_then : (m : Machine) (s : Store) (at_arrival : Vec Bool Global) (flipped : PlaceList) → FitsMachine m s → length at_arrival.items ≡ length (conditions m) →
    flipped.count ≡ s.conditions.flipped.count → FitsMachine m (with_arrived s at_arrival flipped)
fits_then m s at_arrival flipped fits many count = record {
  own_conditions = arrived_anew m s.conditions at_arrival flipped fits.own_conditions many count;
  uses = fits.uses;
  lines = fits.lines;
  levels = fits.levels;
  slopes = fits.slopes;
  weights = fits.weights;
  places = fits.places;
  values = fits.values;
  before = fits.before;
  lists = fits.lists;
  log = fits.log;
  rows = fits.rows;
}

pub stands_then : (m : Machine) (tick ticks : ℕ) (s : Store) (at_arrival : Vec Bool Global) (flipped : PlaceList) → IsStoreAt m tick s → tick + ticks < m.last →
    ((place t : ℕ) → due_at s.agenda place ≡ Some t → tick + ticks + 1 ≤ t) → at_arrival.items ≡ arrived_then ticks s.conditions.at_arrival.items s.conditions.after_handlers.items →
    flipped.count ≡ s.conditions.flipped.count → AreAlikeBut flipped.places at_arrival.items s.conditions.after_handlers.items → IsStoreAt m (tick + ticks) (with_arrived s at_arrival flipped)
stands_then m tick ticks s at_arrival flipped stands before nothing is count alike = record {
  fits = fits_then m s at_arrival flipped stands.fits (ap length is ∙ many ticks) count;
  stands_for = subst (λ v. IsScheduleOf m (tick + ticks) v (line_at s.states.lines.items) (detector_at s.conditions.detectors.items) (due_at s.agenda)) (sym (world_then m tick ticks s at_arrival flipped stands is)) (still ticks before nothing);
  own_slopes = stands.own_slopes;
  own_weights = stands.own_weights;
  rising = risen ticks before nothing is;
  alike = alike;
}
  where
    many : (k : ℕ) → length (arrived_then k s.conditions.at_arrival.items s.conditions.after_handlers.items) ≡ length (conditions m)
    many zero = stands.fits.own_conditions.at_arrival
    many (suc k) = stands.fits.own_conditions.after_handlers

    w : ℕ → Snapshot
    w t = snapshot_of t (with_arrived s at_arrival flipped)

    -- after an event-free tick no condition has become true during the handlers
    none_risen : (k : ℕ) → tick + suc k < m.last → ((place t : ℕ) → due_at s.agenda place ≡ Some t → tick + suc k + 1 ≤ t) → s.rising ≡ false
    none_risen k before nothing =
        stands.rising
        ∙ none_rises m tick (snapshot_of tick s) (line_at s.states.lines.items) (detector_at s.conditions.detectors.items) (due_at s.agenda) (tick + suc k) stands.stands_for (omega arith)
        (λ t e. omega (arith, nothing _ t e))

    risen : (k : ℕ) → tick + k < m.last → ((place t : ℕ) → due_at s.agenda place ≡ Some t → tick + k + 1 ≤ t) → at_arrival.items ≡ arrived_then k s.conditions.at_arrival.items s.conditions.after_handlers.items →
        s.rising ≡ rises (w (tick + k))
    risen zero before nothing is = stands.rising ∙ ap (λ a. list_any (λ flag. flag) (firing_flags s.conditions.after_handlers.items a s.conditions.after_handlers.items)) (sym is)
    risen (suc k) before nothing is =
        none_risen k before nothing ∙ sym (ap (λ a. list_any (λ flag. flag) (firing_flags s.conditions.after_handlers.items a s.conditions.after_handlers.items)) is ∙ settled_twice s.conditions.after_handlers.items)

    still : (k : ℕ) → tick + k < m.last → ((place t : ℕ) → due_at s.agenda place ≡ Some t → tick + k + 1 ≤ t) →
        IsScheduleOf m (tick + k) (snapshot_after m (snapshot_of tick s) k) (line_at s.states.lines.items) (detector_at s.conditions.detectors.items) (due_at s.agenda)
    still zero before nothing =
        let e : tick ≡ tick + 0 = omega arith in
        subst (λ t. IsScheduleOf m t (snapshot_of tick s) (line_at s.states.lines.items) (detector_at s.conditions.detectors.items) (due_at s.agenda)) e stands.stands_for
    still (suc k) before nothing =
        stands_still m tick (snapshot_of tick s) (line_at s.states.lines.items) (detector_at s.conditions.detectors.items) (due_at s.agenda) (tick + suc k) (suc k) stands.stands_for (omega arith)
        (omega (arith, before, m.has_units.last_tick)) (λ place t e. omega (arith, nothing place t e)) (omega arith)

pub silent_then : (Rule : ℤ → ℤ → ℤ → ℤ → Type 0) (m : Machine) (tick ticks : ℕ) (s : Store) → IsStoreAt m tick s → tick + ticks < m.last →
    ((place t : ℕ) → due_at s.agenda place ≡ Some t → tick + ticks + 1 ≤ t) →
    AreEventFree Rule m tick (snapshot_of tick s) (quiet_worlds m (snapshot_of tick s) ticks) (tick + ticks) (snapshot_after m (snapshot_of tick s) ticks)
silent_then Rule m tick zero s stands before nothing = record { leads = tt; as_many = refl; reached = refl }
silent_then Rule m tick (suc k) s stands before nothing =
    let quiet = silence m tick (snapshot_of tick s) (line_at s.states.lines.items) (detector_at s.conditions.detectors.items) (due_at s.agenda) (tick + suc k) stands.stands_for (omega arith)
    (omega (arith, before, m.has_units.last_tick)) (λ place t e. omega (arith, nothing place t e)) in
    quiet_leads Rule m tick (snapshot_of tick s) (suc k) stands.stands_for.left quiet.0 (λ t positive below. quiet.1 t positive (omega (arith, below)))
