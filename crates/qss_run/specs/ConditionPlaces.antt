-- Defines the detectors and the branches of conditions, by index in source order.
use Rattle.std.specs.Prelude.{◌≡◌, ℕ, ◌+◌, ◌<◌, ◌≤◌, Bool, List, length, ℤ, Option}
use Rattle.std.specs.Prelude.{slice_index_or}
use Rattle.std.specs.List.{list_any}
use Rattle.qss_machine.specs.declared.compiled_machine.Machine.{Machine}
use Rattle.qss_machine.specs.Machines.{state_count, value_of, speed_of, truth}
use Rattle.qss_machine.specs.Firing.{first_place}
use Rattle.qss_machine.specs.Handlers.{conditions, firing_flags}
use Rattle.qss_hand.specs.Works.{clause_at, branch_at}
use Rattle.qss_cross.specs.Crossing.{DetectorView, value_at}
use Rattle.qss_sched.specs.Ranks.{due_at}
use Rattle.qss_run.specs.declared.run_conditions.BranchPlace.{BranchPlace}
use Rattle.qss_run.specs.declared.run_conditions.Conditions.{Conditions}
use Rattle.mu_num.specs.ListedPlaces.{AreRisingBelow}
use Rattle.qss_events.specs.Schedules.{condition_at, IsChange, no_detector}
use Rattle.qss_run.specs.DueLists.{AreAlikeBut}

-- the detector of a condition
abbrev pub detector_at : List DetectorView → ℕ → DetectorView
detector_at detectors place = slice_index_or detectors place no_detector

-- a branch of a clause whose condition is the one at an index in source order
pub record IsBranchOf (m : Machine) (branch : BranchPlace) (place : ℕ) : Type 0 where
  pub clause_known : branch.clause < length m.clauses
  pub branch_known : branch.branch < length (clause_at m branch.clause).branches
  pub own : (branch_at m branch.clause branch.branch).condition ≡ condition_at m place
  pub own_place : first_place m.clauses branch.clause + branch.branch ≡ place

-- the branches of the conditions of a machine in source order
pub record AreBranches (m : Machine) (branches : List BranchPlace) : Type 0 where
  pub as_many : length branches ≡ length (conditions m)
  pub each : (place : ℕ) → place < length branches → IsBranchOf m (slice_index_or branches place (record { clause = 0; branch = 0 })) place

-- the branches of the conditions of a machine, and increasing indices of some of them
pub record AreBranchesAt (m : Machine) (branches : List BranchPlace) (places : List ℕ) : Type 0 where
  pub of : AreBranches m branches
  pub numbers : AreRisingBelow (length branches) places

-- the conditions of a machine in source order: for each its branch, its detector, and its truths on
-- arrival and after the handlers
pub record AreConditionsOf (m : Machine) (all : Conditions) : Type 0 where
  pub branches : AreBranches m all.branches.items
  pub detectors : length all.detectors.items ≡ length (conditions m)
  pub at_arrival : length all.at_arrival.items ≡ length (conditions m)
  pub after_handlers : length all.after_handlers.items ≡ length (conditions m)
  pub flipped : all.flipped.count ≡ length (conditions m)

-- only conditions in `flipped` may differ between arrival and the end of the handlers
abbrev pub KnowsApart : Conditions → Type 0
KnowsApart all = AreAlikeBut all.flipped.places all.at_arrival.items all.after_handlers.items

-- whether some condition became true during the handlers
abbrev pub has_risen : Conditions → Bool
has_risen all = list_any (λ flag. flag) (firing_flags all.after_handlers.items all.at_arrival.items all.after_handlers.items)

-- one truth on arrival and one after the handlers for each condition; they differ only at conditions
-- in `flipped`
pub record ListsFlipped (all : Conditions) : Type 0 where
  pub as_many : length all.at_arrival.items ≡ length all.after_handlers.items
  pub count : all.flipped.count ≡ length all.after_handlers.items
  pub alike : KnowsApart all

-- an event queue has an index for each state, and then one for each condition
abbrev pub HasPlaces : Machine → List (Option ℕ) → Type 0
HasPlaces m due = state_count m + length (conditions m) ≤ length due

-- the detector of a condition has this value at a tick and this speed, and this is the tick of its
-- next change
pub record IsDetectorAt (m : Machine) (tick : ℕ) (x d slopes : List ℤ) (place : ℕ) (detector : DetectorView) (due : Option ℕ) : Type 0 where
  pub not_later : detector.tick ≤ tick
  pub here : value_at detector tick ≡ value_of m (condition_at m place).form x d d tick
  pub own_speed : detector.speed ≡ speed_of m (condition_at m place).form slopes
  pub own_rel : detector.rel ≡ (condition_at m place).rel
  pub is_change : IsChange tick (truth m (condition_at m place) x d tick) detector due

-- the same for each condition of a machine
abbrev pub AreDetectorsAt : Machine → ℕ → List ℤ → List ℤ → List ℤ → List DetectorView → List (Option ℕ) → Type 0
AreDetectorsAt m tick x d slopes detectors due =
    (place : ℕ) → place < length (conditions m) → IsDetectorAt m tick x d slopes place (detector_at detectors place) (due_at due (state_count m + place))
