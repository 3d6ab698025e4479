-- Defines the levels that states take at a tick, and their rows.
use Rattle.std.specs.Prelude.{◌≡◌, ℕ, ◌+◌, ◌≤◌, ◌++◌, List, [], ◌∷◌, ℤ, pos, Option, None, Vec}
use Rattle.std.specs.Prelude.{vec_len, vec_capacity, if◌then◌else◌, position}
use Rattle.std.specs.declared.alloc.Global.{Global}
use Rattle.std.specs.List.{flat_map}
use Rattle.std.specs.Option.{option_or}
use Rattle.std.specs.Ordering.{int_eq}
use Rattle.mu_num.specs.Sizes.{exceeds}
use Rattle.qss_machine.specs.declared.machine_parts.Row.{Row}
use Rattle.qss_machine.specs.declared.machine_parts.RowKind.TheVariants as kind
use Rattle.qss_machine.specs.declared.compiled_machine.Machine.{Machine}
use Rattle.mu_num.specs.IndexedSums.{int_at, first_exceeding}
use Rattle.qss_machine.specs.Runs.{level_rows}
use Rattle.qss_machine.specs.Ticks.{IsNextLevel, AreNextLevels}
use Rattle.qss_quant.specs.declared.quantizer.Rule.{Rule}
use Rattle.mu_num.specs.ListedPlaces.{DiffersOnlyAt}
use Rattle.qss_events.specs.AllowedLevels.{IsAllowedLevel}
use Rattle.mu_num.specs.Writes.{IsFirstOf, IsWritten}
use Rattle.mu_num.specs.Limits.{bits_of_level}
use Rattle.qss_machine.specs.Ticks.{exceeds_row_limits}
use Rattle.qss_states.specs.EventContexts.{AreMovedTo}
use Rattle.qss_states.specs.declared.event_contexts.HandlerArrival.{HandlerArrival}
use Rattle.qss_states.specs.declared.states.States.{States}

-- the row of a state that takes a level, if the level changes
abbrev pub row_of_level : ℕ → ℕ → ℤ → ℤ → ℤ → List Row
row_of_level tick j state old new = if int_eq old new then [] else record { tick = tick; kind = kind.Level; var = j; level = new; state = state } ∷ []

-- the row of one of these states
abbrev pub taken_row : ℕ → List ℤ → List ℤ → List ℤ → ℕ → List Row
taken_row tick states old new j = row_of_level tick j (int_at states j) (int_at old j) (int_at new j)

-- the level is the new one, and the row of its change is appended, if it changes
pub record HasTaken (tick j : ℕ) (state old new level : ℤ) (before rows : List Row) : Type 0 where
  pub level_is : level ≡ new
  pub rows_are : rows ≡ before ++ row_of_level tick j state old new

-- at most one row more, and the same capacity
pub record HaveOneMore (old new : Vec Row Global) : Type 0 where
  pub few : vec_len new ≤ vec_len old + 1
  pub room : vec_capacity new ≡ vec_capacity old

-- new levels under a rule at these states, and the first one that exceeds its limit, if any; if
-- none does, they are set, with their rows appended
pub record AreRequantized (m : Machine) (name : Option Rule) (tick : ℕ) (states : List ℤ) (places : List ℕ) (old kept new : List ℤ) (before rows : List Row) (first : Option ℕ) : Type 0 where
  pub allowed : IsWritten (pos 0) (λ j level. IsNextLevel (IsAllowedLevel name) m j (int_at states j) (int_at old j) level) places old new
  pub found : IsFirstOf (λ j. exceeds bits_of_level (int_at new j)) places first
  pub off : DiffersOnlyAt places old kept
  pub levels : first ≡ None → kept ≡ new
  pub own_rows : first ≡ None → rows ≡ before ++ flat_map (taken_row tick states old new) places

-- new levels that differ only for the moved states: allowed, and set if nothing overflows
pub record AreRequantizedAt (m : Machine) (name : Option Rule) (moved : List ℕ) (x old kept new : List ℤ) (later over : Option ℕ) : Type 0 where
  pub over_is : over ≡ later
  pub allowed : (states : List ℤ) → AreMovedTo m moved x old states → AreNextLevels (IsAllowedLevel name) m states old new
  pub others : DiffersOnlyAt moved old new
  pub levels : over ≡ None → kept ≡ new

-- the moved states took new levels after handlers, unless a level or a row exceeds its limits: the
-- first level that does is found, or else the first row
abbrev pub HaveNewLevels : HandlerArrival → Option Rule → States → States → Option ℕ → Type 0
HaveNewLevels at name old new over =
    (levels : List ℤ) × AreRequantizedAt at.machine.now name at.moved.now at.work.now.x
    old.levels.items new.levels.items levels
    (option_or (first_exceeding bits_of_level levels)
    (position (exceeds_row_limits at.machine.now levels at.work.now.d) at.machine.now.rows))
    over

-- the rows of a tick are those of its handlers, and then one for each level that changed
abbrev pub AreRowsAfter : HandlerArrival → States → States → List Row → Type 0
AreRowsAfter at old new rows =
    (states : List ℤ) →
    AreMovedTo at.machine.now at.moved.now at.work.now.x old.levels.items states →
    rows ≡ at.work.now.log ++ level_rows at.tick old.levels.items new.levels.items states
