-- Timing wheels of 64 slots: the slot of a due tick is the tick modulo 64.
use Rattle.std.specs.Prelude.{◌≡◌, ◌≢◌, ℕ, ◌+◌, ◌*◌, ◌/◌, ◌%◌, ◌<◌, ◌≤◌, List, Option, Some, length, slice_index}
use Rattle.std.specs.Int.{bit_at}
use Rattle.mu_num.specs.Limits.{wheel_places}
use Rattle.qss_sched.specs.Ranks.{due_at, AreTicks}

-- 1 if the place is at the slot, else 0
abbrev pub place_bit : List ℕ → ℕ → ℕ → ℕ
place_bit places slot place = bit_at (slice_index places (64 * (place / 64) + slot)) (place % 64)

-- one bit of one word is set to `value`, and all other bits are unchanged
pub record IsBitPut (old new : List ℕ) (index bit value : ℕ) : Type 0 where
  pub as_many : length new ≡ length old
  pub takes : bit_at (slice_index new index) bit ≡ value
  pub others : (i : ℕ) → i < 64 → i ≢ bit → bit_at (slice_index new index) i ≡ bit_at (slice_index old index) i
  pub apart : (k : ℕ) → k ≢ index → slice_index new k ≡ slice_index old k

-- all other pairs of a slot and a place are unchanged
abbrev pub AreOthersKept : List ℕ → List ℕ → ℕ → ℕ → Type 0
AreOthersKept old new slot place = (s p : ℕ) → s < 64 → p < wheel_places → (p ≡ place → s ≢ slot) → place_bit new s p ≡ place_bit old s p

-- for each slot, `groups` has the bits of the groups of 64 places that have a place at it
pub record IsGrouped (places groups : List ℕ) : Type 0 where
  pub many_places : length places ≡ wheel_places
  pub many_groups : length groups ≡ 64
  pub marked : (slot group : ℕ) → slot < 64 → group < 64 → slice_index places (64 * group + slot) ≢ 0 → bit_at (slice_index groups slot) group ≡ 1
  pub some : (slot group : ℕ) → slot < 64 → group < 64 → bit_at (slice_index groups slot) group ≡ 1 → slice_index places (64 * group + slot) ≢ 0

-- `slots` has the bits of the slots that have a group
pub record IsSlotted (groups : List ℕ) (slots : ℕ) : Type 0 where
  pub marked : (slot : ℕ) → slot < 64 → slice_index groups slot ≢ 0 → bit_at slots slot ≡ 1
  pub some : (slot : ℕ) → slot < 64 → bit_at slots slot ≡ 1 → slice_index groups slot ≢ 0

-- the first set bit at or after `from`, cyclically, is `later` slots after it
pub record IsFirstSlot (slots from later : ℕ) : Type 0 where
  pub within : later < 64
  pub marked : bit_at slots ((from + later) % 64) ≡ 1
  pub first : (fewer : ℕ) → fewer < later → bit_at slots ((from + fewer) % 64) ≡ 0

-- the lowest set bit of a word
pub record IsLowest (word bit : ℕ) : Type 0 where
  pub within : bit < 64
  pub marked : bit_at word bit ≡ 1
  pub none : (lower : ℕ) → lower < bit → bit_at word lower ≡ 0

-- the least place at a slot
pub record IsFirstPlace (places : List ℕ) (slot place : ℕ) : Type 0 where
  pub within : place < wheel_places
  pub there : place_bit places slot place ≡ 1
  pub first : (other : ℕ) → other < wheel_places → place_bit places slot other ≡ 1 → place ≤ other

-- no place is at any slot
abbrev pub HasNoPlace : List ℕ → Type 0
HasNoPlace places = (slot place : ℕ) → slot < 64 → place < wheel_places → place_bit places slot place ≡ 0

-- no place is at this slot
abbrev pub HasNoPlaceAt : List ℕ → ℕ → Type 0
HasNoPlaceAt places slot = (place : ℕ) → place < wheel_places → place_bit places slot place ≡ 0

-- the first nonempty slot at or after `from`, cyclically, is `later` slots after it, and `place` is
-- the least place there
pub record IsEarliest (places : List ℕ) (from later place : ℕ) : Type 0 where
  pub within : later < 64
  pub none : (fewer other : ℕ) → fewer < later → other < wheel_places → place_bit places ((from + fewer) % 64) other ≡ 0
  pub is_first : IsFirstPlace places ((from + later) % 64) place

-- the least group of 64 places that has a place at the slot
pub record IsFirstGroup (places : List ℕ) (slot group : ℕ) : Type 0 where
  pub within : group < 64
  pub some : slice_index places (64 * group + slot) ≢ 0
  pub first : (place : ℕ) → place < wheel_places → place_bit places slot place ≡ 1 → 64 * group ≤ place

-- the invariant of the three levels of bits
pub record AreMarks (places groups : List ℕ) (slots : ℕ) : Type 0 where
  pub grouped : IsGrouped places groups
  pub slotted : IsSlotted groups slots

-- the invariant of a wheel: each due tick is from `base` to `base + 63`, and its place is at
-- exactly the tick's slot
pub record IsWheel (due : List (Option ℕ)) (places : List ℕ) (base : ℕ) : Type 0 where
  pub small : AreTicks due
  pub near : (place tick : ℕ) → due_at due place ≡ Some tick → (base ≤ tick) × (tick < base + 64) × (place < wheel_places)
  pub held : (place tick : ℕ) → due_at due place ≡ Some tick → place_bit places (tick % 64) place ≡ 1
  pub owed : (slot place : ℕ) → slot < 64 → place < wheel_places → place_bit places slot place ≡ 1 → (tick : ℕ) × (due_at due place ≡ Some tick) × (tick % 64 ≡ slot)
