-- Event queues that join the near and the far due ticks of all places.
use Rattle.std.specs.Prelude.{◌≡◌, ◌≢◌, ℕ, ◌+◌, ◌<◌, ◌≤◌, ◌⊎◌, true, false, ◌==◌, All, List, [], ◌∷◌, Option, Some, None, MatchOption, length, slice_set}
use Rattle.mu_num.specs.ListedPlaces.{is_listed, AreRisingBelow}
use Rattle.qss_sched.specs.Ranks.{due_at, IsLeast, HasNone}

-- the near due tick if there is one, else the far one
abbrev pub nearer : Option ℕ → Option ℕ → Option ℕ
nearer (Some tick) far = Some tick
nearer None far = far

-- the due tick of each place, near or far
abbrev pub joined : List (Option ℕ) → List (Option ℕ) → List (Option ℕ)
joined [] far = []
joined (n ∷ near) [] = []
joined (n ∷ near) (f ∷ far) = nearer n f ∷ joined near far

-- the least due tick and its least place, or None if no place has a due tick
abbrev pub IsFirst : List (Option ℕ) → Option (ℕ × ℕ) → Type 0
IsFirst due first = MatchOption first (HasNone due) (λ f. IsLeast due f.0 f.1)

-- the near and the far list have the same length, and no place is due in both
pub record AreDisjointTicks (near far : List (Option ℕ)) : Type 0 where
  pub as_many : length near ≡ length far
  pub apart : (place tick : ℕ) → due_at near place ≡ Some tick → due_at far place ≡ None

-- a due tick at a place is before another one, by tick and then by place, or there is no other
abbrev pub IsBefore : ℕ → ℕ → Option (ℕ × ℕ) → Type 0
IsBefore tick place None = Unit {0}
IsBefore tick place (Some f) = (tick < f.0) ⊎ ((tick ≡ f.0) × (place < f.1))

-- no place below `places` is due at the tick
abbrev pub HasNoneAt : List (Option ℕ) → ℕ → ℕ → Type 0
HasNoneAt due tick places = (place : ℕ) → place < places → due_at due place ≢ Some tick

-- the least place due at the tick if it is below `places`, with nothing due before the tick; None
-- if no such place is due at it
abbrev pub IsFirstAt : List (Option ℕ) → ℕ → ℕ → Option ℕ → Type 0
IsFirstAt due tick places first = MatchOption first (HasNoneAt due tick places) (λ place. (place < places) × IsLeast due tick place)

-- the place is below `places` and the least that is due at the tick, with nothing due before; only
-- its due tick is removed
pub record IsTaken (tick places : ℕ) (old new : List (Option ℕ)) (place : ℕ) : Type 0 where
  pub within : place < places
  pub least : IsLeast old tick place
  pub without : new ≡ slice_set old place None

-- a place due at the tick is removed, or no place below `places` is due at it and nothing changes
abbrev pub IsTakenAt : ℕ → ℕ → List (Option ℕ) → List (Option ℕ) → Option ℕ → Type 0
IsTakenAt tick places old new taken = MatchOption taken (HasNoneAt old tick places × (new ≡ old)) (IsTaken tick places old new)

-- the due ticks of the listed places, counted from `first`, are removed, and all others are
-- unchanged
pub record IsWithout (first : ℕ) (taken : List ℕ) (old new : List (Option ℕ)) : Type 0 where
  pub as_many : length new ≡ length old
  pub before : (place : ℕ) → place < first → due_at new place ≡ due_at old place
  pub none : (j : ℕ) → is_listed taken j ≡ true → due_at new (first + j) ≡ None
  pub others : (j : ℕ) → is_listed taken j ≡ false → due_at new (first + j) ≡ due_at old (first + j)

-- exactly the places in `first..first + count` that are due at the tick are removed, in increasing
-- order
pub record AreTaken (first count tick : ℕ) (old new : List (Option ℕ)) (taken : List ℕ) : Type 0 where
  pub numbers : AreRisingBelow count taken
  pub own : (j : ℕ) → is_listed taken j ≡ true → due_at old (first + j) ≡ Some tick
  pub all : (j : ℕ) → j < count → due_at old (first + j) ≡ Some tick → is_listed taken j ≡ true
  pub out : IsWithout first taken old new

-- some places in `first..first + n` are removed, all due at the tick; the remaining due places are
-- later or at least `first + count`
pub record ArePartTaken (first n count tick : ℕ) (old new : List (Option ℕ)) (found : List ℕ) : Type 0 where
  pub numbers : AreRisingBelow n found
  pub own : (j : ℕ) → is_listed found j ≡ true → due_at old (first + j) ≡ Some tick
  pub out : IsWithout first found old new
  pub ahead : (place : ℕ) → due_at new place ≡ Some tick → first + count ≤ place
  pub beyond : (place : ℕ) → due_at new place ≡ Some tick → All (λ j. first + j < place) found
