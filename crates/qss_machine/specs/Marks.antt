-- Lists of places, one list for each variable, and the steps that append to them.
use Rattle.std.specs.Prelude.{◌≡◌, ℕ, ◌<◌, Bool, ◌||◌, List, [], ◌∷◌, ◌++◌, length, All, slice_index_or, if◌then◌else◌}
use Rattle.qss_machine.specs.declared.machine_parts.SlopeRow.{SlopeRow}
use Rattle.qss_machine.specs.declared.machine_parts.Condition.{Condition}
use Rattle.qss_machine.specs.Readers.{places_from}

-- the place is appended to the list, unless it is the last element
pub record AppendsOnce (old new : List ℕ) (place : ℕ) : Type 0 where
  pub again : (xs : List ℕ) → old ≡ xs ++ place ∷ [] → new ≡ old
  pub first : All (λ q. q < place) old → new ≡ old ++ place ∷ []

-- `now` is `before` with the place appended to the lists of the variables in `seen`; all earlier
-- places are smaller
pub record IsMarked (before now : List (List ℕ)) (place : ℕ) (seen : ℕ → Bool) : Type 0 where
  pub as_many : length now ≡ length before
  pub below : (v : ℕ) → v < length before → All (λ q. q < place) (slice_index_or before v [])
  pub each : (v : ℕ) → v < length before → slice_index_or now v [] ≡ slice_index_or before v [] ++ (if seen v then place ∷ [] else [])

-- a step that adds the variables passing `test` to those seen at this place
pub record MarksBy (old new : List (List ℕ)) (place : ℕ) (test : ℕ → Bool) : Type 0 where
  pub as_many : length new ≡ length old
  pub marks : (before : List (List ℕ)) (seen : ℕ → Bool) → IsMarked before old place seen → IsMarked before new place (λ v. seen v || test v)

-- each variable's list has the places of the elements that read it
pub record Collects {X : Type 0} (reads : ℕ → X → Bool) (xs : List X) (count : ℕ) (lists : List (List ℕ)) : Type 0 where
  pub as_many : length lists ≡ count
  pub each : (v : ℕ) → v < count → slice_index_or lists v [] ≡ places_from (reads v) 0 xs

-- a right-hand side of variables below `count`
pub record IsRowOf (count : ℕ) (row : SlopeRow) : Type 0 where
  pub entries : All (λ entry. entry.var < count) row.entries
  pub products : All (λ product. (product.state < count) × (product.discrete < count)) row.products

-- a condition of variables below `count`
abbrev pub IsConditionOf : ℕ → Condition → Type 0
IsConditionOf count condition = All (λ entry. entry.var < count) condition.form.entries
