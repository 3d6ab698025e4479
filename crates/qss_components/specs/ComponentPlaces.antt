-- Lists whose elements satisfy a predicate of their index.
use Rattle.std.specs.Prelude.{ℕ, ◌<◌, List, length, slice_index_or}

-- each element satisfies the predicate of its index
abbrev pub EachAt : {X : Type 0} → (ℕ → X → Type 0) → List X → Type 0
EachAt {X} P xs = (place : ℕ) (d : X) → place < length xs → P place (slice_index_or xs place d)
