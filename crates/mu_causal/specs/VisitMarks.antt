-- Marks of the numbers of a dependency graph during the topological sort.
use Rattle.std.specs.Prelude.{ℕ, Bool, true, false, ◌≡◌, ◌<◌, ◌≤◌, List, [], length, Contains, Some, slice_get, slice_index_or}
use Rattle.std.specs.declared.vec.Vec.{Vec}
use Rattle.std.specs.declared.alloc.Global.{Global}
use Rattle.mu_causal.specs.Causality.{Follow}
use Rattle.mu_causal.specs.Graphs.{Graph, HasEdge}

-- the number is marked
abbrev pub IsMarked : List Bool → ℕ → Type 0
IsMarked marks v = slice_index_or marks v false ≡ true

-- the number is not marked
abbrev pub IsUnmarked : List Bool → ℕ → Type 0
IsUnmarked marks v = slice_index_or marks v false ≡ false

-- v reads an unmarked number
pub record IsBlocked (g : Graph) (marks : List Bool) (v : ℕ) : Type 0 where
  pub by : ℕ
  pub names : HasEdge g v by
  pub unmarked : IsUnmarked marks by

-- in each row, the first `passed` numbers are marked
pub record ArePassed (g : Graph) (marks : List Bool) (passed : List ℕ) : Type 0 where
  pub same_length : length passed ≡ length g
  pub within : (v : ℕ) (row : Vec ℕ Global) → slice_get g v ≡ Some row → slice_index_or passed v 0 ≤ length row.items
  pub marked : (v k : ℕ) (row : Vec ℕ Global) → slice_get g v ≡ Some row → k < slice_index_or passed v 0 → IsMarked marks (slice_index_or row.items k 0)

-- the entry of each number is at most the least number that reads it
pub record AreFirstReaders (g : Graph) (readers : List ℕ) : Type 0 where
  pub same_length : length readers ≡ length g
  pub first : (v w : ℕ) → HasEdge g v w → slice_index_or readers w 0 ≤ v

-- v is unmarked and reads only marked numbers
pub record IsUnblocked (g : Graph) (marks : List Bool) (v : ℕ) : Type 0 where
  pub there : v < length g
  pub unmarked : IsUnmarked marks v
  pub names_marked : (w : ℕ) → HasEdge g v w → IsMarked marks w

-- v is a variable: a number of the graph that is not known from the start
pub record IsOpen (g : Graph) (known : List Bool) (v : ℕ) : Type 0 where
  pub there : v < length g
  pub unknown : IsUnmarked known v

-- v reads w, and both are variables
pub record Needs (g : Graph) (known : List Bool) (v w : ℕ) : Type 0 where
  pub names : HasEdge g v w
  pub from_unknown : IsUnmarked known v
  pub to_unknown : IsUnmarked known w

-- the marked numbers are the known and the listed ones
pub record AreMarks (g : Graph) (known marks : List Bool) (listed : List ℕ) : Type 0 where
  pub same_length : length marks ≡ length g
  pub kept : (v : ℕ) → IsMarked known v → IsMarked marks v
  pub listed_of : (v : ℕ) → IsMarked marks v → IsUnmarked known v → Contains listed v
  pub marked_of : (v : ℕ) → Contains listed v → IsMarked marks v

-- the listed numbers are ordered as variables and marked, and every unmarked number is blocked
pub record IsListing (g : Graph) (known marks : List Bool) (listed : List ℕ) : Type 0 where
  pub are_marks : AreMarks g known marks listed
  pub follow : Follow (IsOpen g known) (Needs g known) [] listed
  pub blocked : (v : ℕ) → v < length g → IsUnmarked marks v → IsBlocked g marks v
