-- Dependency graphs.
use Rattle.std.specs.Prelude.{ℕ, ◌≡◌, ◌<◌, List, length, Contains, Some, slice_get}
use Rattle.std.specs.declared.vec.Vec.{Vec}
use Rattle.std.specs.declared.alloc.Global.{Global}

-- for each number, the numbers that it reads
abbrev pub Graph : Type 0
Graph = List (Vec ℕ Global)

-- v reads w
pub record HasEdge (g : Graph) (v w : ℕ) : Type 0 where
  pub row : Vec ℕ Global
  pub at : slice_get g v ≡ Some row
  pub named : Contains row.items w

-- every number that is read is a number of the graph
abbrev pub IsClosed : Graph → Type 0
IsClosed g = (v w : ℕ) → HasEdge g v w → w < length g
