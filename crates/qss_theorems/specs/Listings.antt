-- The flat model of a source equals the recursive listing of its tree.
use Rattle.std.specs.Prelude.{◌≡◌, ℕ, List, Ok}
use Rattle.mu_names.specs.Roles.{scope_of}
use Rattle.mu_tree.specs.FlatExpression.{FlatModelTree}
use Rattle.mu_tree.specs.ModelTree.{ModelTree}
use Rattle.mu_unroll.specs.Listing.{listed}
use Rattle.qss_compile.specs.Compilation.{SourceParsesAs, FlatSource, FlatCompilesTo, IsFlatOf}
use Rattle.qss_compile.specs.Compilation.{TreeCompilesTo, CompilesTo}
use Rattle.qss_compile.specs.Phases.{UnrollsTo}
use Rattle.qss_machine.specs.declared.compiled_machine.Machine.{Machine}

-- the flat model is the list of the model's start values, equations and clauses, by recursion on
-- its tree
abbrev pub IsListingOf : ModelTree → FlatModelTree → Type 0
IsListingOf tree flat = listed tree (scope_of tree).known ≡ Ok flat

-- the model denotes the machine by a flat model that is its listing
abbrev pub MeansByListing : ModelTree → Machine → Type 0
MeansByListing tree m = (s : FlatSource) × IsFlatOf tree s × IsListingOf tree s.flat × FlatCompilesTo s m

-- The flat model that unrolling computes, with its counters, equals the listing.
pub record ListingsAreRight : Type 0 where
  pub unrolled : (tree : ModelTree) (flat : FlatModelTree) → UnrollsTo tree flat → IsListingOf tree flat
  pub flat : (tree : ModelTree) (s : FlatSource) → IsFlatOf tree s → IsListingOf tree s.flat
  pub model : (tree : ModelTree) (m : Machine) → TreeCompilesTo tree m → MeansByListing tree m
  -- a source denotes its machine by the listing of its model
  pub source : (bytes : List ℕ) (m : Machine) → CompilesTo bytes m → (tree : ModelTree) × SourceParsesAs bytes tree × MeansByListing tree m
