-- The numbers of the flat model of a syntax tree have positive denominators.
use Rattle.std.specs.Prelude.{◌≡◌, ◌<◌, Ok}
use Rattle.mu_tree.specs.FlatExpression.{FlatModelTree}
use Rattle.mu_tree.specs.ModelTree.{ModelTree}
use Rattle.mu_names.specs.Roles.{scope_of, settings_in}
use Rattle.mu_unroll.specs.Unrolling.{unrolled}
use Rattle.mu_meaning.specs.Meaning.{HasProperNumbers}

-- every number of the flat model to which a syntax tree unrolls, and its stop time, have positive
-- denominators
abbrev pub FlatModelsAreProper : Type 0
FlatModelsAreProper = (m : ModelTree) (f : FlatModelTree) → unrolled m (scope_of m).known ≡ Ok f →
    HasProperNumbers f × (0 < (settings_in m).stop.den)
