use Rattle.std.proofs.Common.{◌∙◌, ap, refl}
use Rattle.mu_tree.specs.ModelTree.{clause}
use Rattle.mu_tree.specs.Nests.{clause_item}
use Rattle.mu_tree.proofs.Nesting.{clause-When}
use Rattle.mu_tree.proofs.nest.ClauseNest.nested.Goals as goal

pub returns-in-When : goal.returns-in-When
returns-in-When c =
    (refl, (_, ap (λ x. clause_item (clause x)) c.in-When.is ∙ ap clause_item (clause-When _)))
