use Rattle.std.proofs.Common.{◌∙◌, inl, inr, ap, refl}
use Rattle.mu_tree.specs.ModelTree.{equation}
use Rattle.mu_tree.specs.Nests.{equation_item}
use Rattle.mu_tree.proofs.Nesting.{equation-Der, equation-Plain}
use Rattle.mu_tree.proofs.nest.EquationNest.nested.Goals as goal

pub returns-in-Der : goal.returns-in-Der
returns-in-Der c =
    elim c.in-Der.is [
      | inl h ↦ (refl, (_, ap (λ x. equation_item (equation x)) h.2 ∙ ap equation_item (equation-Der _ _)))
      | inr h ↦ (refl, (_, ap (λ x. equation_item (equation x)) h.2 ∙ ap equation_item (equation-Plain _ _)))
    ]
