use Rattle.std.proofs.Common.{◌∙◌, inl, inr, ap, refl}
use Rattle.mu_tree.specs.ModelTree.{statement}
use Rattle.mu_tree.specs.Nests.{statement_item}
use Rattle.mu_tree.proofs.Nesting.{statement-Set, statement-Reinit}
use Rattle.mu_tree.proofs.nest.StatementNest.nested.Goals as goal

pub returns-in-Set : goal.returns-in-Set
returns-in-Set c =
    elim c.in-Set.is [
      | inl h ↦ (refl, (_, ap (λ x. statement_item (statement x)) h.2 ∙ ap statement_item (statement-Set _ _)))
      | inr h ↦ (refl, (_, ap (λ x. statement_item (statement x)) h.2 ∙ ap statement_item (statement-Reinit _ _)))
    ]
