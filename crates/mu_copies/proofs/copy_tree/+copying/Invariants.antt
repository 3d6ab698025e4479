use Rattle.std.proofs.Common.{◌≡◌, map, take}
use Rattle.mu_tree.specs.Expression.{signed, scaled}
use Rattle.mu_copies.proofs.copy_tree.+copying.Given as goal

-- the copies so far are equal to their originals
abbrev pub invariant-copy_factors-loop-factor : goal.invariant-copy_factors-loop-factor
invariant-copy_factors-loop-factor l = map scaled l.all.items ≡ map scaled (take l.factor-index l.factors)

abbrev pub invariant-copy_terms-loop-term : goal.invariant-copy_terms-loop-term
invariant-copy_terms-loop-term l = map signed l.all.items ≡ map signed (take l.term-index l.terms)
