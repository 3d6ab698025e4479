use Rattle.std.proofs.Common.{◌≡◌, map, take}
use Rattle.mu_tree.specs.FlatExpression.{flat_signed, flat_scaled}
use Rattle.mu_copies.proofs.copy_flat.+copying_flat.Given as goal

-- the copies so far
abbrev pub invariant-duplicate_terms-loop-term : goal.invariant-duplicate_terms-loop-term
invariant-duplicate_terms-loop-term l = map flat_signed l.all.items ≡ map flat_signed (take l.term-index l.terms)

-- the copies so far
abbrev pub invariant-duplicate_factors-loop-factor : goal.invariant-duplicate_factors-loop-factor
invariant-duplicate_factors-loop-factor l = map flat_scaled l.all.items ≡ map flat_scaled (take l.factor-index l.factors)
