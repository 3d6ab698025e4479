use Rattle.mu_affine.proofs.Common.{◌≡◌, flat_variable, FlatVar, map, rounded_discrete, take}
use Rattle.mu_affine.proofs.rounded_machine.round_machine_discretes.Given as goal

-- the discrete variables so far
abbrev pub invariant-loop-place : goal.invariant-loop-place
invariant-loop-place l = l.all.items ≡ map (λ (v : FlatVar). rounded_discrete l.level_bits (flat_variable v)) (take l.place l.discretes)
