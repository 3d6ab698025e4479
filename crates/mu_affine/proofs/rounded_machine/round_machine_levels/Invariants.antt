use Rattle.mu_affine.proofs.Common
use Common.{◌≡◌, All, checks, first_failed, FlatVar, is_start, IsWithin, map, None, Start}
use Common.{start_level, take}
use Rattle.mu_affine.proofs.rounded_machine.round_machine_levels.Given as goal

-- the levels so far, and no start so far is past a limit
abbrev pub invariant-loop-place : goal.invariant-loop-place
invariant-loop-place l = record {
  so_far : l.levels.items ≡ map (λ (v : FlatVar). start_level l.units.p l.units.k l.units.f v.start) (take l.place l.states);
  small : All (IsWithin 43) l.levels.items;
  none : first_failed (checks (λ (v : FlatVar). is_start l.units.p l.units.k l.units.f v.start) Start 0 (take l.place l.states)) ≡ None;
}
