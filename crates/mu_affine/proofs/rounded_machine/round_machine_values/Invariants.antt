use Rattle.mu_affine.proofs.Common
use Common.{◌≡◌, All, checks, first_failed, FlatVar, is_value, IsWithin, map, None, rounded, Start}
use Common.{take}
use Rattle.mu_affine.proofs.rounded_machine.round_machine_values.Given as goal

-- the starts so far, of which none is past its limit
abbrev pub invariant-loop-place : goal.invariant-loop-place
invariant-loop-place l = record {
  so_far : l.values.items ≡ map (λ (v : FlatVar). rounded l.units.f v.start) (take l.place l.discretes);
  small : All (IsWithin 43) l.values.items;
  none : first_failed (checks (λ (v : FlatVar). is_value l.units.f v.start) Start l.first (take l.place l.discretes)) ≡ None;
}
