use Rattle.mu_affine.proofs.Common
use Common.{◌≡◌, action_of, first_failed, flat_action, FlatStatement, form_checks, None, placed}
use Common.{take}
use Rattle.mu_affine.proofs.rounded_machine.round_machine_actions.Given as goal

-- the statements so far, of which none has a form past a limit
abbrev pub invariant-loop-place : goal.invariant-loop-place
invariant-loop-place l = record {
  so_far : l.actions.items ≡ placed (λ (one : FlatStatement). 1) (λ k (one : FlatStatement). action_of l.units.p l.units.f l.forms k (flat_action one)) l.first (take l.place l.body);
  none : first_failed (form_checks l.units.p l.units.f l.forms l.first l.place) ≡ None;
}
