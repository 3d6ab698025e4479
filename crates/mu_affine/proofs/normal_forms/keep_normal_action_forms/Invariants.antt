use Rattle.mu_affine.proofs.Common.{◌≡◌, drop, flat_action, IsKept, keep_actions, kept_so_far, map}
use Rattle.mu_affine.proofs.normal_forms.keep_normal_action_forms.Given as goal

-- the statements that are left after the forms so far are all
abbrev pub invariant-loop-action : goal.invariant-loop-action
invariant-loop-action l = record {
  rest : keep_actions l.fn.sizes (map flat_action (drop l.action-index l.actions)) (kept_so_far l.solved l.kept) ≡ keep_actions l.fn.sizes (map flat_action l.actions) (kept_so_far l.solved l.initial.kept);
  kept : IsKept l.fn.sizes l.kept;
}
