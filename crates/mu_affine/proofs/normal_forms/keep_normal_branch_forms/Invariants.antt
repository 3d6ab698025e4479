use Rattle.mu_affine.proofs.Common.{◌≡◌, drop, flat_branch, IsKept, keep_branches, kept_so_far, map}
use Rattle.mu_affine.proofs.normal_forms.keep_normal_branch_forms.Given as goal

-- the branches that are left after the forms so far are all
abbrev pub invariant-loop-branch : goal.invariant-loop-branch
invariant-loop-branch l = record {
  rest : keep_branches l.sizes (map flat_branch (drop l.branch-index l.branches)) (kept_so_far l.solved l.kept) ≡ keep_branches l.sizes (map flat_branch l.branches) (kept_so_far l.solved l.initial.kept);
  kept : IsKept l.sizes l.kept;
}
