use Rattle.mu_affine.proofs.Common
use Common.{◌+◌, ◌≡◌, branch_forms, branch_of, first_failed, flat_branch, FlatBranch, form_checks}
use Common.{None, placed, sum_by, take}
use Rattle.mu_affine.proofs.rounded_machine.round_machine_branches.Given as goal

-- the branches so far, of which none has a form past a limit
abbrev pub invariant-loop-branch : goal.invariant-loop-branch
invariant-loop-branch l = record {
  so_far : l.items.items ≡ placed (λ (b : FlatBranch). branch_forms (flat_branch b)) (λ k (b : FlatBranch). branch_of l.units.p l.units.f l.forms k (flat_branch b)) l.first (take l.branch-index l.branches);
  place : l.next ≡ l.first + sum_by (λ (b : FlatBranch). branch_forms (flat_branch b)) (take l.branch-index l.branches);
  none : first_failed (form_checks l.units.p l.units.f l.forms l.first (sum_by (λ (b : FlatBranch). branch_forms (flat_branch b)) (take l.branch-index l.branches))) ≡ None;
}
