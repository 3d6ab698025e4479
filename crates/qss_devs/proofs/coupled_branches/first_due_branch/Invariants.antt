use Rattle.qss_devs.proofs.Common.{ℕ, ◌+◌, ◌<◌, ◌≡◌, due_flags, false, flag_at}
use Rattle.qss_devs.proofs.coupled_branches.first_due_branch.Given as goal

-- none so far
abbrev pub invariant-loop-branch : goal.invariant-loop-branch
invariant-loop-branch l = (k : ℕ) → k < l.branch → flag_at (due_flags l.truths) (l.first + k) ≡ false
