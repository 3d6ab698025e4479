use Rattle.mu_affine.proofs.Common
use Common.{◌≡◌, drop, flat_model, IsSolved, length, nothing_taken, solve_all, solved_so_far}
use Rattle.mu_affine.proofs.normal_forms.solve_algebraic_variables.Given as goal

-- what is left of the order after the forms so far is all
abbrev pub invariant-loop-var : goal.invariant-loop-var
invariant-loop-var l = record {
  rest : solve_all (flat_model l.m) (drop l.var-index l.order) (solved_so_far l.solved) ≡ solve_all (flat_model l.m) l.order nothing_taken;
  solved : IsSolved l.sizes (length l.firsts) l.solved;
}
