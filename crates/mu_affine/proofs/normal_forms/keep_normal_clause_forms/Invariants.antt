use Rattle.mu_affine.proofs.Common.{◌≡◌, drop, flat_clause, IsKept, keep_clauses, kept_so_far, map}
use Rattle.mu_affine.proofs.normal_forms.keep_normal_clause_forms.Given as goal

-- the clauses that are left after the forms so far are all
abbrev pub invariant-loop-clause : goal.invariant-loop-clause
invariant-loop-clause l = record {
  rest : keep_clauses l.sizes (map flat_clause (drop l.clause-index l.clauses)) (kept_so_far l.solved l.kept) ≡ keep_clauses l.sizes (map flat_clause l.clauses) (kept_so_far l.solved l.initial.kept);
  kept : IsKept l.sizes l.kept;
}
