use Rattle.mu_affine.proofs.Common
use Common.{◌+◌, ◌≡◌, clause_forms, clause_of, first_failed, flat_clause, FlatClause, form_checks}
use Common.{None, placed, sum_by, take}
use Rattle.mu_affine.proofs.rounded_machine.round_machine_clauses.Given as goal

-- the clauses so far, of which none has a form past a limit
abbrev pub invariant-loop-clause : goal.invariant-loop-clause
invariant-loop-clause l = record {
  so_far : l.all.items ≡ placed (λ (c : FlatClause). clause_forms (flat_clause c)) (λ k (c : FlatClause). clause_of l.units.p l.units.f l.forms k (flat_clause c)) l.first (take l.clause-index l.clauses);
  place : l.next ≡ l.first + sum_by (λ (c : FlatClause). clause_forms (flat_clause c)) (take l.clause-index l.clauses);
  none : first_failed (form_checks l.units.p l.units.f l.forms l.first (sum_by (λ (c : FlatClause). clause_forms (flat_clause c)) (take l.clause-index l.clauses))) ≡ None;
}
