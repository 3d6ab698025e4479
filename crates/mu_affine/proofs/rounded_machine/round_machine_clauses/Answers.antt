use Rattle.mu_affine.proofs.Common
use Common.{ℕ, ◌∙◌, ap, arith, clause_forms, clause_of, err_from_is_err_and, first_failed}
use Common.{flat_clause, FlatClause, form_checks, placed, sum_by, sym, take_all}
use Rattle.mu_affine.proofs.Branches.{clause_made}
use Rattle.mu_affine.proofs.Placing.{place_turn, place_within, placed_turn, none_turn, refused_turn}
use Rattle.mu_affine.proofs.Turns.{placed_map, sum_by_map}
use Rattle.mu_affine.proofs.rounded_machine.round_machine_clauses.Goals as goal

pub round_machine_branches-requires-clause-within : goal.round_machine_branches-requires-clause-within
round_machine_branches-requires-clause-within c =
    rw c.deref.ensures.value
    (omega (
      arith,
      c.requires.within,
      c.loop-clause.invariant.place,
      place_within (λ (b : FlatClause). clause_forms (flat_clause b)) c.args.clauses.now c.loop-clause.clause-index c.clause-item.result c.loop-clause-test.true c.clause-item.is,
      sum_by_map flat_clause clause_forms c.args.clauses.now,
    ))

pub returns-in_err-made-clause-err : goal.returns-in_err-made-clause-err
returns-in_err-made-clause-err c =
    let size = λ (b : FlatClause). clause_forms (flat_clause b) in
    let whole = sum_by_map flat_clause clause_forms c.args.clauses.now in
    let own = rw c.deref.ensures.value at c.in_err-made.ensures.err in
    let p = err_from_is_err_and c.from_residual.result c.from_residual.ensures.1 in
    rw (p.1, p.2)
    (refused_turn c.args.units.p c.args.units.f c.args.forms.now size c.args.first c.args.clauses.now c.loop-clause.clause-index c.clause-item.result c.loop-clause.next
    c.loop-clause-test.true c.clause-item.is c.loop-clause.invariant.place (omega (arith, c.requires.within, whole)) c.loop-clause.invariant.none _ _ whole own)

pub loop-clause-preserved : goal.loop-clause-preserved
loop-clause-preserved c =
    let size = λ (b : FlatClause). clause_forms (flat_clause b) in
    let make = λ (k : ℕ) (b : FlatClause). clause_of c.args.units.p c.args.units.f c.args.forms.now k (flat_clause b) in
    let whole = sum_by_map flat_clause clause_forms c.args.clauses.now in
    let x = c.clause-item.result in
    let i = c.loop-clause.clause-index in
    let branches = rw c.deref.ensures.value at c.in_ok-made.ensures.branches in
    let next = rw c.deref.ensures.value at c.in_ok-made.ensures.next in
    let none = rw c.deref.ensures.value at c.in_ok-made.ensures.ok in
    record {
      so_far = c.in_ok-push.ensures.items
          ∙ placed_turn size make c.args.first c.args.clauses.now i x c.loop-clause.all.items c.loop-clause.next _ c.loop-clause-test.true c.clause-item.is
          c.loop-clause.invariant.so_far c.loop-clause.invariant.place
          (clause_made c.args.units.p c.args.units.f c.args.forms.now c.loop-clause.next (flat_clause x) c.new.result (c.new.ensures ∙ branches));
      place = next ∙ place_turn size c.args.first c.args.clauses.now i x c.loop-clause.next c.loop-clause-test.true c.clause-item.is c.loop-clause.invariant.place;
      none = none_turn c.args.units.p c.args.units.f c.args.forms.now size c.args.first c.args.clauses.now i x c.loop-clause.next c.loop-clause-test.true c.clause-item.is
          c.loop-clause.invariant.place (omega (arith, c.requires.within, whole)) c.loop-clause.invariant.none none;
    }

pub returns-clause-clauses : goal.returns-clause-clauses
returns-clause-clauses c =
    let make = clause_of c.args.units.p c.args.units.f c.args.forms.now in
    c.loop-clause.invariant.so_far
    ∙ ap (placed (λ (b : FlatClause). clause_forms (flat_clause b)) (λ k (b : FlatClause). make k (flat_clause b)) c.args.first) (take_all c.loop-clause.clause-index c.args.clauses.now c.loop-clause-test.false)
    ∙ sym (placed_map flat_clause clause_forms make c.args.first c.args.clauses.now)

pub returns-clause-ok : goal.returns-clause-ok
returns-clause-ok c =
    let size = λ (b : FlatClause). clause_forms (flat_clause b) in
    ap (λ n. first_failed (form_checks c.args.units.p c.args.units.f c.args.forms.now c.args.first n))
    (sum_by_map flat_clause clause_forms c.args.clauses.now ∙ ap (sum_by size) (sym (take_all c.loop-clause.clause-index c.args.clauses.now c.loop-clause-test.false)))
    ∙ c.loop-clause.invariant.none
