use Rattle.qss_machine.proofs.Common
use Common.{ℕ, ◌++◌, ◌∙◌, ◌≡◌, All, All-get_or, ap, arith, BranchInfo, ClauseInfo, Collects}
use Common.{Condition, condition_reads, IsConditionOf, length, length-map, List, map, subst, sym}
use Common.{take, take_all}
use Rattle.qss_machine.proofs.Places.{clauses_fit, count_more, conditions_in, conditions_more}
use Rattle.qss_machine.proofs.Marking.{collected, items_of, condition_of}
use Rattle.qss_machine.proofs.variable_uses.condition_uses_by_variable.Goals as goal

pub mark_branch_uses-requires-clause-count_limit : goal.mark_branch_uses-requires-clause-count_limit
mark_branch_uses-requires-clause-count_limit c =
    let clause = c.clause-item.result in
    let fit = clauses_fit c.args.clauses.now c.loop-clause.clause-index clause c.loop-clause-test.true in
    let same = ap (λ (k : ClauseInfo). length k.branches) c.clause-item.is in
    rw (c.as_slice.ensures) (omega (arith, fit, same, c.loop-clause.invariant.place, c.requires.count_limit))

pub mark_branch_uses-requires-clause-known : goal.mark_branch_uses-requires-clause-known
mark_branch_uses-requires-clause-known c =
    let here = All-get_or (λ (clause : ClauseInfo). All (λ (branch : BranchInfo). IsConditionOf c.args.count branch.condition) clause.branches) c.args.clauses.now c.loop-clause.clause-index c.clause-item.result c.loop-clause-test.true c.requires.known in
    let own = subst (λ (clause : ClauseInfo). All (λ (branch : BranchInfo). IsConditionOf c.args.count branch.condition) clause.branches) (sym c.clause-item.is) here in
    rw (c.as_slice.ensures, ← length-map c.loop-clause.lists.items items_of, c.loop-clause.invariant.found.as_many) own

pub loop-clause-preserved : goal.loop-clause-preserved
loop-clause-preserved c =
    let clauses = c.args.clauses.now in
    let i = c.loop-clause.clause-index in
    let clause = c.clause-item.result in
    let before = conditions_in (take i clauses) in
    let old = map items_of c.loop-clause.lists.items in
    let new = map items_of c.mark_branch_uses.new.lists.items in
    let many : length c.loop-clause.lists.items ≡ c.args.count = sym (length-map c.loop-clause.lists.items items_of) ∙ c.loop-clause.invariant.found.as_many in
    let start = subst (λ (n : ℕ). Collects condition_reads before n old) (sym many) c.loop-clause.invariant.found in
    let grown = c.in_ok-first.ensures.marks before (sym c.loop-clause.invariant.place) start in
    let counted = subst (λ (n : ℕ). Collects condition_reads (before ++ map condition_of c.as_slice.result.now) n new) many grown in
    let own = subst (λ (branches : List BranchInfo). Collects condition_reads (before ++ map condition_of branches) c.args.count new) (c.as_slice.ensures ∙ ap (λ (k : ClauseInfo). k.branches) c.clause-item.is) counted in
    record {
      found = subst (λ (conditions : List Condition). Collects condition_reads conditions c.args.count new) (sym (conditions_more clauses i clause c.loop-clause-test.true)) own;
      place = count_more clauses i clause c.loop-clause.first c.in_ok-first.first c.as_slice.result.now
          c.in_ok-first.ensures.next c.loop-clause.invariant.place c.as_slice.ensures c.clause-item.is c.loop-clause-test.true;
    }

pub returns : goal.returns
returns c =
    collected condition_reads (conditions_in c.args.clauses.now) c.args.count (map items_of c.loop-clause.lists.items)
    (subst (λ (clauses : List ClauseInfo). Collects condition_reads (conditions_in clauses) c.args.count (map items_of c.loop-clause.lists.items)) (take_all c.loop-clause.clause-index c.args.clauses.now c.loop-clause-test.false) c.loop-clause.invariant.found)
