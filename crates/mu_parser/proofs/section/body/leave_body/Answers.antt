use Rattle.mu_parser.proofs.Common
use Common.{◌≡◌, branch_of, effect_of, end_loop, IfOk, List, Range, refl, statement, sym}
use Common.{symbol_view}
use Rattle.std.proofs.Common.{subst}
use Rattle.mu_tree.specs.ModelTree.{ClauseTree, EachClause, EachEquation, EachStatement}
use Rattle.mu_tree.specs.ModelTree.{EquationTree, StatementTree, clause, clauses_of, equation}
use Rattle.mu_tree.specs.ModelTree.{equations_of, statements_of}
use Rattle.mu_grammar.specs.BodyMachine.{leave, put_clause, put_equation, put_start, put_statement}
use Rattle.mu_grammar.specs.States.{Loop, in_branch, in_clauses, in_equations, in_starts}
use Rattle.mu_parser.specs.SectionViews.{draft_of, loops_of}
use Rattle.mu_parser.proofs.Looping.{after_loop, none_open, one_open}
use Rattle.mu_parser.proofs.section.body.leave_body.Goals as goal

abbrev each_equation : Range → List EquationTree → EquationTree
each_equation r ts = EachEquation r (equations_of ts)

abbrev each_statement : Range → List StatementTree → StatementTree
each_statement r ts = EachStatement r (statements_of ts)

abbrev each_clause : Range → List ClauseTree → ClauseTree
each_clause r ts = EachClause r (clauses_of ts)

pub returns-in-Some : goal.returns-in-Some
returns-in-Some c =
    let s = symbol_view c.args.symbol in
    let d = draft_of c.in-Equations.draft.value in
    let it = c.close_loop-loops in
    let all = loops_of equation it.result.0.items in
    let ls = loops_of equation c.in-Equations.loops.items in
    let x = c.in-Some.item in
    rw c.in-Equations.is (
    after_loop c.end_loop.result c.put_equation.result (put_equation d all (equation x)) s
    (leave (in_equations d ls) s) c.put_equation.ensures c.end_loop.ensures
    (one_open equation each_equation ls all it.result.1 x (λ ls. leave (in_equations d ls) s)
    (λ all v. end_loop (put_equation d all v) s) it.ensures c.in-Some.is (λ l rest. refl))
    )

pub returns-in-Some-ended : goal.returns-in-Some-ended
returns-in-Some-ended c =
    let s = symbol_view c.args.symbol in
    let d = draft_of c.in-Starts.draft.value in
    let it = c.close_loop-loops-in-Starts in
    let all = loops_of statement it.result.0.items in
    let ls = loops_of statement c.in-Starts.loops.items in
    let x = c.in-Some-ended.item in
    rw c.in-Starts.is (
    after_loop c.end_loop-in-Some-ended.result c.put_start_statement.result
    (put_start d all (statement x)) s (leave (in_starts d ls) s)
    c.put_start_statement.ensures c.end_loop-in-Some-ended.ensures
    (one_open statement each_statement ls all it.result.1 x (λ ls. leave (in_starts d ls) s)
    (λ all v. end_loop (put_start d all v) s) it.ensures c.in-Some-ended.is (λ l rest. refl))
    )

pub returns-in-Some-ended-2 : goal.returns-in-Some-ended-2
returns-in-Some-ended-2 c =
    let s = symbol_view c.args.symbol in
    let d = draft_of c.in-Clauses.draft.value in
    let it = c.close_loop-loops-in-Clauses in
    let all = loops_of clause it.result.0.items in
    let ls = loops_of clause c.in-Clauses.loops.items in
    let x = c.in-Some-ended-2.item in
    rw c.in-Clauses.is (
    after_loop c.end_loop-in-Some-ended-2.result c.put_clause.result (put_clause d all (clause x)) s
    (leave (in_clauses d ls) s) c.put_clause.ensures c.end_loop-in-Some-ended-2.ensures
    (one_open clause each_clause ls all it.result.1 x (λ ls. leave (in_clauses d ls) s)
    (λ all v. end_loop (put_clause d all v) s) it.ensures c.in-Some-ended-2.is (λ l rest. refl))
    )

pub returns-in-Some-ended-3 : goal.returns-in-Some-ended-3
returns-in-Some-ended-3 c =
    let s = symbol_view c.args.symbol in
    let d = branch_of c.in-Branch.branch in
    let it = c.close_loop-loops-in-Branch in
    let all = loops_of statement it.result.0.items in
    let ls = loops_of statement c.in-Branch.loops.items in
    let x = c.in-Some-ended-3.item in
    rw c.in-Branch.is (
    after_loop c.end_loop-in-Some-ended-3.result c.put_statement.result
    (put_statement d all (statement x)) s (leave (in_branch d ls) s)
    c.put_statement.ensures c.end_loop-in-Some-ended-3.ensures
    (one_open statement each_statement ls all it.result.1 x (λ ls. leave (in_branch d ls) s)
    (λ all v. end_loop (put_statement d all v) s) it.ensures c.in-Some-ended-3.is (λ l rest. refl))
    )

pub returns-in-None-ended-3 : goal.returns-in-None-ended-3
returns-in-None-ended-3 c =
    let s = symbol_view c.args.symbol in
    let b = branch_of c.in-Branch.branch in
    let it = c.close_loop-loops-in-Branch in
    let all = loops_of statement it.result.0.items in
    let ls = loops_of statement c.in-Branch.loops.items in
    let P : List (Loop StatementTree) → Type 0 =
    λ ls. IfOk c.end_clause_branch.result (λ e. effect_of e ≡ leave (in_branch b ls) s) in
    rw c.in-Branch.is (
    subst P
    (sym (none_open statement each_statement ls all it.result.1 it.ensures c.in-None-ended-3.is))
    c.end_clause_branch.ensures
    )
