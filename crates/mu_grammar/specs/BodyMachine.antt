-- The transitions of the model machine in equations, clauses, statements and initial equations.
use Rattle.std.specs.Prelude.{ℕ, List, [], ◌∷◌, ◌++◌}
use Rattle.mu_lexer.specs.declared.token.Word.TheVariants as words
use Rattle.mu_lexer.specs.declared.token.Mark.TheVariants as marks
use Rattle.mu_tree.specs.Expression.{Expression, Reference, Whole}
use Rattle.mu_tree.specs.ModelTree.{Condition, Range, EquationTree, Derivative, Algebraic, EachEquation, equations_of, StatementTree, Assign, Restart, EachStatement, statements_of, BranchTree, ClauseTree, Branches, EachClause, clauses_of, ModelTree}
use Rattle.mu_grammar.specs.declared.symbol.Fixed.TheVariants as fixed
use Rattle.mu_grammar.specs.Grammar.{Symbol, name, quoted, word, mark}
use Rattle.mu_grammar.specs.ReaderMachines.{Effect, advances, descends, refuses}
use Rattle.mu_grammar.specs.ConditionMachine.{before, Turn, goes, nests, holds, fails}
use Rattle.mu_grammar.specs.Bodies.{branch}
use Rattle.mu_grammar.specs.ModelGrammar.{sections}
use Rattle.mu_grammar.specs.States.{Draft, Loop, OpenWhen, OpenBranch, Body, in_equations, in_starts, in_clauses, in_branch, Aim, plain, derivative, initial, assigned, restarted, for_index, for_side, for_first, for_last, State, expects, in_condition, at_body, at_variable, at_target, behind_target_name, behind_target, begin, level, branch_level, body_level, aim_level}
use Rattle.mu_grammar.specs.DeclarationMachine.{between}

-- the model with one more equation, initial equation or clause
abbrev pub with_equation : Draft → EquationTree → Draft
with_equation d v = record d { held = sections d.held.starts (d.held.equations ++ v ∷ []) d.held.clauses }

abbrev pub with_initial : Draft → StatementTree → Draft
with_initial d v = record d { held = sections (d.held.starts ++ v ∷ []) d.held.equations d.held.clauses }

abbrev pub with_clause : Draft → ClauseTree → Draft
with_clause d v = record d { held = sections d.held.starts d.held.equations (d.held.clauses ++ v ∷ []) }

-- the branch with one more statement
abbrev pub with_statement : OpenBranch → StatementTree → OpenBranch
with_statement b v = record b { branch = branch b.branch.condition (b.branch.body ++ v ∷ []) }

-- the loop with one more item
abbrev pub with_item : {T : Type 0} → Loop T → T → Loop T
with_item l v = record l { items = l.items ++ v ∷ [] }

-- a new loop without items
abbrev pub new_loop : {T : Type 0} → Range → Loop T
new_loop r = record { range = r; items = [] }

-- adds an item to the innermost loop, or to the model if no loop is open
abbrev pub put_equation : Draft → List (Loop EquationTree) → EquationTree → Body
put_equation d [] v = in_equations (with_equation d v) []
put_equation d (l ∷ ls) v = in_equations d (with_item l v ∷ ls)

abbrev pub put_start : Draft → List (Loop StatementTree) → StatementTree → Body
put_start d [] v = in_starts (with_initial d v) []
put_start d (l ∷ ls) v = in_starts d (with_item l v ∷ ls)

abbrev pub put_clause : Draft → List (Loop ClauseTree) → ClauseTree → Body
put_clause d [] v = in_clauses (with_clause d v) []
put_clause d (l ∷ ls) v = in_clauses d (with_item l v ∷ ls)

abbrev pub put_statement : OpenBranch → List (Loop StatementTree) → StatementTree → Body
put_statement b [] v = in_branch (with_statement b v) []
put_statement b (l ∷ ls) v = in_branch b (with_item l v ∷ ls)

-- opens a loop with this range
abbrev pub enter : Body → Range → Body
enter (in_equations d ls) r = in_equations d (new_loop r ∷ ls)
enter (in_starts d ls) r = in_starts d (new_loop r ∷ ls)
enter (in_clauses d ls) r = in_clauses d (new_loop r ∷ ls)
enter (in_branch b ls) r = in_branch b (new_loop r ∷ ls)

-- the branches of a clause, including the last one, which is complete
abbrev pub branches_of : OpenBranch → List BranchTree
branches_of b = b.clause.branches ++ b.branch ∷ []

-- the clause with its open branch added
abbrev pub next_branch : OpenBranch → OpenWhen
next_branch b = record b.clause { branches = branches_of b }

-- a new clause in these loops
abbrev pub new_when : Draft → List (Loop ClauseTree) → OpenWhen
new_when d ls = record { draft = d; loops = ls; branches = [] }

-- a new branch with this condition
abbrev pub new_branch : OpenWhen → Condition → OpenBranch
new_branch w c = record { clause = w; branch = branch c [] }

-- after the last item of a loop; b is the body after the loop
abbrev pub end_loop : Body → Symbol → Effect State ModelTree
end_loop b (word words.End at) = advances (expects fixed.ForWord (expects fixed.Semicolon (at_body b)))
end_loop b _ = refuses

-- after the last statement of a branch
abbrev pub end_branch : OpenBranch → Symbol → Effect State ModelTree
end_branch b (word words.Elsewhen at) = advances (in_condition (next_branch b) (before []))
end_branch b (word words.End at) = advances (expects fixed.WhenWord (expects fixed.Semicolon (at_body (put_clause b.clause.draft b.clause.loops (Branches (branches_of b))))))
end_branch b _ = refuses

-- after the last item of a body
abbrev pub leave : Body → Symbol → Effect State ModelTree
leave (in_equations d []) x = between d x
leave (in_equations d (l ∷ ls)) x = end_loop (put_equation d ls (EachEquation l.range (equations_of l.items))) x
leave (in_starts d []) x = between d x
leave (in_starts d (l ∷ ls)) x = end_loop (put_start d ls (EachStatement l.range (statements_of l.items))) x
leave (in_clauses d []) x = between d x
leave (in_clauses d (l ∷ ls)) x = end_loop (put_clause d ls (EachClause l.range (clauses_of l.items))) x
leave (in_branch b []) x = end_branch b x
leave (in_branch b (l ∷ ls)) x = end_loop (put_statement b ls (EachStatement l.range (statements_of l.items))) x

-- an equation begins with this token, or the list of equations ends
abbrev pub begin_equation : Draft → List (Loop EquationTree) → Symbol → Effect State ModelTree
begin_equation d ls (word words.Der at) = descends (level 0 ls) (expects fixed.OpenBracket (at_target (derivative d ls)))
begin_equation d ls (name n at) = advances (behind_target_name n at (plain d ls))
begin_equation d ls x = leave (in_equations d ls) x

-- an initial equation begins with this token, or the list ends
abbrev pub begin_start : Draft → List (Loop StatementTree) → Symbol → Effect State ModelTree
begin_start d ls (name n at) = advances (behind_target_name n at (initial d ls))
begin_start d ls x = leave (in_starts d ls) x

-- a clause begins with this token, or the list of clauses ends
abbrev pub begin_clause : Draft → List (Loop ClauseTree) → Symbol → Effect State ModelTree
begin_clause d ls (word words.When at) = descends (level 0 ls) (in_condition (new_when d ls) (before []))
begin_clause d ls x = leave (in_clauses d ls) x

-- a statement begins with this token, or the list of statements ends
abbrev pub begin_statement : OpenBranch → List (Loop StatementTree) → Symbol → Effect State ModelTree
begin_statement b ls (name n at) = advances (behind_target_name n at (assigned b ls))
begin_statement b ls (word words.Reinit at) = descends (level (branch_level b) ls) (expects fixed.OpenBracket (at_target (restarted b ls)))
begin_statement b ls x = leave (in_branch b ls) x

-- an item that is not a loop begins with this token, or the list of items ends
abbrev pub begin_bare : Body → Symbol → Effect State ModelTree
begin_bare (in_equations d ls) x = begin_equation d ls x
begin_bare (in_starts d ls) x = begin_start d ls x
begin_bare (in_clauses d ls) x = begin_clause d ls x
begin_bare (in_branch b ls) x = begin_statement b ls x

-- an item begins with this token, or the list of items ends
abbrev pub body_token : Body → Symbol → Effect State ModelTree
body_token b (word words.For at) = descends (body_level b) (at_variable b)
body_token b x = begin_bare b x

-- the loop variable is required
abbrev pub variable_token : Body → Symbol → Effect State ModelTree
variable_token b (name n at) = advances (expects fixed.InWord (begin (for_first b n at)))
variable_token b _ = refuses

-- after the first value of a loop's range
abbrev pub close_first : Body → List ℕ → ℕ → Expression → Symbol → Effect State ModelTree
close_first b n at e (mark marks.Colon i) = advances (begin (for_last b n at e))
close_first b n at e _ = refuses

-- after the last value of a loop's range
abbrev pub close_last : Body → Range → Symbol → Effect State ModelTree
close_last b r (word words.Loop i) = advances (at_body (enter b r))
close_last b r _ = refuses

-- a reference outside expressions is required
abbrev pub target_token : Aim → Symbol → Effect State ModelTree
target_token a (name n at) = advances (behind_target_name n at a)
target_token a _ = refuses

-- after a reference outside expressions
abbrev pub follow_target : Reference → Aim → Symbol → Effect State ModelTree
follow_target r (plain d ls) (mark marks.Equal at) = advances (begin (for_side (plain d ls) r))
follow_target r (derivative d ls) (mark marks.CloseRound at) = advances (expects fixed.EqualSign (begin (for_side (derivative d ls) r)))
follow_target r (initial d ls) (mark marks.Assign at) = advances (begin (for_side (initial d ls) r))
follow_target r (assigned b ls) (mark marks.Assign at) = advances (begin (for_side (assigned b ls) r))
follow_target r (restarted b ls) (mark marks.Comma at) = advances (begin (for_side (restarted b ls) r))
follow_target r _ _ = refuses

-- after the name of a reference outside expressions
abbrev pub follow_target_name : List ℕ → ℕ → Aim → Symbol → Effect State ModelTree
follow_target_name n i a (mark marks.OpenSquare at) = descends (aim_level a) (begin (for_index n i a))
follow_target_name n i a x = follow_target (Whole n i) a x

-- after the index of a reference outside expressions
abbrev pub close_index : Reference → Aim → Symbol → Effect State ModelTree
close_index r a (mark marks.CloseSquare at) = advances (behind_target r a)
close_index r a _ = refuses

-- after the right-hand side of an equation; b is the body after the equation
abbrev pub close_equation : Body → Symbol → Effect State ModelTree
close_equation b (quoted at) = advances (expects fixed.Semicolon (at_body b))
close_equation b (mark marks.Semicolon at) = advances (at_body b)
close_equation b _ = refuses

-- after the right-hand side of an assignment
abbrev pub close_assignment : Body → Symbol → Effect State ModelTree
close_assignment b (mark marks.Semicolon at) = advances (at_body b)
close_assignment b _ = refuses

-- after the value of a reinit
abbrev pub close_restart : Body → Symbol → Effect State ModelTree
close_restart b (mark marks.CloseRound at) = advances (expects fixed.Semicolon (at_body b))
close_restart b _ = refuses

-- after the right-hand side that belongs to a reference
abbrev pub close_side : Aim → Reference → Expression → Symbol → Effect State ModelTree
close_side (plain d ls) r e x = close_equation (put_equation d ls (Algebraic r e)) x
close_side (derivative d ls) r e x = close_equation (put_equation d ls (Derivative r e)) x
close_side (initial d ls) r e x = close_assignment (put_start d ls (Assign r e)) x
close_side (assigned b ls) r e x = close_assignment (put_statement b ls (Assign r e)) x
close_side (restarted b ls) r e x = close_restart (put_statement b ls (Restart r e)) x

-- the effect of a condition's transition; d is the nesting depth
abbrev pub condition_turn : OpenWhen → ℕ → Turn → Effect State ModelTree
condition_turn w d (goes s) = advances (in_condition w s)
condition_turn w d (nests s) = descends d (in_condition w s)
condition_turn w d (holds c) = advances (at_body (in_branch (new_branch w c) []))
condition_turn w d fails = refuses
