-- From each state of the machine of a model some tokens complete a model.
use Rattle.mu_grammar.proofs.Common
use Common.{[], ℕ, ◌++◌, ◌∷◌, Aim, Algebraic, All, All-nil, arguments, Assign, assigned, at_body}
use Common.{at_component, at_each, at_end_name, at_first_item, at_heads, at_item, at_last}
use Common.{at_model_name, at_sum, at_target, at_type, at_variable, begin, behind_annotation}
use Common.{behind_item, behind_modifications, behind_name, behind_size, behind_string}
use Common.{behind_target, behind_target_name, behind_title, Body, Bool, Bracket, Branches}
use Common.{branches_of, clauses_of, ClauseTree, closed, Component, Derivative, derivative, Draft}
use Common.{EachClause, EachEquation, EachStatement, Effect, Element, enter, equations_of}
use Common.{EquationTree, expects, Expression, false, Fixed, fixed_token, for_first, for_index}
use Common.{for_last, for_quantum, for_setting, for_side, for_size, for_start, for_value, Frame}
use Common.{importing, in_branch, in_clauses, in_condition, in_equations, in_starts, in_sum}
use Common.{initial, IsToken, level, List, Loop, mark, model_of, model_turn, ModelTree}
use Common.{modifications, new_branch, new_component, new_draft, of_component, of_model, OpenBranch}
use Common.{outside, own_arguments, Place, plain, Position, put_clause, put_equation, put_start}
use Common.{put_statement, range, receive, Reference, Restart, restarted, Setting, settings}
use Common.{settings_seen, skipping, State, statements_of, StatementTree, suc, Symbol, Waiting}
use Common.{Whole, with_clause, with_component, with_equation, with_initial, with_item}
use Common.{with_quantum, with_setting, with_size, with_start, with_statement, with_value, word}
use Rattle.mu_grammar.proofs.SumsEnds.{ends, one, one_token, some_name, name_token, token_then}
use Rattle.mu_grammar.proofs.ConditionsEnds.{stage_ends}
use Rattle.mu_grammar.proofs.ModelReaders.{GoodEffect, IsModelReader, Follow, follow, InSum}
use Rattle.mu_grammar.proofs.ModelReaders.{AfterSum, sum_reader, InCondition, AfterThen}
use Rattle.mu_grammar.proofs.ModelReaders.{condition_reader}
use Rattle.mu_grammar.proofs.CompleteLists.{fixed_read}
use Rattle.mu_grammar.proofs.CompleteBodies.{target_alone}
use Rattle.mu_lexer.specs.declared.token.Word.TheVariants as words
use Rattle.mu_lexer.specs.declared.token.Mark.TheVariants as marks
use Rattle.mu_grammar.specs.declared.symbol.Fixed.TheVariants as fixed
use Rattle.mu_grammar.specs.declared.symbol.Bracket.TheVariants as round

fixed_is_token : (f : Fixed) (at : ℕ) → IsToken (fixed_token f at)
fixed_is_token fixed.ModelWord at = tt
fixed_is_token fixed.EndWord at = tt
fixed_is_token fixed.AlgorithmWord at = tt
fixed_is_token fixed.InWord at = tt
fixed_is_token fixed.ForWord at = tt
fixed_is_token fixed.WhenWord at = tt
fixed_is_token fixed.RealWord at = tt
fixed_is_token fixed.OpenBracket at = tt
fixed_is_token fixed.EqualSign at = tt
fixed_is_token fixed.Semicolon at = tt

module _ (limit : ℕ) (R : State → List Symbol → Type 0) (F : ModelTree → List Symbol → Type 0) (r : IsModelReader limit R F) (finish : (m : ModelTree) → F m []) where
  -- some tokens are read from this state
  abbrev pub Ends : State → Type 0
  Ends s = (more : List Symbol) × R s more × All IsToken more

  -- some tokens are read where this says what each of them does
  abbrev pub FollowEnds : (Symbol → Effect State ModelTree) → Type 0
  FollowEnds f = (more : List Symbol) × Follow limit R F r f more × All IsToken more

  -- a token leads to a state from which some tokens are read
  on : (s t : State) (x : Symbol) → ((ts : List Symbol) → R t ts → GoodEffect limit R F (model_turn s x) ts) → IsToken x → Ends t → Ends s
  on s t x leads token rest = (x ∷ rest.0, r.forth s x rest.0 (leads rest.0 rest.1), token_then x rest.0 token rest.2)

  follow_on : (f : Symbol → Effect State ModelTree) (t : State) (x : Symbol) → ((ts : List Symbol) → R t ts → GoodEffect limit R F (f x) ts) → IsToken x → Ends t → FollowEnds f
  follow_on f t x leads token rest = (x ∷ rest.0, leads rest.0 rest.1, token_then x rest.0 token rest.2)

  follow_ends : (s : State) → Ends s → FollowEnds (model_turn s)
  follow_ends s rest = (rest.0, follow limit R F r s rest.0 rest.1, rest.2)

  fixed_ends : (f : Fixed) (s : State) → Ends s → Ends (expects f s)
  fixed_ends f s rest = (fixed_token f 0 ∷ rest.0, fixed_read limit R F r f s 0 rest.0 rest.1, token_then (fixed_token f 0) rest.0 (fixed_is_token f 0) rest.2)

  last_ends : (m : ModelTree) → Ends (at_last m)
  last_ends m = (mark marks.Semicolon 0 ∷ [], r.forth (at_last m) (mark marks.Semicolon 0) [] (finish m), token_then (mark marks.Semicolon 0) [] tt (All-nil IsToken))

  end_name_ends : (d : Draft) (ss : List Setting) → Ends (at_end_name d ss)
  end_name_ends d ss = on (at_end_name d ss) (at_last (model_of d.name (97 ∷ []) 0 d.decls d.held ss)) some_name (λ ts is. is) name_token (last_ends (model_of d.name (97 ∷ []) 0 d.decls d.held ss))

  heads_end : (d : Draft) → Ends (at_heads d)
  heads_end d = on (at_heads d) (at_end_name d []) (word words.End 0) (λ ts is. is) tt (end_name_ends d [])

  -- after a component, a semicolon
  component_ends : (c : Component) (s : State) → ((ts : List Symbol) → R (at_heads (with_component c)) ts → GoodEffect limit R F (model_turn s (mark marks.Semicolon 0)) ts) → Ends s
  component_ends c s leads = on s (at_heads (with_component c)) (mark marks.Semicolon 0) leads tt (heads_end (with_component c))

  at_component_ends : (d : Draft) (prefix : _) (whole : Bool) → Ends (at_component d prefix whole)
  at_component_ends d prefix whole =
      let c : Component = new_component d prefix whole (97 ∷ []) 0 in
      on (at_component d prefix whole) (behind_name c) some_name (λ ts is. is) name_token (component_ends c (behind_name c) (λ ts is. is))

  -- after the bracket of a place
  closed_ends : (p : Place) → Ends (closed p)
  closed_ends (modifications c) = component_ends c (behind_modifications c) (λ ts is. is)
  closed_ends (own_arguments c) = component_ends c (behind_annotation c) (λ ts is. is)
  closed_ends (arguments d s) = fixed_ends fixed.Semicolon (expects fixed.EndWord (at_end_name d s.settings)) (fixed_ends fixed.EndWord (at_end_name d s.settings) (end_name_ends d s.settings))
  closed_ends (settings (of_component c) ss) = on (behind_item (own_arguments c)) (behind_annotation c) (mark marks.CloseRound 0) (λ ts is. is) tt (component_ends c (behind_annotation c) (λ ts is. is))
  closed_ends (settings (of_model d) ss) =
      on (behind_item (arguments d (settings_seen ss))) (expects fixed.Semicolon (expects fixed.EndWord (at_end_name d ss))) (mark marks.CloseRound 0) (λ ts is. is) tt
      (fixed_ends fixed.Semicolon (expects fixed.EndWord (at_end_name d ss)) (fixed_ends fixed.EndWord (at_end_name d ss) (end_name_ends d ss)))

  item_ends : (p : Place) → Ends (behind_item p)
  item_ends p = on (behind_item p) (closed p) (mark marks.CloseRound 0) (λ ts is. is) tt (closed_ends p)

  skipping_ends : (p : Place) (bs : List Bracket) → Ends (skipping p bs)
  skipping_ends p [] = on (skipping p []) (closed p) (mark marks.CloseRound 0) (λ ts is. is) tt (closed_ends p)
  skipping_ends p (round.Round ∷ bs) = on (skipping p (round.Round ∷ bs)) (skipping p bs) (mark marks.CloseRound 0) (λ ts is. is) tt (skipping_ends p bs)
  skipping_ends p (round.Square ∷ bs) = on (skipping p (round.Square ∷ bs)) (skipping p bs) (mark marks.CloseSquare 0) (λ ts is. is) tt (skipping_ends p bs)
  skipping_ends p (round.Curly ∷ bs) = on (skipping p (round.Curly ∷ bs)) (skipping p bs) (mark marks.CloseCurly 0) (λ ts is. is) tt (skipping_ends p bs)

  at_item_ends : (p : Place) → Ends (at_item p)
  at_item_ends (modifications c) = on (at_item (modifications c)) (skipping (modifications c) []) one (λ ts is. is) one_token (skipping_ends (modifications c) [])
  at_item_ends (own_arguments c) = on (at_item (own_arguments c)) (skipping (own_arguments c) []) one (λ ts is. is) one_token (skipping_ends (own_arguments c) [])
  at_item_ends (arguments d s) = on (at_item (arguments d s)) (skipping (arguments d s) []) one (λ ts is. is) one_token (skipping_ends (arguments d s) [])
  at_item_ends (settings o ss) = on (at_item (settings o ss)) (skipping (settings o ss) []) one (λ ts is. is) one_token (skipping_ends (settings o ss) [])

  -- the end of a loop leads to this body
  loop_ends : (s : State) (b : Body) → ((ts : List Symbol) → R (expects fixed.ForWord (expects fixed.Semicolon (at_body b))) ts → GoodEffect limit R F (model_turn s (word words.End 0)) ts) → Ends (at_body b) → Ends s
  loop_ends s b leads rest = on s (expects fixed.ForWord (expects fixed.Semicolon (at_body b))) (word words.End 0) leads tt (fixed_ends fixed.ForWord (expects fixed.Semicolon (at_body b)) (fixed_ends fixed.Semicolon (at_body b) rest))

  equations_end : (d : Draft) → Ends (at_body (in_equations d []))
  equations_end d = on (at_body (in_equations d [])) (at_end_name d []) (word words.End 0) (λ ts is. is) tt (end_name_ends d [])

  equation_ends : (d : Draft) (ls : List (Loop EquationTree)) (v : EquationTree) → Ends (at_body (put_equation d ls v))
  equation_ends d [] v = equations_end (with_equation d v)
  equation_ends d (l ∷ ls) v = let w = EachEquation l.range (equations_of (l.items ++ v ∷ [])) in loop_ends (at_body (in_equations d (with_item l v ∷ ls))) (put_equation d ls w) (λ ts is. is) (equation_ends d ls w)

  starts_end : (d : Draft) → Ends (at_body (in_starts d []))
  starts_end d = on (at_body (in_starts d [])) (at_end_name d []) (word words.End 0) (λ ts is. is) tt (end_name_ends d [])

  start_ends : (d : Draft) (ls : List (Loop StatementTree)) (v : StatementTree) → Ends (at_body (put_start d ls v))
  start_ends d [] v = starts_end (with_initial d v)
  start_ends d (l ∷ ls) v = let w = EachStatement l.range (statements_of (l.items ++ v ∷ [])) in loop_ends (at_body (in_starts d (with_item l v ∷ ls))) (put_start d ls w) (λ ts is. is) (start_ends d ls w)

  clauses_end : (d : Draft) → Ends (at_body (in_clauses d []))
  clauses_end d = on (at_body (in_clauses d [])) (at_end_name d []) (word words.End 0) (λ ts is. is) tt (end_name_ends d [])

  clause_ends : (d : Draft) (ls : List (Loop ClauseTree)) (v : ClauseTree) → Ends (at_body (put_clause d ls v))
  clause_ends d [] v = clauses_end (with_clause d v)
  clause_ends d (l ∷ ls) v = let w = EachClause l.range (clauses_of (l.items ++ v ∷ [])) in loop_ends (at_body (in_clauses d (with_item l v ∷ ls))) (put_clause d ls w) (λ ts is. is) (clause_ends d ls w)

  branch_ends : (b : OpenBranch) → Ends (at_body (in_branch b []))
  branch_ends b =
      let c : Body = put_clause b.clause.draft b.clause.loops (Branches (branches_of b)) in
      on (at_body (in_branch b [])) (expects fixed.WhenWord (expects fixed.Semicolon (at_body c))) (word words.End 0) (λ ts is. is) tt
      (fixed_ends fixed.WhenWord (expects fixed.Semicolon (at_body c)) (fixed_ends fixed.Semicolon (at_body c) (clause_ends b.clause.draft b.clause.loops (Branches (branches_of b)))))

  statement_ends : (b : OpenBranch) (ls : List (Loop StatementTree)) (v : StatementTree) → Ends (at_body (put_statement b ls v))
  statement_ends b [] v = branch_ends (with_statement b v)
  statement_ends b (l ∷ ls) v = let w = EachStatement l.range (statements_of (l.items ++ v ∷ [])) in loop_ends (at_body (in_branch b (with_item l v ∷ ls))) (put_statement b ls w) (λ ts is. is) (statement_ends b ls w)

  body_ends : (b : Body) → Ends (at_body b)
  body_ends (in_equations d []) = equations_end d
  body_ends (in_equations d (l ∷ ls)) = let w = EachEquation l.range (equations_of l.items) in loop_ends (at_body (in_equations d (l ∷ ls))) (put_equation d ls w) (λ ts is. is) (equation_ends d ls w)
  body_ends (in_starts d []) = starts_end d
  body_ends (in_starts d (l ∷ ls)) = let w = EachStatement l.range (statements_of l.items) in loop_ends (at_body (in_starts d (l ∷ ls))) (put_start d ls w) (λ ts is. is) (start_ends d ls w)
  body_ends (in_clauses d []) = clauses_end d
  body_ends (in_clauses d (l ∷ ls)) = let w = EachClause l.range (clauses_of l.items) in loop_ends (at_body (in_clauses d (l ∷ ls))) (put_clause d ls w) (λ ts is. is) (clause_ends d ls w)
  body_ends (in_branch b []) = branch_ends b
  body_ends (in_branch b (l ∷ ls)) = let w = EachStatement l.range (statements_of l.items) in loop_ends (at_body (in_branch b (l ∷ ls))) (put_statement b ls w) (λ ts is. is) (statement_ends b ls w)

  -- after what a reference is set to
  side_ends : (a : Aim) (t : Reference) (e : Expression) → FollowEnds (receive (for_side a t) e)
  side_ends (plain d ls) t e = follow_on (receive (for_side (plain d ls) t) e) (at_body (put_equation d ls (Algebraic t e))) (mark marks.Semicolon 0) (λ ts is. is) tt (equation_ends d ls (Algebraic t e))
  side_ends (derivative d ls) t e = follow_on (receive (for_side (derivative d ls) t) e) (at_body (put_equation d ls (Derivative t e))) (mark marks.Semicolon 0) (λ ts is. is) tt (equation_ends d ls (Derivative t e))
  side_ends (initial d ls) t e = follow_on (receive (for_side (initial d ls) t) e) (at_body (put_start d ls (Assign t e))) (mark marks.Semicolon 0) (λ ts is. is) tt (start_ends d ls (Assign t e))
  side_ends (assigned b ls) t e = follow_on (receive (for_side (assigned b ls) t) e) (at_body (put_statement b ls (Assign t e))) (mark marks.Semicolon 0) (λ ts is. is) tt (statement_ends b ls (Assign t e))
  side_ends (restarted b ls) t e =
      let c : Body = put_statement b ls (Restart t e) in
      follow_on (receive (for_side (restarted b ls) t) e) (expects fixed.Semicolon (at_body c)) (mark marks.CloseRound 0) (λ ts is. is) tt (fixed_ends fixed.Semicolon (at_body c) (statement_ends b ls (Restart t e)))

  -- a sum in a use after which some tokens are read
  sums_end : (w : Waiting) → ((e : Expression) → FollowEnds (receive w e)) → (p : Position) (fs : List Frame) → Ends (in_sum w p fs)
  sums_end w end p fs = ends limit (outside w) (InSum limit R F r w) (AfterSum limit R F r w) (sum_reader limit R F r w) end p fs

  side_begins : (a : Aim) (t : Reference) → Ends (begin (for_side a t))
  side_begins a t = sums_end (for_side a t) (side_ends a t) at_sum []

  -- after a reference
  target_ends : (t : Reference) (a : Aim) → Ends (behind_target t a)
  target_ends t (plain d ls) = on (behind_target t (plain d ls)) (begin (for_side (plain d ls) t)) (mark marks.Equal 0) (λ ts is. is) tt (side_begins (plain d ls) t)
  target_ends t (derivative d ls) =
      on (behind_target t (derivative d ls)) (expects fixed.EqualSign (begin (for_side (derivative d ls) t))) (mark marks.CloseRound 0) (λ ts is. is) tt (fixed_ends fixed.EqualSign (begin (for_side (derivative d ls) t)) (side_begins (derivative d ls) t))
  target_ends t (initial d ls) = on (behind_target t (initial d ls)) (begin (for_side (initial d ls) t)) (mark marks.Assign 0) (λ ts is. is) tt (side_begins (initial d ls) t)
  target_ends t (assigned b ls) = on (behind_target t (assigned b ls)) (begin (for_side (assigned b ls) t)) (mark marks.Assign 0) (λ ts is. is) tt (side_begins (assigned b ls) t)
  target_ends t (restarted b ls) = on (behind_target t (restarted b ls)) (begin (for_side (restarted b ls) t)) (mark marks.Comma 0) (λ ts is. is) tt (side_begins (restarted b ls) t)

  target_name_ends : (n : List ℕ) (at : ℕ) (a : Aim) → Ends (behind_target_name n at a)
  target_name_ends n at a = let rest = target_ends (Whole n at) a in (rest.0, target_alone limit R F r n at a rest.0 rest.1, rest.2)

  -- after the last value of a loop
  last_value_ends : (b : Body) (n : List ℕ) (at : ℕ) (e f : Expression) → FollowEnds (receive (for_last b n at e) f)
  last_value_ends b n at e f = follow_on (receive (for_last b n at e) f) (at_body (enter b (range n at e f))) (word words.Loop 0) (λ ts is. is) tt (body_ends (enter b (range n at e f)))

  -- after any sum
  sum_ends : (w : Waiting) (e : Expression) → FollowEnds (receive w e)
  sum_ends (for_size c) e = follow_on (receive (for_size c) e) (behind_size (with_size c e)) (mark marks.CloseSquare 0) (λ ts is. is) tt (component_ends (with_size c e) (behind_size (with_size c e)) (λ ts is. is))
  sum_ends (for_start c) e = follow_ends (behind_item (modifications (with_start c e))) (item_ends (modifications (with_start c e)))
  sum_ends (for_value c) e = follow_on (receive (for_value c) e) (at_heads (with_component (with_value c e))) (mark marks.Semicolon 0) (λ ts is. is) tt (heads_end (with_component (with_value c e)))
  sum_ends (for_quantum c) e = follow_ends (behind_item (own_arguments (with_quantum c e))) (item_ends (own_arguments (with_quantum c e)))
  sum_ends (for_setting o ss which at) e = follow_ends (behind_item (settings o (with_setting ss which e at))) (item_ends (settings o (with_setting ss which e at)))
  sum_ends (for_index n i a) e = follow_on (receive (for_index n i a) e) (behind_target (Element n e i) a) (mark marks.CloseSquare 0) (λ ts is. is) tt (target_ends (Element n e i) a)
  sum_ends (for_side a t) e = side_ends a t e
  sum_ends (for_first b n at) e = follow_on (receive (for_first b n at) e) (begin (for_last b n at e)) (mark marks.Colon 0) (λ ts is. is) tt (sums_end (for_last b n at e) (last_value_ends b n at e) at_sum [])
  sum_ends (for_last b n at e) f = last_value_ends b n at e f

  -- each state leads to an end
  pub model_ends : (s : State) → Ends s
  model_ends (expects f s) = fixed_ends f s (model_ends s)
  model_ends (in_sum w p fs) = sums_end w (sum_ends w) p fs
  model_ends (in_condition w s) = stage_ends limit (suc (level 0 w.loops)) (InCondition limit R F r w) (AfterThen limit R F r w) (condition_reader limit R F r w) (λ c. branch_ends (new_branch w c)) s
  model_ends at_model_name = on at_model_name (behind_title (new_draft (97 ∷ []))) some_name (λ ts is. is) name_token (on (behind_title (new_draft (97 ∷ []))) (at_end_name (new_draft (97 ∷ [])) []) (word words.End 0) (λ ts is. is) tt (end_name_ends (new_draft (97 ∷ [])) []))
  model_ends (behind_title d) = on (behind_title d) (at_end_name d []) (word words.End 0) (λ ts is. is) tt (end_name_ends d [])
  model_ends (at_heads d) = heads_end d
  model_ends (importing d) = on (importing d) (at_heads d) (mark marks.Semicolon 0) (λ ts is. is) tt (heads_end d)
  model_ends (at_type d prefix) = on (at_type d prefix) (at_component d prefix false) (word words.RealType 0) (λ ts is. is) tt (at_component_ends d prefix false)
  model_ends (at_component d prefix whole) = at_component_ends d prefix whole
  model_ends (behind_name c) = component_ends c (behind_name c) (λ ts is. is)
  model_ends (behind_size c) = component_ends c (behind_size c) (λ ts is. is)
  model_ends (behind_modifications c) = component_ends c (behind_modifications c) (λ ts is. is)
  model_ends (behind_string c) = component_ends c (behind_string c) (λ ts is. is)
  model_ends (behind_annotation c) = component_ends c (behind_annotation c) (λ ts is. is)
  model_ends (at_first_item p) = on (at_first_item p) (closed p) (mark marks.CloseRound 0) (λ ts is. is) tt (closed_ends p)
  model_ends (at_item p) = at_item_ends p
  model_ends (at_each c) = on (at_each c) (skipping (modifications c) []) one (λ ts is. is) one_token (skipping_ends (modifications c) [])
  model_ends (behind_item p) = item_ends p
  model_ends (skipping p bs) = skipping_ends p bs
  model_ends (at_body b) = body_ends b
  model_ends (at_variable b) =
      on (at_variable b) (expects fixed.InWord (begin (for_first b (97 ∷ []) 0))) some_name (λ ts is. is) name_token (fixed_ends fixed.InWord (begin (for_first b (97 ∷ []) 0)) (sums_end (for_first b (97 ∷ []) 0) (sum_ends (for_first b (97 ∷ []) 0)) at_sum []))
  model_ends (at_target a) = on (at_target a) (behind_target_name (97 ∷ []) 0 a) some_name (λ ts is. is) name_token (target_name_ends (97 ∷ []) 0 a)
  model_ends (behind_target_name n at a) = target_name_ends n at a
  model_ends (behind_target t a) = target_ends t a
  model_ends (at_end_name d ss) = end_name_ends d ss
  model_ends (at_last m) = last_ends m
