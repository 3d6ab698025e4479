-- What the grammar of equations, starts, clauses and statements allows, the machine of a model reads.
use Rattle.mu_grammar.proofs.Common
use Common.{[], ℕ, ◌++◌, ◌<◌, ◌∷◌, ◌≡◌, a_string, AddsClause, AddsEquation, AddsStart, Aim}
use Common.{aim_level, ap, append-nil, append_assoc, AreBranches, assigned, at_body, at_target}
use Common.{at_variable, before, begin, behind_target, behind_target_name, between, Body}
use Common.{body_level, branch, branch_level, Branches, BranchTree, clause_kind, clause_then}
use Common.{clauses_of, ClauseTree, close_equation, Condition, derivative, Draft, EachClause}
use Common.{EachEquation, EachStatement, enter, equation_kind, equation_then, equations_of}
use Common.{EquationTree, expects, false, for_first, for_index, for_last, for_side, in_branch}
use Common.{in_clauses, in_condition, in_equations, in_range, in_starts, initial, IsBareClause}
use Common.{IsBareEquation, IsBareStatement, IsCondition, IsRange, IsReference, IsSection}
use Common.{IsStatement, level, List, Listed, listed_end, listed_then, Loop, mark, MaybeString}
use Common.{ModelTree, name, new_branch, new_when, next_branch, no_clauses, no_more, no_string}
use Common.{one_more, OpenBranch, OpenWhen, plain, put_clause, put_equation, put_start}
use Common.{put_statement, Range, Reference, refl, restarted, Runs, Sections, State, statement_kind}
use Common.{statement_then, statements_of, StatementTree, subst, suc, sym, Symbol, true, Whole}
use Common.{word}
use Rattle.mu_tree.specs.ModelTree.{no_equations, no_statements}
use Rattle.mu_grammar.proofs.ConditionsComplete.{condition_read}
use Rattle.mu_grammar.proofs.ModelReaders.{IsModelReader, Follow, sum_begins, InCondition}
use Rattle.mu_grammar.proofs.ModelReaders.{AfterThen, condition_reader}
use Rattle.mu_grammar.proofs.CompleteLists.{fixed_read}
use Rattle.mu_grammar.proofs.CompleteLoops.{over, IsLoopReader, item_read}
use Rattle.mu_lexer.specs.declared.token.Word.TheVariants as words
use Rattle.mu_lexer.specs.declared.token.Mark.TheVariants as marks
use Rattle.mu_grammar.specs.declared.symbol.Fixed.TheVariants as fixed
use Rattle.mu_grammar.specs.Grammar as grammar
use Rattle.mu_grammar.specs.Bodies as bodies
use Rattle.mu_grammar.specs.ModelGrammar as models

-- a model with these sections
abbrev pub with_held : Draft → Sections → Draft
with_held d s = record d { held = s }

-- an open branch with these statements
abbrev pub filled_branch : OpenWhen → Condition → List StatementTree → OpenBranch
filled_branch w c body = record { clause = w; branch = branch c body }

pub equations_over : (vs : List EquationTree) → over equation_kind vs no_equations ≡ equations_of vs
equations_over [] = refl
equations_over (v ∷ vs) = ap (equation_then v) (equations_over vs)

pub statements_over : (vs : List StatementTree) → over statement_kind vs no_statements ≡ statements_of vs
statements_over [] = refl
statements_over (v ∷ vs) = ap (statement_then v) (statements_over vs)

pub clauses_over : (vs : List ClauseTree) → over clause_kind vs no_clauses ≡ clauses_of vs
clauses_over [] = refl
clauses_over (v ∷ vs) = ap (clause_then v) (clauses_over vs)

module _ (limit : ℕ) (R : State → List Symbol → Type 0) (F : ModelTree → List Symbol → Type 0) (r : IsModelReader limit R F) where
  -- the range of a loop
  ranged : (b : Body) (range : Range) (at : ℕ) (ts mid : List Symbol) → body_level b < limit → IsRange limit (suc (body_level b)) ts mid range → R (at_body (enter b range)) mid → R (at_body b) (word words.For at ∷ ts)
  ranged b range at ts mid less (in_range {i = i} {n = n} {ts = us} {from = from} first second) is =
      r.forth (at_body b) (word words.For at) ts (
        less,
        r.forth (at_variable b) (name n _) (word words.In i ∷ us)
            (fixed_read limit R F r fixed.InWord (begin (for_first b n _)) i us
            (sum_begins limit R F r (for_first b n _) refl first (sum_begins limit R F r (for_last b n _ from) refl second is))),
      )

  -- a reference that has no index
  pub target_alone : (n : List ℕ) (at : ℕ) (a : Aim) (ts : List Symbol) → R (behind_target (Whole n at) a) ts → R (behind_target_name n at a) ts
  target_alone n at a [] is = absurd (r.no_end (behind_target (Whole n at) a) is)
  target_alone n at (plain d ls) (mark marks.OpenSquare i ∷ ts) is = absurd (r.back (behind_target (Whole n at) (plain d ls)) (mark marks.OpenSquare i) ts is)
  target_alone n at (derivative d ls) (mark marks.OpenSquare i ∷ ts) is = absurd (r.back (behind_target (Whole n at) (derivative d ls)) (mark marks.OpenSquare i) ts is)
  target_alone n at (initial d ls) (mark marks.OpenSquare i ∷ ts) is = absurd (r.back (behind_target (Whole n at) (initial d ls)) (mark marks.OpenSquare i) ts is)
  target_alone n at (assigned b ls) (mark marks.OpenSquare i ∷ ts) is = absurd (r.back (behind_target (Whole n at) (assigned b ls)) (mark marks.OpenSquare i) ts is)
  target_alone n at (restarted b ls) (mark marks.OpenSquare i ∷ ts) is = absurd (r.back (behind_target (Whole n at) (restarted b ls)) (mark marks.OpenSquare i) ts is)
  target_alone n at a (x ∷ ts) is = r.forth (behind_target_name n at a) x ts (r.back (behind_target (Whole n at) a) x ts is)

  -- a reference, from a state in which its name leads after it
  target_read : {e : ℕ} {ts rest : List Symbol} {v : Reference} (a : Aim) (s : State) → ((n : List ℕ) (at : ℕ) (us : List Symbol) → R (behind_target_name n at a) us → R s (name n at ∷ us)) →
      IsReference limit e ts rest v → e ≡ aim_level a → R (behind_target v a) rest → R s ts
  target_read {rest = rest} a s named (grammar.whole {at = at} {n = n}) same is = named n at rest (target_alone n at a rest is)
  target_read {rest = rest} a s named (grammar.element {at = at} {i = i} {j = j} {n = n} {ts = us} {index = e} less sum) same is =
      named n at (mark marks.OpenSquare i ∷ us)
      (r.forth (behind_target_name n at a) (mark marks.OpenSquare i) us
      (subst (λ k. k < limit) same less, sum_begins limit R F r (for_index n at a) (ap suc same) sum is))

  -- a string or none, and a semicolon
  equation_ends : (b : Body) (ts us rest : List Symbol) (l : ℕ) → MaybeString ts us → us ≡ mark marks.Semicolon l ∷ rest → R (at_body b) rest → Follow limit R F r (close_equation b) ts
  equation_ends b ts us rest l no_string same is = subst (λ us. Follow limit R F r (close_equation b) us) (sym same) is
  equation_ends b ts us rest l a_string same is = subst (λ us. R (expects fixed.Semicolon (at_body b)) us) (sym same) (fixed_read limit R F r fixed.Semicolon (at_body b) l rest is)

  bare_equation_read : (d : Draft) (ls : List (Loop EquationTree)) (v : EquationTree) (ts rest : List Symbol) → IsBareEquation limit (level 0 ls) ts rest v → R (at_body (put_equation d ls v)) rest → R (at_body (in_equations d ls)) ts
  bare_equation_read d ls v ts rest (bodies.derivative {h = h} {i = i} {j = j} {k = k} {l = l} {ts = us} {us = vs} {vs = ws} {r = target} {v = e} less reference sum titled) is =
      r.forth (at_body (in_equations d ls)) (word words.Der h) (mark marks.OpenRound i ∷ us) (
        less,
        fixed_read limit R F r fixed.OpenBracket (at_target (derivative d ls)) i us
            (target_read (derivative d ls) (at_target (derivative d ls)) (λ n at us is. r.forth (at_target (derivative d ls)) (name n at) us is) reference refl
            (r.forth (behind_target target (derivative d ls)) (mark marks.CloseRound j) (mark marks.Equal k ∷ vs)
            (fixed_read limit R F r fixed.EqualSign (begin (for_side (derivative d ls) target)) k vs
            (sum_begins limit R F r (for_side (derivative d ls) target) refl sum (equation_ends (put_equation d ls v) ws (mark marks.Semicolon l ∷ rest) rest l titled refl is))))),
      )
  bare_equation_read d ls v ts rest (bodies.algebraic {k = k} {l = l} {us = vs} {vs = ws} {r = target} {v = e} reference sum titled) is =
      target_read (plain d ls) (at_body (in_equations d ls)) (λ n at us is. r.forth (at_body (in_equations d ls)) (name n at) us is) reference refl
      (r.forth (behind_target target (plain d ls)) (mark marks.Equal k) vs
      (sum_begins limit R F r (for_side (plain d ls) target) refl sum (equation_ends (put_equation d ls v) ws (mark marks.Semicolon l ∷ rest) rest l titled refl is)))

  equation_end_read : (d : Draft) (l : Loop EquationTree) (ls : List (Loop EquationTree)) (i j k : ℕ) (rest : List Symbol) → R (at_body (put_equation d ls (EachEquation l.range (over equation_kind l.items no_equations)))) rest → R (at_body (in_equations d (l ∷ ls))) (word words.End i ∷ word words.For j ∷ mark marks.Semicolon k ∷ rest)
  equation_end_read d l ls i j k rest is =
      let b : Body = put_equation d ls (EachEquation l.range (equations_of l.items)) in
      r.forth (at_body (in_equations d (l ∷ ls))) (word words.End i) (word words.For j ∷ mark marks.Semicolon k ∷ rest)
      (fixed_read limit R F r fixed.ForWord (expects fixed.Semicolon (at_body b)) j (mark marks.Semicolon k ∷ rest)
      (fixed_read limit R F r fixed.Semicolon (at_body b) k rest (subst (λ vs. R (at_body (put_equation d ls (EachEquation l.range vs))) rest) (equations_over l.items) is)))

  equation_reader : (d : Draft) → IsLoopReader limit 0 equation_kind (IsBareEquation limit) (λ ls ts. R (at_body (in_equations d ls)) ts) (λ ls v ts. R (at_body (put_equation d ls v)) ts)
  equation_reader d = record {
    bare_read = bare_equation_read d;
    range_read = λ ls range at ts mid less ranges is. ranged (in_equations d ls) range at ts mid less ranges is;
    end_read = equation_end_read d;
    put_inside = λ l ls v rest is. is;
  }

  bare_start_read : (d : Draft) (ls : List (Loop StatementTree)) (v : StatementTree) (ts rest : List Symbol) → IsBareStatement limit false (level 0 ls) ts rest v → R (at_body (put_start d ls v)) rest → R (at_body (in_starts d ls)) ts
  bare_start_read d ls v ts rest (bodies.assign {k = k} {us = us} {r = target} reference sum) is =
      target_read (initial d ls) (at_body (in_starts d ls)) (λ n at us is. r.forth (at_body (in_starts d ls)) (name n at) us is) reference refl
      (r.forth (behind_target target (initial d ls)) (mark marks.Assign k) us (sum_begins limit R F r (for_side (initial d ls) target) refl sum is))
  bare_start_read d ls v ts rest (bodies.restart may less reference sum) is = cc

  start_end_read : (d : Draft) (l : Loop StatementTree) (ls : List (Loop StatementTree)) (i j k : ℕ) (rest : List Symbol) → R (at_body (put_start d ls (EachStatement l.range (over statement_kind l.items no_statements)))) rest → R (at_body (in_starts d (l ∷ ls))) (word words.End i ∷ word words.For j ∷ mark marks.Semicolon k ∷ rest)
  start_end_read d l ls i j k rest is =
      let b : Body = put_start d ls (EachStatement l.range (statements_of l.items)) in
      r.forth (at_body (in_starts d (l ∷ ls))) (word words.End i) (word words.For j ∷ mark marks.Semicolon k ∷ rest)
      (fixed_read limit R F r fixed.ForWord (expects fixed.Semicolon (at_body b)) j (mark marks.Semicolon k ∷ rest)
      (fixed_read limit R F r fixed.Semicolon (at_body b) k rest (subst (λ vs. R (at_body (put_start d ls (EachStatement l.range vs))) rest) (statements_over l.items) is)))

  start_reader : (d : Draft) → IsLoopReader limit 0 statement_kind (IsBareStatement limit false) (λ ls ts. R (at_body (in_starts d ls)) ts) (λ ls v ts. R (at_body (put_start d ls v)) ts)
  start_reader d = record {
    bare_read = bare_start_read d;
    range_read = λ ls range at ts mid less ranges is. ranged (in_starts d ls) range at ts mid less ranges is;
    end_read = start_end_read d;
    put_inside = λ l ls v rest is. is;
  }

  bare_statement_read : (b : OpenBranch) (ls : List (Loop StatementTree)) (v : StatementTree) (ts rest : List Symbol) → IsBareStatement limit true (level (branch_level b) ls) ts rest v → R (at_body (put_statement b ls v)) rest → R (at_body (in_branch b ls)) ts
  bare_statement_read b ls v ts rest (bodies.assign {k = k} {us = us} {r = target} reference sum) is =
      target_read (assigned b ls) (at_body (in_branch b ls)) (λ n at us is. r.forth (at_body (in_branch b ls)) (name n at) us is) reference refl
      (r.forth (behind_target target (assigned b ls)) (mark marks.Assign k) us (sum_begins limit R F r (for_side (assigned b ls) target) refl sum is))
  bare_statement_read b ls v ts rest (bodies.restart {h = h} {i = i} {k = k} {l = l} {ts = us} {us = vs} {r = target} may less reference sum) is =
      r.forth (at_body (in_branch b ls)) (word words.Reinit h) (mark marks.OpenRound i ∷ us) (
        less,
        fixed_read limit R F r fixed.OpenBracket (at_target (restarted b ls)) i us
            (target_read (restarted b ls) (at_target (restarted b ls)) (λ n at us is. r.forth (at_target (restarted b ls)) (name n at) us is) reference refl
            (r.forth (behind_target target (restarted b ls)) (mark marks.Comma k) vs
            (sum_begins limit R F r (for_side (restarted b ls) target) refl sum (fixed_read limit R F r fixed.Semicolon (at_body (put_statement b ls v)) l rest is)))),
      )

  statement_end_read : (b : OpenBranch) (l : Loop StatementTree) (ls : List (Loop StatementTree)) (i j k : ℕ) (rest : List Symbol) → R (at_body (put_statement b ls (EachStatement l.range (over statement_kind l.items no_statements)))) rest → R (at_body (in_branch b (l ∷ ls))) (word words.End i ∷ word words.For j ∷ mark marks.Semicolon k ∷ rest)
  statement_end_read b l ls i j k rest is =
      let c : Body = put_statement b ls (EachStatement l.range (statements_of l.items)) in
      r.forth (at_body (in_branch b (l ∷ ls))) (word words.End i) (word words.For j ∷ mark marks.Semicolon k ∷ rest)
      (fixed_read limit R F r fixed.ForWord (expects fixed.Semicolon (at_body c)) j (mark marks.Semicolon k ∷ rest)
      (fixed_read limit R F r fixed.Semicolon (at_body c) k rest (subst (λ vs. R (at_body (put_statement b ls (EachStatement l.range vs))) rest) (statements_over l.items) is)))

  statement_reader : (b : OpenBranch) → IsLoopReader limit (branch_level b) statement_kind (IsBareStatement limit true) (λ ls ts. R (at_body (in_branch b ls)) ts) (λ ls v ts. R (at_body (put_statement b ls v)) ts)
  statement_reader b = record {
    bare_read = bare_statement_read b;
    range_read = λ ls range at ts mid less ranges is. ranged (in_branch b ls) range at ts mid less ranges is;
    end_read = statement_end_read b;
    put_inside = λ l ls v rest is. is;
  }

  -- the statements of a branch, after these ones
  statements_read : {e : ℕ} {ts rest : List Symbol} {vs : List StatementTree} → Listed (IsStatement limit true e) ts rest vs → (w : OpenWhen) (c : Condition) (body : List StatementTree) → e ≡ suc (level 0 w.loops) → R (at_body (in_branch (filled_branch w c (body ++ vs)) [])) rest → R (at_body (in_branch (filled_branch w c body) [])) ts
  statements_read {rest = rest} listed_end w c body same is = subst (λ us. R (at_body (in_branch (filled_branch w c us) [])) rest) (append-nil body) is
  statements_read {rest = rest} (listed_then {mid = mid} {v = v} {vs = vs} first more) w c body same is =
      item_read limit (suc (level 0 w.loops)) statement_kind (IsBareStatement limit true) (λ ls ts. R (at_body (in_branch (filled_branch w c body) ls)) ts) (λ ls v ts. R (at_body (put_statement (filled_branch w c body) ls v)) ts) (statement_reader (filled_branch w c body)) first [] same
      (statements_read more w c (body ++ v ∷ []) same (subst (λ us. R (at_body (in_branch (filled_branch w c us) [])) rest) (sym (append_assoc body (v ∷ []) vs)) is))

  -- a condition and the word then
  condition_then : {e i : ℕ} {ts us : List Symbol} {c : Condition} (w : OpenWhen) → e ≡ suc (level 0 w.loops) → IsCondition limit e ts (word words.Then i ∷ us) c → R (at_body (in_branch (new_branch w c) [])) us → R (in_condition w (before [])) ts
  condition_then w same condition is = condition_read limit (suc (level 0 w.loops)) (InCondition limit R F r w) (AfterThen limit R F r w) (condition_reader limit R F r w) [] same condition is

  -- the branches of a clause after its word, and its end
  branches_read : {e : ℕ} {ts rest : List Symbol} {bs : List BranchTree} → AreBranches limit e ts rest bs → (w : OpenWhen) → e ≡ suc (level 0 w.loops) → R (at_body (put_clause w.draft w.loops (Branches (w.branches ++ bs)))) rest → R (in_condition w (before [])) ts
  branches_read {rest = rest} (bodies.last_branch {j = j} {k = k} {l = l} {c = c} {body = body} condition statements) w same is =
      condition_then w same condition (statements_read statements w c [] same
      (r.forth (at_body (in_branch (filled_branch w c body) [])) (word words.End j) (word words.When k ∷ mark marks.Semicolon l ∷ rest)
      (fixed_read limit R F r fixed.WhenWord (expects fixed.Semicolon (at_body (put_clause w.draft w.loops (Branches (w.branches ++ branch c body ∷ []))))) k (mark marks.Semicolon l ∷ rest)
      (fixed_read limit R F r fixed.Semicolon (at_body (put_clause w.draft w.loops (Branches (w.branches ++ branch c body ∷ [])))) l rest is))))
  branches_read {rest = rest} (bodies.branch_then {j = j} {c = c} {body = body} {bs = bs} {vs = vs} condition statements more) w same is =
      condition_then w same condition (statements_read statements w c [] same
      (r.forth (at_body (in_branch (filled_branch w c body) [])) (word words.Elsewhen j) vs
      (branches_read more (next_branch (filled_branch w c body)) same (subst (λ us. R (at_body (put_clause w.draft w.loops (Branches us))) rest) (sym (append_assoc w.branches (branch c body ∷ []) bs)) is))))

  bare_clause_read : (d : Draft) (ls : List (Loop ClauseTree)) (v : ClauseTree) (ts rest : List Symbol) → IsBareClause limit (level 0 ls) ts rest v → R (at_body (put_clause d ls v)) rest → R (at_body (in_clauses d ls)) ts
  bare_clause_read d ls v ts rest (bodies.when {h = h} {bs = bs} {ts = us} less branches) is =
      r.forth (at_body (in_clauses d ls)) (word words.When h) us (less, branches_read branches (new_when d ls) refl is)

  clause_end_read : (d : Draft) (l : Loop ClauseTree) (ls : List (Loop ClauseTree)) (i j k : ℕ) (rest : List Symbol) → R (at_body (put_clause d ls (EachClause l.range (over clause_kind l.items no_clauses)))) rest → R (at_body (in_clauses d (l ∷ ls))) (word words.End i ∷ word words.For j ∷ mark marks.Semicolon k ∷ rest)
  clause_end_read d l ls i j k rest is =
      let b : Body = put_clause d ls (EachClause l.range (clauses_of l.items)) in
      r.forth (at_body (in_clauses d (l ∷ ls))) (word words.End i) (word words.For j ∷ mark marks.Semicolon k ∷ rest)
      (fixed_read limit R F r fixed.ForWord (expects fixed.Semicolon (at_body b)) j (mark marks.Semicolon k ∷ rest)
      (fixed_read limit R F r fixed.Semicolon (at_body b) k rest (subst (λ vs. R (at_body (put_clause d ls (EachClause l.range vs))) rest) (clauses_over l.items) is)))

  clause_reader : (d : Draft) → IsLoopReader limit 0 clause_kind (IsBareClause limit) (λ ls ts. R (at_body (in_clauses d ls)) ts) (λ ls v ts. R (at_body (put_clause d ls v)) ts)
  clause_reader d = record {
    bare_read = bare_clause_read d;
    range_read = λ ls range at ts mid less ranges is. ranged (in_clauses d ls) range at ts mid less ranges is;
    end_read = clause_end_read d;
    put_inside = λ l ls v rest is. is;
  }

  -- nothing that begins an item may follow a section
  equations_end : (d : Draft) (ts : List Symbol) → Follow limit R F r (between d) ts → R (at_body (in_equations d [])) ts
  equations_end d [] is = absurd is
  equations_end d (word words.For at ∷ ts) is = absurd is
  equations_end d (word words.Der at ∷ ts) is = absurd is
  equations_end d (name n at ∷ ts) is = absurd is
  equations_end d (x ∷ ts) is = r.forth (at_body (in_equations d [])) x ts is

  starts_end : (d : Draft) (ts : List Symbol) → Follow limit R F r (between d) ts → R (at_body (in_starts d [])) ts
  starts_end d [] is = absurd is
  starts_end d (word words.For at ∷ ts) is = absurd is
  starts_end d (name n at ∷ ts) is = absurd is
  starts_end d (x ∷ ts) is = r.forth (at_body (in_starts d [])) x ts is

  clauses_end : (d : Draft) (ts : List Symbol) → Follow limit R F r (between d) ts → R (at_body (in_clauses d [])) ts
  clauses_end d [] is = absurd is
  clauses_end d (word words.For at ∷ ts) is = absurd is
  clauses_end d (word words.When at ∷ ts) is = absurd is
  clauses_end d (x ∷ ts) is = r.forth (at_body (in_clauses d [])) x ts is

  equations_read : (d : Draft) (s t : Sections) (ts rest : List Symbol) → Runs (AddsEquation limit) s ts rest t → Follow limit R F r (between (with_held d t)) rest → R (at_body (in_equations (with_held d s) [])) ts
  equations_read d s t ts rest no_more is = equations_end (with_held d s) ts is
  equations_read d s t ts rest (one_more {t = u} {mid = mid} (models.adds_equation item) more) is =
      item_read limit 0 equation_kind (IsBareEquation limit) (λ ls ts. R (at_body (in_equations (with_held d s) ls)) ts) (λ ls v ts. R (at_body (put_equation (with_held d s) ls v)) ts) (equation_reader (with_held d s)) item [] refl (equations_read d u t mid rest more is)

  starts_read : (d : Draft) (s t : Sections) (ts rest : List Symbol) → Runs (AddsStart limit) s ts rest t → Follow limit R F r (between (with_held d t)) rest → R (at_body (in_starts (with_held d s) [])) ts
  starts_read d s t ts rest no_more is = starts_end (with_held d s) ts is
  starts_read d s t ts rest (one_more {t = u} {mid = mid} (models.adds_start item) more) is =
      item_read limit 0 statement_kind (IsBareStatement limit false) (λ ls ts. R (at_body (in_starts (with_held d s) ls)) ts) (λ ls v ts. R (at_body (put_start (with_held d s) ls v)) ts) (start_reader (with_held d s)) item [] refl (starts_read d u t mid rest more is)

  clauses_read : (d : Draft) (s t : Sections) (ts rest : List Symbol) → Runs (AddsClause limit) s ts rest t → Follow limit R F r (between (with_held d t)) rest → R (at_body (in_clauses (with_held d s) [])) ts
  clauses_read d s t ts rest no_more is = clauses_end (with_held d s) ts is
  clauses_read d s t ts rest (one_more {t = u} {mid = mid} (models.adds_clause item) more) is =
      item_read limit 0 clause_kind (IsBareClause limit) (λ ls ts. R (at_body (in_clauses (with_held d s) ls)) ts) (λ ls v ts. R (at_body (put_clause (with_held d s) ls v)) ts) (clause_reader (with_held d s)) item [] refl (clauses_read d u t mid rest more is)

  section_read : (d : Draft) (s t : Sections) (ts rest : List Symbol) → IsSection limit s ts rest t → Follow limit R F r (between (with_held d t)) rest → Follow limit R F r (between (with_held d s)) ts
  section_read d s t ts rest (models.equations {ts = us} all) is = equations_read d s t us rest all is
  section_read d s t ts rest (models.clauses {ts = us} all) is = clauses_read d s t us rest all is
  section_read d s t ts rest (models.starts {j = j} {ts = us} all) is = fixed_read limit R F r fixed.AlgorithmWord (at_body (in_starts (with_held d s) [])) j us (starts_read d s t us rest all is)

  -- the sections of a model
  pub sections_read : (d : Draft) (s t : Sections) (ts rest : List Symbol) → Runs (IsSection limit) s ts rest t → Follow limit R F r (between (with_held d t)) rest → Follow limit R F r (between (with_held d s)) ts
  sections_read d s t ts rest no_more is = is
  sections_read d s t ts rest (one_more {t = u} {mid = mid} first more) is = section_read d s u ts mid first (sections_read d u t mid rest more is)
