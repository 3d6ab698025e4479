-- What the machine of a model reads as equations, starts, clauses and statements, the grammar allows.
use Rattle.mu_grammar.proofs.Common
use Common.{[], ℕ, ◌<◌, ◌∙◌, ◌∷◌, Aim, aim_level, Algebraic, ap, append-nil, append_assoc, AreItems}
use Common.{Assign, assigned, before, Body, body_level, branch, branch_level, Branches, branches_of}
use Common.{clause_kind, clauses_of, ClauseTree, compare, compared, Condition, Derivative}
use Common.{derivative, Draft, EachClause, EachEquation, EachStatement, Element, equation_kind}
use Common.{equations_of, EquationTree, false, in_branch, in_clauses, in_condition, in_equations}
use Common.{in_range, in_starts, initial, inl, inr, IsBareClause, IsBareEquation, IsBareStatement}
use Common.{IsCondition, IsItem, IsRange, IsReference, IsStatement, IsSum, Kind, level, List}
use Common.{Listed, listed_end, listed_then, Loop, loop, mark, MaybeString, ModelTree, name}
use Common.{new_branch, new_when, next_branch, no_items, no_more, one_more, OpenBranch, OpenWhen}
use Common.{plain, put_clause, put_equation, put_start, put_statement, Range, range, Reference}
use Common.{refl, Restart, restarted, statement_kind, statements_of, StatementTree, subst, suc, sym}
use Common.{Symbol, true, Whole, with_clause, with_equation, with_initial, with_statement, word}
use Rattle.mu_grammar.specs.Loops.{bare}
use Rattle.mu_grammar.specs.BodyMachine.{end_branch, leave, begin_equation, begin_start}
use Rattle.mu_grammar.specs.BodyMachine.{begin_clause, begin_statement, begin_bare, body_token}
use Rattle.mu_grammar.specs.BodyMachine.{variable_token, target_token, follow_target}
use Rattle.mu_grammar.specs.BodyMachine.{follow_target_name}
use Rattle.mu_grammar.proofs.ConditionsSound.{CloseThen}
use Rattle.mu_grammar.proofs.CompleteLoops.{over}
use Rattle.mu_grammar.proofs.CompleteBodies.{filled_branch, equations_over, statements_over}
use Rattle.mu_grammar.proofs.CompleteBodies.{clauses_over}
use Rattle.mu_grammar.proofs.SoundStates.{Reads, FixedThen, WithinThen, PutThen, LoopsThen}
use Rattle.mu_grammar.proofs.SoundStates.{EquationsThen, StartsThen, ClausesThen, EquationLoops}
use Rattle.mu_grammar.proofs.SoundStates.{StartLoops, ClauseLoops, PutClause, BranchesThen}
use Rattle.mu_grammar.proofs.SoundStates.{BranchEnd, StatementsThen, StatementLoops, BodyThen}
use Rattle.mu_grammar.proofs.SoundStates.{RangeThen, TargetThen, ReferenceThen, CompletesModel}
use Rattle.mu_grammar.proofs.SoundStates.{CompletesEffect}
use Rattle.mu_grammar.proofs.SoundLists.{item_goes_on}
use Rattle.mu_grammar.proofs.SoundDeclarations.{between_follows}
use Rattle.mu_lexer.specs.declared.token.Word.TheVariants as words
use Rattle.mu_lexer.specs.declared.token.Mark.TheVariants as marks
use Rattle.mu_grammar.specs.declared.symbol.Fixed.TheVariants as fixed
use Rattle.mu_grammar.specs.Grammar as grammar
use Rattle.mu_grammar.specs.Bodies as bodies
use Rattle.mu_grammar.specs.ModelGrammar as models

-- a loop whose range and items are read, and what follows it
loop_goes_on : {T Ts : Type 0} (limit d : ℕ) (kind : Kind T Ts) (IsBare : ℕ → List Symbol → List Symbol → T → Type 0) (J : List Symbol → Type 0) (K : T → List Symbol → Type 0) (ls : List (Loop T)) (at : ℕ) (ts mid : List Symbol) (r : Range) →
    ((v : T) (us vs : List Symbol) → IsItem limit kind IsBare d us vs v → K v vs → J us) → level d ls < limit → IsRange limit (suc (level d ls)) ts mid r → WithinThen limit kind IsBare (suc (level d ls)) r [] (PutThen limit d kind IsBare K ls) mid → LoopsThen limit d kind IsBare J K ls (word words.For at ∷ ts)
loop_goes_on limit d kind IsBare J K ls at ts mid r outside less ranges is =
    let first = is.goes_on in
    let second = first.3 in
    let third = second.3 in
    item_goes_on limit d kind IsBare J K ls (kind.each r is.value) (word words.For at ∷ ts) third.1 (outside (kind.each r is.value) (word words.For at ∷ ts) third.1)
    (loop less ranges (subst (λ us. AreItems limit kind IsBare (suc (level d ls)) mid us is.value) (first.2 ∙ ap (λ us. word words.End first.0 ∷ us) (second.2 ∙ ap (λ us. word words.For second.0 ∷ us) third.2)) is.reads)) third.3

-- the end of a loop, and what follows it
end_goes_on : {T Ts : Type 0} (limit d : ℕ) (kind : Kind T Ts) (IsBare : ℕ → List Symbol → List Symbol → T → Type 0) (K : T → List Symbol → Type 0) (l : Loop T) (ls : List (Loop T)) (at : ℕ) (ts : List Symbol) →
    FixedThen fixed.ForWord (FixedThen fixed.Semicolon (PutThen limit d kind IsBare K ls (kind.each l.range (over kind l.items kind.none)))) ts → WithinThen limit kind IsBare (suc (level d ls)) l.range l.items (PutThen limit d kind IsBare K ls) (word words.End at ∷ ts)
end_goes_on limit d kind IsBare K l ls at ts is = record { value = kind.none; end = word words.End at ∷ ts; reads = no_items; goes_on = (at, ts, refl, is) }

module _ (limit : ℕ) (out : ModelTree) where
  -- one more item of a section
  adds_equation : (d : Draft) (v : EquationTree) (ts mid : List Symbol) → IsItem limit equation_kind (IsBareEquation limit) 0 ts mid v → EquationsThen limit out (with_equation d v) mid → EquationsThen limit out d ts
  adds_equation d v ts mid item is = record { value = is.value; end = is.end; reads = one_more (models.adds_equation item) is.reads; goes_on = is.goes_on }

  adds_start : (d : Draft) (v : StatementTree) (ts mid : List Symbol) → IsItem limit statement_kind (IsBareStatement limit false) 0 ts mid v → StartsThen limit out (with_initial d v) mid → StartsThen limit out d ts
  adds_start d v ts mid item is = record { value = is.value; end = is.end; reads = one_more (models.adds_start item) is.reads; goes_on = is.goes_on }

  adds_clause : (d : Draft) (v : ClauseTree) (ts mid : List Symbol) → IsItem limit clause_kind (IsBareClause limit) 0 ts mid v → ClausesThen limit out (with_clause d v) mid → ClausesThen limit out d ts
  adds_clause d v ts mid item is = record { value = is.value; end = is.end; reads = one_more (models.adds_clause item) is.reads; goes_on = is.goes_on }

  adds_statement : (b : OpenBranch) (v : StatementTree) (ts mid : List Symbol) → IsStatement limit true (branch_level b) ts mid v → StatementsThen limit out (with_statement b v) mid → StatementsThen limit out b ts
  adds_statement b v ts mid item is = record {
    value = v ∷ is.value;
    end = is.end;
    reads = listed_then item is.reads;
    goes_on = subst (λ us. BranchEnd limit out (filled_branch b.clause b.branch.condition us) is.end) (append_assoc b.branch.body (v ∷ []) is.value) is.goes_on;
  }

  -- an item that was put into its loops
  put_equation_then : (d : Draft) (ls : List (Loop EquationTree)) (v : EquationTree) (ts : List Symbol) → BodyThen limit out (put_equation d ls v) ts → PutThen limit 0 equation_kind (IsBareEquation limit) (λ v. EquationsThen limit out (with_equation d v)) ls v ts
  put_equation_then d [] v ts is = is
  put_equation_then d (l ∷ ls) v ts is = is

  put_start_then : (d : Draft) (ls : List (Loop StatementTree)) (v : StatementTree) (ts : List Symbol) → BodyThen limit out (put_start d ls v) ts → PutThen limit 0 statement_kind (IsBareStatement limit false) (λ v. StartsThen limit out (with_initial d v)) ls v ts
  put_start_then d [] v ts is = is
  put_start_then d (l ∷ ls) v ts is = is

  put_clause_then : (d : Draft) (ls : List (Loop ClauseTree)) (v : ClauseTree) (ts : List Symbol) → BodyThen limit out (put_clause d ls v) ts → PutClause limit out d ls v ts
  put_clause_then d [] v ts is = is
  put_clause_then d (l ∷ ls) v ts is = is

  put_statement_then : (b : OpenBranch) (ls : List (Loop StatementTree)) (v : StatementTree) (ts : List Symbol) → BodyThen limit out (put_statement b ls v) ts → PutThen limit (branch_level b) statement_kind (IsBareStatement limit true) (λ v. StatementsThen limit out (with_statement b v)) ls v ts
  put_statement_then b [] v ts is = is
  put_statement_then b (l ∷ ls) v ts is = is

  -- after a reference
  pub target_follows : (r : Reference) (a : Aim) (x : Symbol) (ts : List Symbol) → CompletesEffect limit out (follow_target r a x) ts → TargetThen limit out r a (x ∷ ts)
  target_follows r (plain d ls) (mark marks.Equal at) ts (end, e, sum, is) = (at, ts, refl, record { value = e; end = end; reads = sum; goes_on = is })
  target_follows r (derivative d ls) (mark marks.CloseRound at) ts (k, us, token, (end, e, sum, is)) = (at, ts, refl, (k, us, token, record { value = e; end = end; reads = sum; goes_on = is }))
  target_follows r (initial d ls) (mark marks.Assign at) ts (end, e, sum, is) = (at, ts, refl, record { value = e; end = end; reads = sum; goes_on = is })
  target_follows r (assigned b ls) (mark marks.Assign at) ts (end, e, sum, is) = (at, ts, refl, record { value = e; end = end; reads = sum; goes_on = is })
  target_follows r (restarted b ls) (mark marks.Comma at) ts (end, e, sum, is) = (at, ts, refl, record { value = e; end = end; reads = sum; goes_on = is })
  target_follows r (plain d ls) x ts is = absurd is
  target_follows r (derivative d ls) x ts is = absurd is
  target_follows r (initial d ls) x ts is = absurd is
  target_follows r (assigned b ls) x ts is = absurd is
  target_follows r (restarted b ls) x ts is = absurd is

  pub target_name_follows : (n : List ℕ) (i : ℕ) (a : Aim) (x : Symbol) (ts : List Symbol) → CompletesEffect limit out (follow_target_name n i a x) ts → ReferenceThen limit out a (name n i ∷ x ∷ ts)
  target_name_follows n i a (mark marks.OpenSquare at) ts (less, (end, e, sum, (k, rest, token, is))) = record {
    value = Element n e i;
    end = rest;
    reads = grammar.element less (subst (λ us. IsSum limit (suc (aim_level a)) ts us e) token sum);
    goes_on = is;
  }
  target_name_follows n i a x ts is = record { value = Whole n i; end = x ∷ ts; reads = grammar.whole; goes_on = target_follows (Whole n i) a x ts is }

  pub target_begins : (a : Aim) (x : Symbol) (ts : List Symbol) → CompletesEffect limit out (target_token a x) ts → ReferenceThen limit out a (x ∷ ts)
  target_begins a (name n at) ts is = is
  target_begins a x ts is = absurd is

  -- the range of a loop
  pub variable_begins : (b : Body) (x : Symbol) (ts : List Symbol) → CompletesEffect limit out (variable_token b x) ts → RangeThen limit out b (x ∷ ts)
  variable_begins b (name n at) ts (i, us, first, (end, e, sum, (j, vs, colon, last))) =
      let next = last.goes_on in
      record {
        value = range n at e last.value;
        end = next.1;
        reads = subst (λ ws. IsRange limit (suc (body_level b)) (name n at ∷ ws) next.1 (range n at e last.value)) (sym first) (in_range (subst (λ ws. IsSum limit (suc (body_level b)) us ws e) colon sum) (subst (λ ws. IsSum limit (suc (body_level b)) vs ws last.value) next.2 last.reads));
        goes_on = next.3;
      }
  variable_begins b x ts is = absurd is

  -- an equation
  derivative_then : (d : Draft) (ls : List (Loop EquationTree)) (at : ℕ) (ts : List Symbol) → level 0 ls < limit → FixedThen fixed.OpenBracket (ReferenceThen limit out (derivative d ls)) ts → EquationLoops limit out d ls (word words.Der at ∷ ts)
  derivative_then d ls at ts less (i, us, opens, target) =
      let closes = target.goes_on in
      let equals = closes.3 in
      let side = equals.3 in
      let titled = side.goes_on in
      let ends = titled.2 in
      let v = Derivative target.value side.value in
      item_goes_on limit 0 equation_kind (IsBareEquation limit) (EquationsThen limit out d) (λ v. EquationsThen limit out (with_equation d v)) ls v (word words.Der at ∷ ts) ends.1 (adds_equation d v (word words.Der at ∷ ts) ends.1)
      (bare (subst (λ ws. IsBareEquation limit (level 0 ls) (word words.Der at ∷ ws) ends.1 v) (sym opens) (bodies.derivative less
      (subst (λ ws. IsReference limit (suc (level 0 ls)) us ws target.value) (closes.2 ∙ ap (λ ws. mark marks.CloseRound closes.0 ∷ ws) equals.2) target.reads)
      side.reads (subst (λ ws. MaybeString side.end ws) ends.2 titled.1))))
      (put_equation_then d ls v ends.1 ends.3)

  algebraic_then : (d : Draft) (ls : List (Loop EquationTree)) (ts : List Symbol) → ReferenceThen limit out (plain d ls) ts → EquationLoops limit out d ls ts
  algebraic_then d ls ts target =
      let equals = target.goes_on in
      let side = equals.3 in
      let titled = side.goes_on in
      let ends = titled.2 in
      let v = Algebraic target.value side.value in
      item_goes_on limit 0 equation_kind (IsBareEquation limit) (EquationsThen limit out d) (λ v. EquationsThen limit out (with_equation d v)) ls v ts ends.1 (adds_equation d v ts ends.1)
      (bare (bodies.algebraic (subst (λ ws. IsReference limit (level 0 ls) ts ws target.value) equals.2 target.reads) side.reads (subst (λ ws. MaybeString side.end ws) ends.2 titled.1)))
      (put_equation_then d ls v ends.1 ends.3)

  leave_equations : (d : Draft) (ls : List (Loop EquationTree)) (x : Symbol) (ts : List Symbol) → CompletesEffect limit out (leave (in_equations d ls) x) ts → EquationLoops limit out d ls (x ∷ ts)
  leave_equations d [] x ts is = record { value = d.held; end = x ∷ ts; reads = no_more; goes_on = between_follows limit out d x ts is }
  leave_equations d (l ∷ ls) (word words.End at) ts (i, us, first, (j, vs, second, is)) =
      end_goes_on limit 0 equation_kind (IsBareEquation limit) (λ v. EquationsThen limit out (with_equation d v)) l ls at ts
      (i, us, first, (j, vs, second, subst (λ ws. PutThen limit 0 equation_kind (IsBareEquation limit) (λ v. EquationsThen limit out (with_equation d v)) ls (EachEquation l.range ws) vs) (sym (equations_over l.items)) (put_equation_then d ls (EachEquation l.range (equations_of l.items)) vs is)))
  leave_equations d (l ∷ ls) x ts is = absurd is

  equation_begins : (d : Draft) (ls : List (Loop EquationTree)) (x : Symbol) (ts : List Symbol) → CompletesEffect limit out (begin_equation d ls x) ts → EquationLoops limit out d ls (x ∷ ts)
  equation_begins d ls (word words.Der at) ts (less, is) = derivative_then d ls at ts less is
  equation_begins d ls (name n at) ts is = algebraic_then d ls (name n at ∷ ts) is
  equation_begins d ls x ts is = leave_equations d ls x ts is

  -- a start
  start_then : (d : Draft) (ls : List (Loop StatementTree)) (ts : List Symbol) → ReferenceThen limit out (initial d ls) ts → StartLoops limit out d ls ts
  start_then d ls ts target =
      let sets = target.goes_on in
      let side = sets.3 in
      let ends = side.goes_on in
      let v = Assign target.value side.value in
      item_goes_on limit 0 statement_kind (IsBareStatement limit false) (StartsThen limit out d) (λ v. StartsThen limit out (with_initial d v)) ls v ts ends.1 (adds_start d v ts ends.1)
      (bare (bodies.assign (subst (λ ws. IsReference limit (level 0 ls) ts ws target.value) sets.2 target.reads) (subst (λ ws. IsSum limit (level 0 ls) sets.1 ws side.value) ends.2 side.reads)))
      (put_start_then d ls v ends.1 ends.3)

  leave_starts : (d : Draft) (ls : List (Loop StatementTree)) (x : Symbol) (ts : List Symbol) → CompletesEffect limit out (leave (in_starts d ls) x) ts → StartLoops limit out d ls (x ∷ ts)
  leave_starts d [] x ts is = record { value = d.held; end = x ∷ ts; reads = no_more; goes_on = between_follows limit out d x ts is }
  leave_starts d (l ∷ ls) (word words.End at) ts (i, us, first, (j, vs, second, is)) =
      end_goes_on limit 0 statement_kind (IsBareStatement limit false) (λ v. StartsThen limit out (with_initial d v)) l ls at ts
      (i, us, first, (j, vs, second, subst (λ ws. PutThen limit 0 statement_kind (IsBareStatement limit false) (λ v. StartsThen limit out (with_initial d v)) ls (EachStatement l.range ws) vs) (sym (statements_over l.items)) (put_start_then d ls (EachStatement l.range (statements_of l.items)) vs is)))
  leave_starts d (l ∷ ls) x ts is = absurd is

  start_begins : (d : Draft) (ls : List (Loop StatementTree)) (x : Symbol) (ts : List Symbol) → CompletesEffect limit out (begin_start d ls x) ts → StartLoops limit out d ls (x ∷ ts)
  start_begins d ls (name n at) ts is = start_then d ls (name n at ∷ ts) is
  start_begins d ls x ts is = leave_starts d ls x ts is

  -- a condition, and what follows it
  condition_then : (w : OpenWhen) (ts : List Symbol) → CompletesModel limit out (in_condition w (before [])) ts → Reads (IsCondition limit (suc (level 0 w.loops))) (CloseThen (λ c. StatementsThen limit out (new_branch w c)) 0) ts
  condition_then w ts (inl (end, e, sum, is)) = record { value = compared e is.rel is.value is.at; end = is.end; reads = compare (subst (λ us. IsSum limit (suc (level 0 w.loops)) ts us e) is.tokens sum) is.found is.reads; goes_on = is.goes_on }
  condition_then w ts (inr (end, c, condition, is)) = record { value = c; end = end; reads = condition; goes_on = is }

  -- the branches of a clause after its word
  pub branches_then : (w : OpenWhen) (ts : List Symbol) → CompletesModel limit out (in_condition w (before [])) ts → BranchesThen limit out w ts
  branches_then w ts is = by (condition_then w ts is)
    where
      by : Reads (IsCondition limit (suc (level 0 w.loops))) (CloseThen (λ c. StatementsThen limit out (new_branch w c)) 0) ts → BranchesThen limit out w ts
      by condition = statements condition.value condition.goes_on.0 condition.goes_on.1 (subst (λ us. IsCondition limit (suc (level 0 w.loops)) ts us condition.value) condition.goes_on.2 condition.reads) condition.goes_on.3
        where
          ending : (c : Condition) (i : ℕ) (us end : List Symbol) (body : List StatementTree) → IsCondition limit (suc (level 0 w.loops)) ts (word words.Then i ∷ us) c → Listed (IsStatement limit true (suc (level 0 w.loops))) us end body → BranchEnd limit out (filled_branch w c body) end → BranchesThen limit out w ts
          ending c i us end body condition body_reads (inl (j, vs, first, (k, ws, second, (l, rest, third, is)))) = record {
            value = branch c body ∷ [];
            end = rest;
            reads = bodies.last_branch condition (subst (λ xs. Listed (IsStatement limit true (suc (level 0 w.loops))) us xs body) (first ∙ ap (λ xs. word words.End j ∷ xs) (second ∙ ap (λ xs. word words.When k ∷ xs) third)) body_reads);
            goes_on = is;
          }
          ending c i us end body condition body_reads (inr (j, vs, first, more)) = record {
            value = branch c body ∷ more.value;
            end = more.end;
            reads = bodies.branch_then condition (subst (λ xs. Listed (IsStatement limit true (suc (level 0 w.loops))) us xs body) first body_reads) more.reads;
            goes_on = subst (λ bs. PutClause limit out w.draft w.loops (Branches bs) more.end) (append_assoc w.branches (branch c body ∷ []) more.value) more.goes_on;
          }

          statements : (c : Condition) (i : ℕ) (us : List Symbol) → IsCondition limit (suc (level 0 w.loops)) ts (word words.Then i ∷ us) c → StatementsThen limit out (new_branch w c) us → BranchesThen limit out w ts
          statements c i us condition is = ending c i us is.end is.value condition is.reads is.goes_on

  -- a clause
  clause_then : (d : Draft) (ls : List (Loop ClauseTree)) (at : ℕ) (ts : List Symbol) → level 0 ls < limit → BranchesThen limit out (new_when d ls) ts → ClauseLoops limit out d ls (word words.When at ∷ ts)
  clause_then d ls at ts less is =
      item_goes_on limit 0 clause_kind (IsBareClause limit) (ClausesThen limit out d) (λ v. ClausesThen limit out (with_clause d v)) ls (Branches is.value) (word words.When at ∷ ts) is.end (adds_clause d (Branches is.value) (word words.When at ∷ ts) is.end)
      (bare (bodies.when less is.reads)) is.goes_on

  leave_clauses : (d : Draft) (ls : List (Loop ClauseTree)) (x : Symbol) (ts : List Symbol) → CompletesEffect limit out (leave (in_clauses d ls) x) ts → ClauseLoops limit out d ls (x ∷ ts)
  leave_clauses d [] x ts is = record { value = d.held; end = x ∷ ts; reads = no_more; goes_on = between_follows limit out d x ts is }
  leave_clauses d (l ∷ ls) (word words.End at) ts (i, us, first, (j, vs, second, is)) =
      end_goes_on limit 0 clause_kind (IsBareClause limit) (λ v. ClausesThen limit out (with_clause d v)) l ls at ts
      (i, us, first, (j, vs, second, subst (λ ws. PutThen limit 0 clause_kind (IsBareClause limit) (λ v. ClausesThen limit out (with_clause d v)) ls (EachClause l.range ws) vs) (sym (clauses_over l.items)) (put_clause_then d ls (EachClause l.range (clauses_of l.items)) vs is)))
  leave_clauses d (l ∷ ls) x ts is = absurd is

  clause_begins : (d : Draft) (ls : List (Loop ClauseTree)) (x : Symbol) (ts : List Symbol) → CompletesEffect limit out (begin_clause d ls x) ts → ClauseLoops limit out d ls (x ∷ ts)
  clause_begins d ls (word words.When at) ts (less, is) = clause_then d ls at ts less (branches_then (new_when d ls) ts is)
  clause_begins d ls x ts is = leave_clauses d ls x ts is

  -- a statement
  assign_then : (b : OpenBranch) (ls : List (Loop StatementTree)) (ts : List Symbol) → ReferenceThen limit out (assigned b ls) ts → StatementLoops limit out b ls ts
  assign_then b ls ts target =
      let sets = target.goes_on in
      let side = sets.3 in
      let ends = side.goes_on in
      let v = Assign target.value side.value in
      item_goes_on limit (branch_level b) statement_kind (IsBareStatement limit true) (StatementsThen limit out b) (λ v. StatementsThen limit out (with_statement b v)) ls v ts ends.1 (adds_statement b v ts ends.1)
      (bare (bodies.assign (subst (λ ws. IsReference limit (level (branch_level b) ls) ts ws target.value) sets.2 target.reads) (subst (λ ws. IsSum limit (level (branch_level b) ls) sets.1 ws side.value) ends.2 side.reads)))
      (put_statement_then b ls v ends.1 ends.3)

  restart_then : (b : OpenBranch) (ls : List (Loop StatementTree)) (at : ℕ) (ts : List Symbol) → level (branch_level b) ls < limit → FixedThen fixed.OpenBracket (ReferenceThen limit out (restarted b ls)) ts → StatementLoops limit out b ls (word words.Reinit at ∷ ts)
  restart_then b ls at ts less (i, us, opens, target) =
      let comma = target.goes_on in
      let side = comma.3 in
      let closes = side.goes_on in
      let ends = closes.3 in
      let v = Restart target.value side.value in
      item_goes_on limit (branch_level b) statement_kind (IsBareStatement limit true) (StatementsThen limit out b) (λ v. StatementsThen limit out (with_statement b v)) ls v (word words.Reinit at ∷ ts) ends.1 (adds_statement b v (word words.Reinit at ∷ ts) ends.1)
      (bare (subst (λ ws. IsBareStatement limit true (level (branch_level b) ls) (word words.Reinit at ∷ ws) ends.1 v) (sym opens) (bodies.restart refl less
      (subst (λ ws. IsReference limit (suc (level (branch_level b) ls)) us ws target.value) comma.2 target.reads)
      (subst (λ ws. IsSum limit (suc (level (branch_level b) ls)) comma.1 ws side.value) (closes.2 ∙ ap (λ ws. mark marks.CloseRound closes.0 ∷ ws) ends.2) side.reads))))
      (put_statement_then b ls v ends.1 ends.3)

  branch_ends : (b : OpenBranch) (x : Symbol) (ts : List Symbol) → CompletesEffect limit out (end_branch b x) ts → BranchEnd limit out b (x ∷ ts)
  branch_ends b (word words.Elsewhen at) ts is = inr (at, ts, refl, branches_then (next_branch b) ts is)
  branch_ends b (word words.End at) ts (i, us, first, (j, vs, second, is)) = inl (at, ts, refl, (i, us, first, (j, vs, second, put_clause_then b.clause.draft b.clause.loops (Branches (branches_of b)) vs is)))
  branch_ends b x ts is = absurd is

  leave_statements : (b : OpenBranch) (ls : List (Loop StatementTree)) (x : Symbol) (ts : List Symbol) → CompletesEffect limit out (leave (in_branch b ls) x) ts → StatementLoops limit out b ls (x ∷ ts)
  leave_statements b [] x ts is = record { value = []; end = x ∷ ts; reads = listed_end; goes_on = subst (λ us. BranchEnd limit out (filled_branch b.clause b.branch.condition us) (x ∷ ts)) (sym (append-nil b.branch.body)) (branch_ends b x ts is) }
  leave_statements b (l ∷ ls) (word words.End at) ts (i, us, first, (j, vs, second, is)) =
      end_goes_on limit (branch_level b) statement_kind (IsBareStatement limit true) (λ v. StatementsThen limit out (with_statement b v)) l ls at ts
      (i, us, first, (j, vs, second, subst (λ ws. PutThen limit (branch_level b) statement_kind (IsBareStatement limit true) (λ v. StatementsThen limit out (with_statement b v)) ls (EachStatement l.range ws) vs) (sym (statements_over l.items)) (put_statement_then b ls (EachStatement l.range (statements_of l.items)) vs is)))
  leave_statements b (l ∷ ls) x ts is = absurd is

  statement_begins : (b : OpenBranch) (ls : List (Loop StatementTree)) (x : Symbol) (ts : List Symbol) → CompletesEffect limit out (begin_statement b ls x) ts → StatementLoops limit out b ls (x ∷ ts)
  statement_begins b ls (name n at) ts is = assign_then b ls (name n at ∷ ts) is
  statement_begins b ls (word words.Reinit at) ts (less, is) = restart_then b ls at ts less is
  statement_begins b ls x ts is = leave_statements b ls x ts is

  -- a loop
  loop_begins : (b : Body) (at : ℕ) (ts : List Symbol) → body_level b < limit → RangeThen limit out b ts → BodyThen limit out b (word words.For at ∷ ts)
  loop_begins (in_equations d ls) at ts less is = loop_goes_on limit 0 equation_kind (IsBareEquation limit) (EquationsThen limit out d) (λ v. EquationsThen limit out (with_equation d v)) ls at ts is.end is.value (adds_equation d) less is.reads is.goes_on
  loop_begins (in_starts d ls) at ts less is = loop_goes_on limit 0 statement_kind (IsBareStatement limit false) (StartsThen limit out d) (λ v. StartsThen limit out (with_initial d v)) ls at ts is.end is.value (adds_start d) less is.reads is.goes_on
  loop_begins (in_clauses d ls) at ts less is = loop_goes_on limit 0 clause_kind (IsBareClause limit) (ClausesThen limit out d) (λ v. ClausesThen limit out (with_clause d v)) ls at ts is.end is.value (adds_clause d) less is.reads is.goes_on
  loop_begins (in_branch b ls) at ts less is = loop_goes_on limit (branch_level b) statement_kind (IsBareStatement limit true) (StatementsThen limit out b) (λ v. StatementsThen limit out (with_statement b v)) ls at ts is.end is.value (adds_statement b) less is.reads is.goes_on

  bare_begins : (b : Body) (x : Symbol) (ts : List Symbol) → CompletesEffect limit out (begin_bare b x) ts → BodyThen limit out b (x ∷ ts)
  bare_begins (in_equations d ls) x ts is = equation_begins d ls x ts is
  bare_begins (in_starts d ls) x ts is = start_begins d ls x ts is
  bare_begins (in_clauses d ls) x ts is = clause_begins d ls x ts is
  bare_begins (in_branch b ls) x ts is = statement_begins b ls x ts is

  -- among items
  pub body_follows : (b : Body) (x : Symbol) (ts : List Symbol) → CompletesEffect limit out (body_token b x) ts → BodyThen limit out b (x ∷ ts)
  body_follows b (word words.For at) ts (less, is) = loop_begins b at ts less is
  body_follows b x ts is = bare_begins b x ts is
