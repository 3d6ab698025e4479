-- Parsed equations, statements and clauses parse again from their canonical texts.
use Rattle.mu_grammar.proofs.Common
use Common.{[], ℕ, ◌++◌, ◌<◌, ◌∙◌, ◌∷◌, ◌≡◌, ◌≤◌, a_string, Algebraic, ap, append_assoc}
use Common.{AreBranches, AreItems, arith, Assign, bare, bare_clause, bare_equation, bare_reference}
use Common.{bare_statement, Bool, branch, Branches, BranchTree, clause_kind, clause_then}
use Common.{ClauseTree, codes, compared, Condition, Derivative, EachClause, EachEquation}
use Common.{EachStatement, equation_kind, equation_then, EquationTree, Expression, false, in_range}
use Common.{IsBareClause, IsBareEquation, IsBareStatement, IsClause, IsCondition, IsEquation}
use Common.{IsItem, IsRange, IsStatement, item_then, Kind, List, Listed, listed_end, listed_then}
use Common.{map, Mark, mark, mark_text, MaybeString, name, no_items, no_string, Range, range}
use Common.{Reference, refl, Rel, relation_of, Restart, Some, SpellsToken, statement_kind}
use Common.{statement_then, statements_of, StatementTree, subst, suc, sym, Symbol, Texts, true}
use Common.{word, written, written_clause, written_clauses, written_equation, written_equations}
use Common.{written_statement, written_statements}
use Rattle.mu_tree.specs.Bare.{bare_condition, bare_range, bare_equations, bare_statements}
use Rattle.mu_tree.specs.Bare.{bare_branch, bare_clauses}
use Rattle.mu_tree.specs.Canonical.{relation, written_condition, written_range, end_for}
use Rattle.mu_tree.specs.Canonical.{written_branches}
use Rattle.mu_grammar.specs.Bodies.{derivative, algebraic, assign, restart, last_branch}
use Rattle.mu_grammar.specs.Bodies.{branch_then, when}
use Rattle.mu_grammar.proofs.ReadBackTexts.{past, Laid, laid_end, laid_then, lay_mark, lay_word}
use Rattle.mu_grammar.proofs.ReadBackTexts.{lay_name, lay_both, Repeats, by_rule}
use Rattle.mu_grammar.proofs.ReadBackSums.{Tokens, behind, here, OwnAgain, ReferenceAgain, sum_part}
use Rattle.mu_grammar.proofs.ReadBackSums.{sum_read, reference_read}
use Rattle.mu_lexer.specs.declared.token.Word.TheVariants as words
use Rattle.mu_lexer.specs.declared.token.Mark.TheVariants as marks
use Rattle.mu_lexer.specs.declared.token.Kind.TheVariants as kinds
use Rattle.mu_tree.specs.declared.tree.Rel.TheVariants as rels
use Rattle.mu_grammar.specs.Conditions as conditions
use Rattle.mu_grammar.specs.Loops as loops

pub le_self : (d : ℕ) → d ≤ d
le_self d = omega arith

-- a mark that is a relation is written as that relation
relation_text : (m : Mark) (rel : Rel) → relation_of m ≡ Some rel → relation rel ≡ mark_text m
relation_text marks.Less rel is = let e : rel ≡ rels.Less = cc in ap relation e
relation_text marks.LessEqual rel is = let e : rel ≡ rels.LessEq = cc in ap relation e
relation_text marks.Greater rel is = let e : rel ≡ rels.Greater = cc in ap relation e
relation_text marks.GreaterEqual rel is = let e : rel ≡ rels.GreaterEq = cc in ap relation e
relation_text _ rel is = cc

-- a condition parses again, at this depth and at lesser ones
abbrev ConditionAgain : ℕ → ℕ → Condition → Type 0
ConditionAgain limit d c = (e : ℕ) → e ≤ d → Repeats bare_condition (IsCondition limit e) (written_condition c) c

compared_again : (limit d p : ℕ) (m : Mark) (rel : Rel) (left right : Expression) → relation_of m ≡ Some rel → OwnAgain limit d left → OwnAgain limit d right → ConditionAgain limit d (compared left rel right p)
compared_again limit d p m rel left right is first second = λ e h at after. (
    let r = λ (place : ℕ). sum_part limit d e right second h place after in
    let l = sum_part limit d e left first h at (λ place. mark m place ∷ (r (past place (relation rel))).found) in
    let s = r (past l.end (relation rel)) in
    record {
      end = s.end;
      found = l.found;
      value = compared l.value rel s.value l.end;
      laid = lay_both l.laid (laid_then (kinds.Mark m) (relation_text m rel is) s.laid);
      spelled = conditions.compare l.spelled is s.spelled;
      same = ap (λ x. compared x rel (bare s.value) 0) l.same ∙ ap (λ x. compared (bare left) rel x 0) s.same;
    })

condition_read : {limit d : ℕ} {ts rest : List Symbol} {c : Condition} → IsCondition limit d ts rest c → Tokens ts → Tokens rest × ConditionAgain limit d c
condition_read (conditions.compare {m = m} left is right) all = (
    let a = sum_read left all in
    let b = sum_read right (behind a.0) in
    (b.0, compared_again _ _ _ m _ _ _ is a.1 b.1))
condition_read (conditions.brackets less c) all = (let a = condition_read c (behind all) in (behind a.0, λ e h. a.1 e (omega arith)))

-- the texts of a loop's head after its word
abbrev range_text : Range → Texts
range_text r = r.var ∷ codes "in" ∷ written r.from ++ codes ":" ∷ written r.to ++ codes "loop" ∷ []

abbrev RangeAgain : ℕ → ℕ → Range → Type 0
RangeAgain limit d r = Repeats bare_range (IsRange limit d) (range_text r) r

range_again : (limit d p : ℕ) (n : List ℕ) (from to : Expression) → SpellsToken kinds.Ident n → OwnAgain limit d from → OwnAgain limit d to → RangeAgain limit d (range n p from to)
range_again limit d p n from to spelled first second = λ at after. (
    let r = λ (place : ℕ). sum_part limit d d to second (le_self d) place (λ q. word words.Loop q ∷ after (past q (codes "loop"))) in
    let l = sum_part limit d d from first (le_self d) (past (past at n) (codes "in")) (λ place. mark marks.Colon place ∷ (r (past place (codes ":"))).found) in
    let s = r (past l.end (codes ":")) in
    record {
      end = past s.end (codes "loop");
      found = name n at ∷ word words.In (past at n) ∷ l.found;
      value = range n at l.value s.value;
      laid = lay_name spelled (lay_word words.In (lay_both (lay_both l.laid (lay_mark marks.Colon s.laid)) (lay_word words.Loop laid_end)));
      spelled = in_range l.spelled s.spelled;
      same = ap (λ x. range n 0 x (bare s.value)) l.same ∙ ap (λ x. range n 0 (bare from) x) s.same;
    })

range_read : {limit d : ℕ} {ts rest : List Symbol} {r : Range} → IsRange limit d ts rest r → Tokens ts → Tokens rest × RangeAgain limit d r
range_read (in_range from to) all = (
    let a = sum_read from (behind (behind all)) in
    let b = sum_read to (behind a.0) in
    (behind b.0, range_again _ _ _ _ _ _ (here all) a.1 b.1))

-- how items of one kind are written, and what they say without places
pub record Writing {T Ts B Bs : Type 0} (kind : Kind T Ts) (item : T → Texts) (items : Ts → Texts) (say : T → B) (says : Ts → Bs) : Type 0 where
  pub item_each : (r : Range) (vs : Ts) → item (kind.each r vs) ≡ written_range r ++ items vs ++ end_for
  pub items_none : items kind.none ≡ []
  pub items_then : (v : T) (vs : Ts) → items (kind.then v vs) ≡ item v ++ items vs
  pub say_each : (r s : Range) (vs ws : Ts) → bare_range r ≡ bare_range s → says vs ≡ says ws → say (kind.each r vs) ≡ say (kind.each s ws)
  pub says_then : (v w : T) (vs ws : Ts) → say v ≡ say w → says vs ≡ says ws → says (kind.then v vs) ≡ says (kind.then w ws)

module _ {T Ts B Bs : Type 0} (limit : ℕ) (kind : Kind T Ts) (item : T → Texts) (items : Ts → Texts) (say : T → B) (says : Ts → Bs) (IsBare : ℕ → List Symbol → List Symbol → T → Type 0) (w : Writing kind item items say says)
    (bare_read : (d : ℕ) (ts rest : List Symbol) (v : T) → IsBare d ts rest v → Tokens ts → Tokens rest × Repeats say (IsBare d) (item v) v) where
  loop_again : (d : ℕ) (r : Range) (vs : Ts) → d < limit → RangeAgain limit (suc d) r → Repeats says (AreItems limit kind IsBare (suc d)) (items vs) vs → Repeats say (IsItem limit kind IsBare d) (item (kind.each r vs)) (kind.each r vs)
  loop_again d r vs less head body = λ at after. (
      let its = λ (place : ℕ). body place (λ q. word words.End q ∷ word words.For (past q (codes "end")) ∷ mark marks.Semicolon (past (past q (codes "end")) (codes "for")) ∷ after (past (past (past q (codes "end")) (codes "for")) (codes ";"))) in
      let h = head (past at (codes "for")) (λ place. (its place).found) in
      let i = its h.end in
      let end = past (past (past i.end (codes "end")) (codes "for")) (codes ";") in
      record {
        end = end;
        found = word words.For at ∷ h.found;
        value = kind.each h.value i.value;
        laid = subst (λ t. Laid at end t (word words.For at ∷ h.found) (after end)) (sym (w.item_each r vs)) (lay_both (lay_both (lay_word words.For h.laid) i.laid) (lay_word words.End (lay_word words.For (lay_mark marks.Semicolon laid_end))));
        spelled = loops.loop less h.spelled i.spelled;
        same = w.say_each h.value r i.value vs h.same i.same;
      })

  none_again : (d : ℕ) → Repeats says (AreItems limit kind IsBare d) (items kind.none) kind.none
  none_again d = λ at after. record { end = at; found = after at; value = kind.none; laid = subst (λ t. Laid at at t (after at) (after at)) (sym w.items_none) laid_end; spelled = no_items; same = refl }

  then_again : (d : ℕ) (v : T) (vs : Ts) → Repeats say (IsItem limit kind IsBare d) (item v) v → Repeats says (AreItems limit kind IsBare d) (items vs) vs → Repeats says (AreItems limit kind IsBare d) (items (kind.then v vs)) (kind.then v vs)
  then_again d v vs first rest = λ at after. (
      let f = first at (λ place. (rest place after).found) in
      let r = rest f.end after in
      record {
        end = r.end;
        found = f.found;
        value = kind.then f.value r.value;
        laid = subst (λ t. Laid at r.end t f.found (after r.end)) (sym (w.items_then v vs)) (lay_both f.laid r.laid);
        spelled = item_then f.spelled r.spelled;
        same = w.says_then f.value v r.value vs f.same r.same;
      })

  mutual
    -- an item parses again
    pub item_read : {d : ℕ} {ts rest : List Symbol} {v : T} → IsItem limit kind IsBare d ts rest v → Tokens ts → Tokens rest × Repeats say (IsItem limit kind IsBare d) (item v) v
    item_read (loops.bare is) all = (let a = bare_read _ _ _ _ is all in (a.0, by_rule (λ ts rest v is. loops.bare is) a.1))
    item_read (loops.loop less head body) all = (
        let a = range_read head (behind all) in
        let b = items_read body a.0 in
        (behind (behind (behind b.0)), loop_again _ _ _ less a.1 b.1))

    items_read : {d : ℕ} {ts rest : List Symbol} {vs : Ts} → AreItems limit kind IsBare d ts rest vs → Tokens ts → Tokens rest × Repeats says (AreItems limit kind IsBare d) (items vs) vs
    items_read no_items all = (all, none_again _)
    items_read (item_then first rest) all = (let a = item_read first all in let b = items_read rest a.0 in (b.0, then_again _ _ _ a.1 b.1))

-- tokens after a string or none
pub behind_string : {ts rest : List Symbol} → MaybeString ts rest → Tokens ts → Tokens rest
behind_string no_string all = all
behind_string a_string all = behind all

equation_writing : Writing equation_kind written_equation written_equations bare_equation bare_equations
equation_writing = record {
  item_each = λ r vs. refl;
  items_none = refl;
  items_then = λ v vs. refl;
  say_each = λ r s vs ws first second. ap (λ x. EachEquation x (bare_equations vs)) first ∙ ap (λ x. EachEquation (bare_range s) x) second;
  says_then = λ v w vs ws first second. ap (λ x. equation_then x (bare_equations vs)) first ∙ ap (λ x. equation_then (bare_equation w) x) second;
}

derivative_again : (limit d : ℕ) (r : Reference) (v : Expression) → d < limit → ReferenceAgain limit (suc d) r → OwnAgain limit d v → Repeats bare_equation (IsBareEquation limit d) (written_equation (Derivative r v)) (Derivative r v)
derivative_again limit d r v less target own = λ at after. (
    let right = λ (place : ℕ). sum_part limit d d v own (le_self d) place (λ q. mark marks.Semicolon q ∷ after (past q (codes ";"))) in
    let t = target (suc d) (le_self (suc d)) (past (past at (codes "der")) (codes "(")) (λ q. mark marks.CloseRound q ∷ mark marks.Equal (past q (codes ")")) ∷ (right (past (past q (codes ")")) (codes "="))).found) in
    let s = right (past (past t.end (codes ")")) (codes "=")) in
    record {
      end = past s.end (codes ";");
      found = word words.Der at ∷ mark marks.OpenRound (past at (codes "der")) ∷ t.found;
      value = Derivative t.value s.value;
      laid = lay_both (lay_both (lay_word words.Der (lay_mark marks.OpenRound (lay_both t.laid (lay_mark marks.CloseRound laid_end)))) (lay_mark marks.Equal s.laid)) (lay_mark marks.Semicolon laid_end);
      spelled = derivative less t.spelled s.spelled no_string;
      same = ap (λ x. Derivative x (bare s.value)) t.same ∙ ap (λ x. Derivative (bare_reference r) x) s.same;
    })

algebraic_again : (limit d : ℕ) (r : Reference) (v : Expression) → ReferenceAgain limit d r → OwnAgain limit d v → Repeats bare_equation (IsBareEquation limit d) (written_equation (Algebraic r v)) (Algebraic r v)
algebraic_again limit d r v target own = λ at after. (
    let right = λ (place : ℕ). sum_part limit d d v own (le_self d) place (λ q. mark marks.Semicolon q ∷ after (past q (codes ";"))) in
    let t = target d (le_self d) at (λ q. mark marks.Equal q ∷ (right (past q (codes "="))).found) in
    let s = right (past t.end (codes "=")) in
    record {
      end = past s.end (codes ";");
      found = t.found;
      value = Algebraic t.value s.value;
      laid = lay_both (lay_both t.laid (lay_mark marks.Equal s.laid)) (lay_mark marks.Semicolon laid_end);
      spelled = algebraic t.spelled s.spelled no_string;
      same = ap (λ x. Algebraic x (bare s.value)) t.same ∙ ap (λ x. Algebraic (bare_reference r) x) s.same;
    })

bare_equation_read : (limit d : ℕ) (ts rest : List Symbol) (v : EquationTree) → IsBareEquation limit d ts rest v → Tokens ts → Tokens rest × Repeats bare_equation (IsBareEquation limit d) (written_equation v) v
bare_equation_read limit d ts rest v (derivative less r s text) all = (
    let a = reference_read r (behind (behind all)) in
    let b = sum_read s (behind (behind a.0)) in
    (behind (behind_string text b.0), derivative_again _ _ _ _ less a.1 b.1))
bare_equation_read limit d ts rest v (algebraic r s text) all = (
    let a = reference_read r all in
    let b = sum_read s (behind a.0) in
    (behind (behind_string text b.0), algebraic_again _ _ _ _ a.1 b.1))

-- an equation parses again
pub equation_read : (limit d : ℕ) (ts rest : List Symbol) (v : EquationTree) → IsEquation limit d ts rest v → Tokens ts → Tokens rest × Repeats bare_equation (IsEquation limit d) (written_equation v) v
equation_read limit d ts rest v is all = item_read limit equation_kind written_equation written_equations bare_equation bare_equations (IsBareEquation limit) equation_writing (bare_equation_read limit) is all

statement_writing : Writing statement_kind written_statement written_statements bare_statement bare_statements
statement_writing = record {
  item_each = λ r vs. refl;
  items_none = refl;
  items_then = λ v vs. refl;
  say_each = λ r s vs ws first second. ap (λ x. EachStatement x (bare_statements vs)) first ∙ ap (λ x. EachStatement (bare_range s) x) second;
  says_then = λ v w vs ws first second. ap (λ x. statement_then x (bare_statements vs)) first ∙ ap (λ x. statement_then (bare_statement w) x) second;
}

assign_again : (limit : ℕ) (may : Bool) (d : ℕ) (r : Reference) (v : Expression) → ReferenceAgain limit d r → OwnAgain limit d v → Repeats bare_statement (IsBareStatement limit may d) (written_statement (Assign r v)) (Assign r v)
assign_again limit may d r v target own = λ at after. (
    let right = λ (place : ℕ). sum_part limit d d v own (le_self d) place (λ q. mark marks.Semicolon q ∷ after (past q (codes ";"))) in
    let t = target d (le_self d) at (λ q. mark marks.Assign q ∷ (right (past q (codes ":="))).found) in
    let s = right (past t.end (codes ":=")) in
    record {
      end = past s.end (codes ";");
      found = t.found;
      value = Assign t.value s.value;
      laid = lay_both (lay_both t.laid (lay_mark marks.Assign s.laid)) (lay_mark marks.Semicolon laid_end);
      spelled = assign t.spelled s.spelled;
      same = ap (λ x. Assign x (bare s.value)) t.same ∙ ap (λ x. Assign (bare_reference r) x) s.same;
    })

restart_again : (limit : ℕ) (may : Bool) (d : ℕ) (r : Reference) (v : Expression) → may ≡ true → d < limit → ReferenceAgain limit (suc d) r → OwnAgain limit (suc d) v → Repeats bare_statement (IsBareStatement limit may d) (written_statement (Restart r v)) (Restart r v)
restart_again limit may d r v allowed less target own = λ at after. (
    let right = λ (place : ℕ). sum_part limit (suc d) (suc d) v own (le_self (suc d)) place (λ q. mark marks.CloseRound q ∷ mark marks.Semicolon (past q (codes ")")) ∷ after (past (past q (codes ")")) (codes ";"))) in
    let t = target (suc d) (le_self (suc d)) (past (past at (codes "reinit")) (codes "(")) (λ q. mark marks.Comma q ∷ (right (past q (codes ","))).found) in
    let s = right (past t.end (codes ",")) in
    record {
      end = past (past s.end (codes ")")) (codes ";");
      found = word words.Reinit at ∷ mark marks.OpenRound (past at (codes "reinit")) ∷ t.found;
      value = Restart t.value s.value;
      laid = lay_both (lay_both (lay_word words.Reinit (lay_mark marks.OpenRound t.laid)) (lay_mark marks.Comma s.laid)) (lay_mark marks.CloseRound (lay_mark marks.Semicolon laid_end));
      spelled = restart allowed less t.spelled s.spelled;
      same = ap (λ x. Restart x (bare s.value)) t.same ∙ ap (λ x. Restart (bare_reference r) x) s.same;
    })

bare_statement_read : (limit : ℕ) (may : Bool) (d : ℕ) (ts rest : List Symbol) (v : StatementTree) → IsBareStatement limit may d ts rest v → Tokens ts → Tokens rest × Repeats bare_statement (IsBareStatement limit may d) (written_statement v) v
bare_statement_read limit may d ts rest v (assign r s) all = (
    let a = reference_read r all in
    let b = sum_read s (behind a.0) in
    (behind b.0, assign_again _ _ _ _ _ a.1 b.1))
bare_statement_read limit may d ts rest v (restart allowed less r s) all = (
    let a = reference_read r (behind (behind all)) in
    let b = sum_read s (behind a.0) in
    (behind (behind b.0), restart_again _ _ _ _ _ allowed less a.1 b.1))

-- a statement parses again
pub statement_read : (limit : ℕ) (may : Bool) (d : ℕ) (ts rest : List Symbol) (v : StatementTree) → IsStatement limit may d ts rest v → Tokens ts → Tokens rest × Repeats bare_statement (IsStatement limit may d) (written_statement v) v
statement_read limit may d ts rest v is all = item_read limit statement_kind written_statement written_statements bare_statement bare_statements (IsBareStatement limit may) statement_writing (bare_statement_read limit may) is all

-- statements in order
statements_listed : (limit : ℕ) (may : Bool) (d : ℕ) (v : StatementTree) (vs : List StatementTree) → Repeats bare_statement (IsStatement limit may d) (written_statement v) v →
    Repeats (map bare_statement) (Listed (IsStatement limit may d)) (written_statements (statements_of vs)) vs → Repeats (map bare_statement) (Listed (IsStatement limit may d)) (written_statements (statements_of (v ∷ vs))) (v ∷ vs)
statements_listed limit may d v vs first rest = λ at after. (
    let f = first at (λ place. (rest place after).found) in
    let r = rest f.end after in
    record {
      end = r.end;
      found = f.found;
      value = f.value ∷ r.value;
      laid = lay_both f.laid r.laid;
      spelled = listed_then f.spelled r.spelled;
      same = ap (λ x. x ∷ map bare_statement r.value) f.same ∙ ap (λ x. bare_statement v ∷ x) r.same;
    })

statements_read : {limit : ℕ} {may : Bool} {d : ℕ} {ts rest : List Symbol} {vs : List StatementTree} → Listed (IsStatement limit may d) ts rest vs → Tokens ts → Tokens rest × Repeats (map bare_statement) (Listed (IsStatement limit may d)) (written_statements (statements_of vs)) vs
statements_read listed_end all = (all, λ at after. record { end = at; found = after at; value = []; laid = laid_end; spelled = listed_end; same = refl })
statements_read (listed_then first rest) all = (
    let a = statement_read _ _ _ _ _ _ first all in
    let b = statements_read rest a.0 in
    (b.0, statements_listed _ _ _ _ _ a.1 b.1))

-- the end of a clause
abbrev end_when : Texts
end_when = codes "end" ∷ codes "when" ∷ codes ";" ∷ []

-- a branch after its word
abbrev branch_text : BranchTree → Texts
branch_text b = written_condition b.condition ++ codes "then" ∷ written_statements (statements_of b.body)

-- the branches of a clause after the first word, with the clause's end
abbrev branches_text : List BranchTree → Texts
branches_text [] = end_when
branches_text (b ∷ bs) = branch_text b ++ (written_branches bs false ++ end_when)

-- further branches with their first word
further : {limit d : ℕ} {ts rest : List Symbol} {bs : List BranchTree} → AreBranches limit d ts rest bs → written_branches bs false ++ end_when ≡ codes "elsewhen" ∷ branches_text bs
further (last_branch {c = c} {body = body} is then) = ap (λ t. codes "elsewhen" ∷ t) (append_assoc (branch_text (branch c body)) [] end_when)
further (branch_then {c = c} {body = body} {bs = bs} is then more) = ap (λ t. codes "elsewhen" ∷ t) (append_assoc (branch_text (branch c body)) (written_branches bs false) end_when)

-- a clause with its first word
clause_text : {limit d : ℕ} {ts rest : List Symbol} {bs : List BranchTree} → AreBranches limit d ts rest bs → written_clause (Branches bs) ≡ codes "when" ∷ branches_text bs
clause_text (last_branch {c = c} {body = body} is then) = ap (λ t. codes "when" ∷ t) (append_assoc (branch_text (branch c body)) [] end_when)
clause_text (branch_then {c = c} {body = body} {bs = bs} is then more) = ap (λ t. codes "when" ∷ t) (append_assoc (branch_text (branch c body)) (written_branches bs false) end_when)

abbrev BodyAgain : ℕ → ℕ → List StatementTree → Type 0
BodyAgain limit d vs = Repeats (map bare_statement) (Listed (IsStatement limit true d)) (written_statements (statements_of vs)) vs

last_again : (limit d : ℕ) (c : Condition) (body : List StatementTree) → ConditionAgain limit d c → BodyAgain limit d body → Repeats (map bare_branch) (AreBranches limit d) (branches_text (branch c body ∷ [])) (branch c body ∷ [])
last_again limit d c body holds acts = λ at after. (
    let b = λ (place : ℕ). acts place (λ q. word words.End q ∷ word words.When (past q (codes "end")) ∷ mark marks.Semicolon (past (past q (codes "end")) (codes "when")) ∷ after (past (past (past q (codes "end")) (codes "when")) (codes ";"))) in
    let h = holds d (le_self d) at (λ place. word words.Then place ∷ (b (past place (codes "then"))).found) in
    let s = b (past h.end (codes "then")) in
    record {
      end = past (past (past s.end (codes "end")) (codes "when")) (codes ";");
      found = h.found;
      value = branch h.value s.value ∷ [];
      laid = lay_both (lay_both h.laid (lay_word words.Then s.laid)) (lay_word words.End (lay_word words.When (lay_mark marks.Semicolon laid_end)));
      spelled = last_branch h.spelled s.spelled;
      same = ap (λ (x : Condition). record { condition = x; body = map bare_statement s.value } ∷ []) h.same ∙ ap (λ (x : List StatementTree). record { condition = bare_condition c; body = x } ∷ []) s.same;
    })

more_again : (limit d : ℕ) (c : Condition) (body : List StatementTree) (bs : List BranchTree) → written_branches bs false ++ end_when ≡ codes "elsewhen" ∷ branches_text bs → ConditionAgain limit d c → BodyAgain limit d body →
    Repeats (map bare_branch) (AreBranches limit d) (branches_text bs) bs → Repeats (map bare_branch) (AreBranches limit d) (branches_text (branch c body ∷ bs)) (branch c body ∷ bs)
more_again limit d c body bs text holds acts rest = λ at after. (
    let more = λ (place : ℕ). rest place after in
    let b = λ (place : ℕ). acts place (λ q. word words.Elsewhen q ∷ (more (past q (codes "elsewhen"))).found) in
    let h = holds d (le_self d) at (λ place. word words.Then place ∷ (b (past place (codes "then"))).found) in
    let s = b (past h.end (codes "then")) in
    let m = more (past s.end (codes "elsewhen")) in
    record {
      end = m.end;
      found = h.found;
      value = branch h.value s.value ∷ m.value;
      laid = lay_both (lay_both h.laid (lay_word words.Then s.laid)) (subst (λ t. Laid s.end m.end t (word words.Elsewhen s.end ∷ m.found) (after m.end)) (sym text) (lay_word words.Elsewhen m.laid));
      spelled = branch_then h.spelled s.spelled m.spelled;
      same = ap (λ (x : Condition). record { condition = x; body = map bare_statement s.value } ∷ map bare_branch m.value) h.same
          ∙ ap (λ (x : List StatementTree). record { condition = bare_condition c; body = x } ∷ map bare_branch m.value) s.same ∙ ap (λ xs. bare_branch (branch c body) ∷ xs) m.same;
    })

branches_read : {limit d : ℕ} {ts rest : List Symbol} {bs : List BranchTree} → AreBranches limit d ts rest bs → Tokens ts → Tokens rest × Repeats (map bare_branch) (AreBranches limit d) (branches_text bs) bs
branches_read (last_branch c body) all = (
    let a = condition_read c all in
    let b = statements_read body (behind a.0) in
    (behind (behind (behind b.0)), last_again _ _ _ _ a.1 b.1))
branches_read (branch_then c body more) all = (
    let a = condition_read c all in
    let b = statements_read body (behind a.0) in
    let m = branches_read more (behind b.0) in
    (m.0, more_again _ _ _ _ _ (further more) a.1 b.1 m.1))

clause_writing : Writing clause_kind written_clause written_clauses bare_clause bare_clauses
clause_writing = record {
  item_each = λ r vs. refl;
  items_none = refl;
  items_then = λ v vs. refl;
  say_each = λ r s vs ws first second. ap (λ x. EachClause x (bare_clauses vs)) first ∙ ap (λ x. EachClause (bare_range s) x) second;
  says_then = λ v w vs ws first second. ap (λ x. clause_then x (bare_clauses vs)) first ∙ ap (λ x. clause_then (bare_clause w) x) second;
}

when_again : (limit d : ℕ) (bs : List BranchTree) → written_clause (Branches bs) ≡ codes "when" ∷ branches_text bs → d < limit → Repeats (map bare_branch) (AreBranches limit (suc d)) (branches_text bs) bs → Repeats bare_clause (IsBareClause limit d) (written_clause (Branches bs)) (Branches bs)
when_again limit d bs text less again = λ at after. (
    let b = again (past at (codes "when")) after in
    record {
      end = b.end;
      found = word words.When at ∷ b.found;
      value = Branches b.value;
      laid = subst (λ t. Laid at b.end t (word words.When at ∷ b.found) (after b.end)) (sym text) (lay_word words.When b.laid);
      spelled = when less b.spelled;
      same = ap Branches b.same;
    })

bare_clause_read : (limit d : ℕ) (ts rest : List Symbol) (v : ClauseTree) → IsBareClause limit d ts rest v → Tokens ts → Tokens rest × Repeats bare_clause (IsBareClause limit d) (written_clause v) v
bare_clause_read limit d ts rest v (when less bs) all = (let a = branches_read bs (behind all) in (a.0, when_again _ _ _ (clause_text bs) less a.1))

-- a clause parses again
pub clause_read : (limit d : ℕ) (ts rest : List Symbol) (v : ClauseTree) → IsClause limit d ts rest v → Tokens ts → Tokens rest × Repeats bare_clause (IsClause limit d) (written_clause v) v
clause_read limit d ts rest v is all = item_read limit clause_kind written_clause written_clauses bare_clause bare_clauses (IsBareClause limit) clause_writing (bare_clause_read limit) is all
