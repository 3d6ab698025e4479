-- Parsed models parse again from their canonical texts.
use Rattle.mu_grammar.proofs.Common
use Common.{[], ℕ, ◌++◌, ◌∙◌, ◌∷◌, ◌≡◌, AddsClause, AddsEquation, AddsStart, All, AllByRecursion}
use Common.{ap, append-nil, append_assoc, bare_clause, bare_declaration, bare_equation}
use Common.{bare_setting, bare_statement, clauses_of, ClauseTree, codes, equations_of, EquationTree}
use Common.{false, IsClause, IsEquation, IsHead, IsSection, IsStatement, IsToken, List, map, mark}
use Common.{model_of, ModelTree, name, no_more, no_string, one_more, refl, Runs, Sections, sections}
use Common.{SpellsModel, SpellsToken, statements_of, StatementTree, subst, sym, Symbol, word}
use Common.{written_clause, written_clauses, written_equation, written_equations, written_statement}
use Common.{written_statements}
use Rattle.mu_tree.specs.Bare.{bare_model}
use Rattle.mu_tree.specs.Canonical.{section, written_model}
use Rattle.mu_grammar.specs.ModelGrammar.{adds_equation, adds_clause, adds_start, equations}
use Rattle.mu_grammar.specs.ModelGrammar.{clauses, starts, model}
use Rattle.mu_grammar.specs.ReadBack.{ReadsBack}
use Rattle.mu_grammar.proofs.ReadBackTexts.{past, laid_end, lay_mark, lay_word, lay_name, lay_both}
use Rattle.mu_grammar.proofs.ReadBackTexts.{Again, Repeats, laid_source}
use Rattle.mu_grammar.proofs.ReadBackSums.{Tokens, tokens_of, behind, here}
use Rattle.mu_grammar.proofs.ReadBackBodies.{behind_string, equation_read, statement_read}
use Rattle.mu_grammar.proofs.ReadBackBodies.{clause_read}
use Rattle.mu_grammar.proofs.ReadBackDeclarations.{all_more, runs_keep, GoodSetting}
use Rattle.mu_grammar.proofs.ReadBackDeclarations.{GoodDeclaration, head_read, annotation_read}
use Rattle.mu_grammar.proofs.ReadBackHeads.{declarations_again, annotation_again}
use Rattle.mu_lexer.specs.declared.token.Word.TheVariants as words
use Rattle.mu_lexer.specs.declared.token.Mark.TheVariants as marks
use Rattle.mu_lexer.specs.declared.token.Kind.TheVariants as kinds

abbrev GoodEquation : ℕ → EquationTree → Type 0
GoodEquation limit e = Repeats bare_equation (IsEquation limit 0) (written_equation e) e

abbrev GoodStart : ℕ → StatementTree → Type 0
GoodStart limit s = Repeats bare_statement (IsStatement limit false 0) (written_statement s) s

abbrev GoodClause : ℕ → ClauseTree → Type 0
GoodClause limit c = Repeats bare_clause (IsClause limit 0) (written_clause c) c

-- what the sections hold parses again
record GoodSections (limit : ℕ) (s : Sections) : Type 0 where
  starts : AllByRecursion (GoodStart limit) s.starts
  equations : AllByRecursion (GoodEquation limit) s.equations
  clauses : AllByRecursion (GoodClause limit) s.clauses

equation_kept : (limit : ℕ) (s t : Sections) (ts rest : List Symbol) → AddsEquation limit s ts rest t → Tokens ts → GoodSections limit s → Tokens rest × GoodSections limit t
equation_kept limit s t ts rest (adds_equation {e = e} is) all good = (
    let a = equation_read _ _ _ _ _ is all in
    (a.0, record { starts = good.starts; equations = all_more (GoodEquation limit) s.equations e good.equations a.1; clauses = good.clauses }))

start_kept : (limit : ℕ) (s t : Sections) (ts rest : List Symbol) → AddsStart limit s ts rest t → Tokens ts → GoodSections limit s → Tokens rest × GoodSections limit t
start_kept limit s t ts rest (adds_start {v = v} is) all good = (
    let a = statement_read _ _ _ _ _ _ is all in
    (a.0, record { starts = all_more (GoodStart limit) s.starts v good.starts a.1; equations = good.equations; clauses = good.clauses }))

clause_kept : (limit : ℕ) (s t : Sections) (ts rest : List Symbol) → AddsClause limit s ts rest t → Tokens ts → GoodSections limit s → Tokens rest × GoodSections limit t
clause_kept limit s t ts rest (adds_clause {c = c} is) all good = (
    let a = clause_read _ _ _ _ _ is all in
    (a.0, record { starts = good.starts; equations = good.equations; clauses = all_more (GoodClause limit) s.clauses c good.clauses a.1 }))

section_kept : (limit : ℕ) (s t : Sections) (ts rest : List Symbol) → IsSection limit s ts rest t → Tokens ts → GoodSections limit s → Tokens rest × GoodSections limit t
section_kept limit s t ts rest (equations runs) all good = runs_keep (AddsEquation limit) (GoodSections limit) (equation_kept limit) runs (behind all) good
section_kept limit s t ts rest (clauses runs) all good = runs_keep (AddsClause limit) (GoodSections limit) (clause_kept limit) runs (behind all) good
section_kept limit s t ts rest (starts runs) all good = runs_keep (AddsStart limit) (GoodSections limit) (start_kept limit) runs (behind (behind all)) good

-- the sections with more equations, more clauses, more starts
abbrev with_equations : Sections → List EquationTree → Sections
with_equations s es = sections s.starts (s.equations ++ es) s.clauses

abbrev with_starts : Sections → List StatementTree → Sections
with_starts s vs = sections (s.starts ++ vs) s.equations s.clauses

abbrev with_clauses : Sections → List ClauseTree → Sections
with_clauses s cs = sections s.starts s.equations (s.clauses ++ cs)

equations_again : (limit : ℕ) (es : List EquationTree) → AllByRecursion (GoodEquation limit) es → Repeats (map bare_equation) (λ ts rest es. (s : Sections) → Runs (AddsEquation limit) s ts rest (with_equations s es)) (written_equations (equations_of es)) es
equations_again limit [] good = λ at after. record {
  end = at;
  found = after at;
  value = [];
  laid = laid_end;
  spelled = λ s. subst (λ xs. Runs (AddsEquation limit) s (after at) (after at) (sections s.starts xs s.clauses)) (sym (append-nil s.equations)) no_more;
  same = refl;
}
equations_again limit (e ∷ es) good = λ at after. (
    let f = good.0 at (λ place. (equations_again limit es good.1 place after).found) in
    let r = equations_again limit es good.1 f.end after in
    record {
      end = r.end;
      found = f.found;
      value = f.value ∷ r.value;
      laid = lay_both f.laid r.laid;
      spelled = λ s. subst (λ xs. Runs (AddsEquation limit) s f.found (after r.end) (sections s.starts xs s.clauses)) (append_assoc s.equations (f.value ∷ []) r.value) (one_more (adds_equation f.spelled) (r.spelled (with_equations s (f.value ∷ []))));
      same = ap (λ x. x ∷ map bare_equation r.value) f.same ∙ ap (λ xs. bare_equation e ∷ xs) r.same;
    })

starts_again : (limit : ℕ) (vs : List StatementTree) → AllByRecursion (GoodStart limit) vs → Repeats (map bare_statement) (λ ts rest vs. (s : Sections) → Runs (AddsStart limit) s ts rest (with_starts s vs)) (written_statements (statements_of vs)) vs
starts_again limit [] good = λ at after. record {
  end = at;
  found = after at;
  value = [];
  laid = laid_end;
  spelled = λ s. subst (λ xs. Runs (AddsStart limit) s (after at) (after at) (sections xs s.equations s.clauses)) (sym (append-nil s.starts)) no_more;
  same = refl;
}
starts_again limit (v ∷ vs) good = λ at after. (
    let f = good.0 at (λ place. (starts_again limit vs good.1 place after).found) in
    let r = starts_again limit vs good.1 f.end after in
    record {
      end = r.end;
      found = f.found;
      value = f.value ∷ r.value;
      laid = lay_both f.laid r.laid;
      spelled = λ s. subst (λ xs. Runs (AddsStart limit) s f.found (after r.end) (sections xs s.equations s.clauses)) (append_assoc s.starts (f.value ∷ []) r.value) (one_more (adds_start f.spelled) (r.spelled (with_starts s (f.value ∷ []))));
      same = ap (λ x. x ∷ map bare_statement r.value) f.same ∙ ap (λ xs. bare_statement v ∷ xs) r.same;
    })

clauses_again : (limit : ℕ) (cs : List ClauseTree) → AllByRecursion (GoodClause limit) cs → Repeats (map bare_clause) (λ ts rest cs. (s : Sections) → Runs (AddsClause limit) s ts rest (with_clauses s cs)) (written_clauses (clauses_of cs)) cs
clauses_again limit [] good = λ at after. record {
  end = at;
  found = after at;
  value = [];
  laid = laid_end;
  spelled = λ s. subst (λ xs. Runs (AddsClause limit) s (after at) (after at) (sections s.starts s.equations xs)) (sym (append-nil s.clauses)) no_more;
  same = refl;
}
clauses_again limit (c ∷ cs) good = λ at after. (
    let f = good.0 at (λ place. (clauses_again limit cs good.1 place after).found) in
    let r = clauses_again limit cs good.1 f.end after in
    record {
      end = r.end;
      found = f.found;
      value = f.value ∷ r.value;
      laid = lay_both f.laid r.laid;
      spelled = λ s. subst (λ xs. Runs (AddsClause limit) s f.found (after r.end) (sections s.starts s.equations xs)) (append_assoc s.clauses (f.value ∷ []) r.value) (one_more (adds_clause f.spelled) (r.spelled (with_clauses s (f.value ∷ []))));
      same = ap (λ x. x ∷ map bare_clause r.value) f.same ∙ ap (λ xs. bare_clause c ∷ xs) r.same;
    })

-- sections of one kind, or none where there is nothing to write
start_section : (limit : ℕ) (vs : List StatementTree) → AllByRecursion (GoodStart limit) vs → Repeats (map bare_statement) (λ ts rest vs. (s : Sections) → Runs (IsSection limit) s ts rest (with_starts s vs)) (section (codes "initial" ∷ codes "algorithm" ∷ []) vs (written_statements (statements_of vs))) vs
start_section limit [] good = λ at after. record {
  end = at;
  found = after at;
  value = [];
  laid = laid_end;
  spelled = λ s. subst (λ xs. Runs (IsSection limit) s (after at) (after at) (sections xs s.equations s.clauses)) (sym (append-nil s.starts)) no_more;
  same = refl;
}
start_section limit (v ∷ vs) good = λ at after. (
    let p = past at (codes "initial") in
    let i = starts_again limit (v ∷ vs) good (past p (codes "algorithm")) after in
    record {
      end = i.end;
      found = word words.Initial at ∷ word words.Algorithm p ∷ i.found;
      value = i.value;
      laid = lay_word words.Initial (lay_word words.Algorithm i.laid);
      spelled = λ s. one_more (starts (i.spelled s)) no_more;
      same = i.same;
    })

equation_section : (limit : ℕ) (es : List EquationTree) → AllByRecursion (GoodEquation limit) es → Repeats (map bare_equation) (λ ts rest es. (s : Sections) → Runs (IsSection limit) s ts rest (with_equations s es)) (section (codes "equation" ∷ []) es (written_equations (equations_of es))) es
equation_section limit [] good = λ at after. record {
  end = at;
  found = after at;
  value = [];
  laid = laid_end;
  spelled = λ s. subst (λ xs. Runs (IsSection limit) s (after at) (after at) (sections s.starts xs s.clauses)) (sym (append-nil s.equations)) no_more;
  same = refl;
}
equation_section limit (e ∷ es) good = λ at after. (
    let i = equations_again limit (e ∷ es) good (past at (codes "equation")) after in
    record {
      end = i.end;
      found = word words.Equation at ∷ i.found;
      value = i.value;
      laid = lay_word words.Equation i.laid;
      spelled = λ s. one_more (equations (i.spelled s)) no_more;
      same = i.same;
    })

clause_section : (limit : ℕ) (cs : List ClauseTree) → AllByRecursion (GoodClause limit) cs → Repeats (map bare_clause) (λ ts rest cs. (s : Sections) → Runs (IsSection limit) s ts rest (with_clauses s cs)) (section (codes "algorithm" ∷ []) cs (written_clauses (clauses_of cs))) cs
clause_section limit [] good = λ at after. record {
  end = at;
  found = after at;
  value = [];
  laid = laid_end;
  spelled = λ s. subst (λ xs. Runs (IsSection limit) s (after at) (after at) (sections s.starts s.equations xs)) (sym (append-nil s.clauses)) no_more;
  same = refl;
}
clause_section limit (c ∷ cs) good = λ at after. (
    let i = clauses_again limit (c ∷ cs) good (past at (codes "algorithm")) after in
    record {
      end = i.end;
      found = word words.Algorithm at ∷ i.found;
      value = i.value;
      laid = lay_word words.Algorithm i.laid;
      spelled = λ s. one_more (clauses (i.spelled s)) no_more;
      same = i.same;
    })

-- parts in a row, and then further ones
runs_both : {S : Type 0} {One : S → List Symbol → List Symbol → S → Type 0} {s t u : S} {ts mid rest : List Symbol} → Runs One s ts mid t → Runs One t mid rest u → Runs One s ts rest u
runs_both no_more second = second
runs_both (one_more first rest) second = one_more first (runs_both rest second)

-- the parts of a model parse again
record GoodModel (limit : ℕ) (m : ModelTree) : Type 0 where
  name : SpellsToken kinds.Ident m.name
  end_name : SpellsToken kinds.Ident m.end_name
  decls : AllByRecursion (GoodDeclaration limit) m.decls
  starts : AllByRecursion (GoodStart limit) m.starts
  equations : AllByRecursion (GoodEquation limit) m.equations
  clauses : AllByRecursion (GoodClause limit) m.clauses
  settings : AllByRecursion (GoodSetting limit) m.settings

model_read : {limit : ℕ} {ts : List Symbol} {m : ModelTree} → SpellsModel limit ts m → Tokens ts → GoodModel limit m
model_read {limit = limit} (model text heads parts settings) all = (
    let a = runs_keep (IsHead limit) (AllByRecursion (GoodDeclaration limit)) (head_read limit) heads (behind_string text (behind (behind all))) tt in
    let b = runs_keep (IsSection limit) (GoodSections limit) (section_kept limit) parts a.0 (record { starts = tt; equations = tt; clauses = tt }) in
    let c = annotation_read settings b.0 in
    record { name = here (behind all); end_name = here (behind c.0); decls = a.1; starts = b.1.starts; equations = b.1.equations; clauses = b.1.clauses; settings = c.1 })

-- two models with the same parts are the same without places
same_model : (m n : ModelTree) → n.name ≡ m.name → n.end_name ≡ m.end_name → map bare_declaration n.decls ≡ map bare_declaration m.decls → map bare_statement n.starts ≡ map bare_statement m.starts → map bare_equation n.equations ≡ map bare_equation m.equations →
    map bare_clause n.clauses ≡ map bare_clause m.clauses → map bare_setting n.settings ≡ map bare_setting m.settings → bare_model n ≡ bare_model m
same_model m n a b c d e f g = cc

-- a model parses again from its canonical texts
model_again : (limit : ℕ) (m : ModelTree) → GoodModel limit m → Again bare_model (λ ts rest n. SpellsModel limit ts n) (written_model m) m 0 (λ e. [])
model_again limit m good =
    let last = λ (e : ℕ). word words.End e ∷ name m.end_name (past e (codes "end")) ∷ mark marks.Semicolon (past (past e (codes "end")) m.end_name) ∷ [] in
    let settings = λ (place : ℕ). annotation_again limit m.settings good.settings place last in
    let third = λ (place : ℕ). clause_section limit m.clauses good.clauses place (λ e. (settings e).found) in
    let second = λ (place : ℕ). equation_section limit m.equations good.equations place (λ e. (third e).found) in
    let first = λ (place : ℕ). start_section limit m.starts good.starts place (λ e. (second e).found) in
    let p = past 0 (codes "model") in
    let heads = declarations_again limit m.decls good.decls (past p m.name) (λ e. (first e).found) in
    let a = first heads.end in
    let b = second a.end in
    let c = third b.end in
    let s = settings c.end in
    let parts : Sections = sections a.value b.value c.value in
    let n : ModelTree = model_of m.name m.end_name (past s.end (codes "end")) heads.value parts s.value in
    record {
      end = past (past (past s.end (codes "end")) m.end_name) (codes ";");
      found = word words.Model 0 ∷ name m.name p ∷ heads.found;
      value = n;
      laid = lay_both (lay_both (lay_both (lay_both (lay_both (lay_word words.Model (lay_name good.name heads.laid)) a.laid) b.laid) c.laid) s.laid) (lay_word words.End (lay_name good.end_name (lay_mark marks.Semicolon laid_end)));
      spelled = model no_string (heads.spelled [])
          (runs_both (a.spelled (sections [] [] [])) (runs_both (b.spelled (sections a.value [] [])) (c.spelled (sections a.value b.value [])))) s.spelled;
      same = same_model m n refl refl heads.same a.same b.same c.same s.same;
    }

-- the canonical text of a parsed model reads back as this model
pub models_read_back : (limit : ℕ) (ts : List Symbol) (m : ModelTree) → All IsToken ts → SpellsModel limit ts m → ReadsBack limit m
models_read_back limit ts m all spelled =
    let a = model_again limit m (model_read spelled (tokens_of ts all)) in
    let source = laid_source a.laid in
    record { tokens = source.0; are_tokens = source.1; again = a.value; spelled = subst (λ cs. SpellsModel limit cs a.value) (sym source.2) a.spelled; same = a.same }
