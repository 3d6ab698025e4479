-- The canonical texts of declarations and settings parse as these declarations and settings.
use Rattle.mu_grammar.proofs.Common
use Common.{[], ℕ, ◌++◌, ◌<◌, ◌∙◌, ◌∷◌, ◌≡◌, AllByRecursion, annotation, ap, append-nil}
use Common.{append_assoc, arith, bare, bare_declaration, bare_setting, codes, Commas, component}
use Common.{Declaration, declaration, declares, experiment, Expression, first_experiment}
use Common.{IsAnnotation, IsHead, IsMods, IsOwnAnnotation, IsSet, IsSize, IsValue, kind_spelled}
use Common.{last_one, List, map, mark, mods, name, no_annotation, no_mods, no_more, no_settings}
use Common.{no_size, no_string, no_value, None, one_more, one_then, Option, own_annotation}
use Common.{own_quantum, refl, Runs, set, Setting, setting_of, SettingName, size, Some, some_inside}
use Common.{SpellsToken, start, subst, sym, Symbol, true, value, word}
use Rattle.std.specs.List.{flat_map}
use Rattle.std.specs.Option.{option_map}
use Rattle.mu_tree.specs.Canonical.{optional, written_declaration, setting_name, written_settings}
use Rattle.mu_tree.specs.Canonical.{written_annotation}
use Rattle.mu_grammar.proofs.ReadBackTexts.{past, laid_end, lay_mark, lay_word, lay_name, lay_both}
use Rattle.mu_grammar.proofs.ReadBackTexts.{Repeats}
use Rattle.mu_grammar.proofs.ReadBackSums.{sum_part}
use Rattle.mu_grammar.proofs.ReadBackBodies.{le_self}
use Rattle.mu_grammar.proofs.ReadBackDeclarations.{OneDeep, Outside, GoodSetting, GoodDeclaration}
use Rattle.mu_lexer.specs.declared.token.Word.TheVariants as words
use Rattle.mu_lexer.specs.declared.token.Mark.TheVariants as marks
use Rattle.mu_lexer.specs.declared.token.Kind.TheVariants as kinds
use Rattle.mu_tree.specs.declared.tree.SettingName.TheVariants as settings
use Rattle.mu_grammar.specs.DeclarationGrammar as grammar

-- the names that have a meaning are identifiers
start_name : SpellsToken kinds.Ident (codes "start")
start_name = kind_spelled kinds.Ident (codes "start") refl

quantum_name : SpellsToken kinds.Ident (codes "QSS_Quantum")
quantum_name = kind_spelled kinds.Ident (codes "QSS_Quantum") refl

experiment_name : SpellsToken kinds.Ident (codes "experiment")
experiment_name = kind_spelled kinds.Ident (codes "experiment") refl

setting_named : (which : SettingName) → SpellsToken kinds.Ident (setting_name which)
setting_named settings.StartTime = kind_spelled kinds.Ident (codes "StartTime") refl
setting_named settings.StopTime = kind_spelled kinds.Ident (codes "StopTime") refl
setting_named settings.CoefBits = kind_spelled kinds.Ident (codes "QSS_CoefBits") refl
setting_named settings.TickBits = kind_spelled kinds.Ident (codes "QSS_TickBits") refl
setting_named settings.LevelBits = kind_spelled kinds.Ident (codes "QSS_LevelBits") refl
setting_named settings.Quantum = kind_spelled kinds.Ident (codes "QSS_Quantum") refl

setting_found : (which : SettingName) → setting_of (setting_name which) ≡ Some which
setting_found settings.StartTime = refl
setting_found settings.StopTime = refl
setting_found settings.CoefBits = refl
setting_found settings.TickBits = refl
setting_found settings.LevelBits = refl
setting_found settings.Quantum = refl

size_again : (limit : ℕ) (v : Option Expression) → OneDeep limit v → Repeats (option_map bare) (IsSize limit) (optional (codes "[" ∷ []) v (codes "]" ∷ [])) v
size_again limit None good = λ at after. record { end = at; found = after at; value = None; laid = laid_end; spelled = no_size; same = refl }
size_again limit (Some v) good = λ at after. (
    let i = sum_part limit 1 1 v good.1 (le_self 1) (past at (codes "[")) (λ q. mark marks.CloseSquare q ∷ after (past q (codes "]"))) in
    record {
      end = past i.end (codes "]");
      found = mark marks.OpenSquare at ∷ i.found;
      value = Some i.value;
      laid = lay_both (lay_mark marks.OpenSquare i.laid) (lay_mark marks.CloseSquare laid_end);
      spelled = size good.0 i.spelled;
      same = ap Some i.same;
    })

start_again : (limit : ℕ) (v : Option Expression) → OneDeep limit v → Repeats (option_map bare) (IsMods limit) (optional (codes "(" ∷ codes "start" ∷ codes "=" ∷ []) v (codes ")" ∷ [])) v
start_again limit None good = λ at after. record { end = at; found = after at; value = None; laid = laid_end; spelled = no_mods; same = refl }
start_again limit (Some v) good = λ at after. (
    let p = past at (codes "(") in
    let i = sum_part limit 1 1 v good.1 (le_self 1) (past (past p (codes "start")) (codes "=")) (λ q. mark marks.CloseRound q ∷ after (past q (codes ")"))) in
    record {
      end = past i.end (codes ")");
      found = mark marks.OpenRound at ∷ name (codes "start") p ∷ mark marks.Equal (past p (codes "start")) ∷ i.found;
      value = Some i.value;
      laid = lay_both (lay_mark marks.OpenRound (lay_name start_name (lay_mark marks.Equal i.laid))) (lay_mark marks.CloseRound laid_end);
      spelled = mods good.0 (last_one (grammar.bare (start refl i.spelled)));
      same = ap Some i.same;
    })

value_again : (limit : ℕ) (v : Option Expression) → Outside limit v → Repeats (option_map bare) (IsValue limit) (optional (codes "=" ∷ []) v []) v
value_again limit None good = λ at after. record { end = at; found = after at; value = None; laid = laid_end; spelled = no_value; same = refl }
value_again limit (Some v) good = λ at after. (
    let i = sum_part limit 0 0 v good (le_self 0) (past at (codes "=")) after in
    record {
      end = i.end;
      found = mark marks.Equal at ∷ i.found;
      value = Some i.value;
      laid = lay_both (lay_mark marks.Equal i.laid) laid_end;
      spelled = value i.spelled;
      same = ap Some i.same;
    })

quantum_again : (limit : ℕ) (v : Option Expression) → OneDeep limit v → Repeats (option_map bare) (IsOwnAnnotation limit) (optional (codes "annotation" ∷ codes "(" ∷ codes "QSS_Quantum" ∷ codes "=" ∷ []) v (codes ")" ∷ [])) v
quantum_again limit None good = λ at after. record { end = at; found = after at; value = None; laid = laid_end; spelled = no_annotation; same = refl }
quantum_again limit (Some v) good = λ at after. (
    let p = past at (codes "annotation") in
    let q = past p (codes "(") in
    let r = past q (codes "QSS_Quantum") in
    let i = sum_part limit 1 1 v good.1 (le_self 1) (past r (codes "=")) (λ e. mark marks.CloseRound e ∷ after (past e (codes ")"))) in
    record {
      end = past i.end (codes ")");
      found = word words.Annotation at ∷ mark marks.OpenRound p ∷ name (codes "QSS_Quantum") q ∷ mark marks.Equal r ∷ i.found;
      value = Some i.value;
      laid = lay_both (lay_word words.Annotation (lay_mark marks.OpenRound (lay_name quantum_name (lay_mark marks.Equal i.laid)))) (lay_mark marks.CloseRound laid_end);
      spelled = own_annotation good.0 (some_inside (last_one (own_quantum refl i.spelled)));
      same = ap Some i.same;
    })

-- a declaration of one component, after those so far
abbrev OneHead : ℕ → List Symbol → List Symbol → Declaration → Type 0
OneHead limit ts rest d = (ds : List Declaration) → IsHead limit ds ts rest (ds ++ d ∷ [])

-- two declarations with the same parts are the same without places
same_declaration : (d e : Declaration) → e.prefix ≡ d.prefix → e.whole ≡ d.whole → e.name ≡ d.name → option_map bare e.size ≡ option_map bare d.size → option_map bare e.start ≡ option_map bare d.start → option_map bare e.value ≡ option_map bare d.value → option_map bare e.quantum ≡ option_map bare d.quantum → bare_declaration e ≡ bare_declaration d
same_declaration d e a b c f g h i = cc

declaration_again : (limit : ℕ) (d : Declaration) → GoodDeclaration limit d → Repeats bare_declaration (OneHead limit) (written_declaration d) d
declaration_again limit d good = λ at after. (
    let q = λ (place : ℕ). quantum_again limit d.quantum good.quantum place (λ e. mark marks.Semicolon e ∷ after (past e (codes ";"))) in
    let v = λ (place : ℕ). value_again limit d.value good.value place (λ e. (q e).found) in
    let s = λ (place : ℕ). start_again limit d.start good.start place (λ e. (v e).found) in
    let z = λ (place : ℕ). size_again limit d.size good.size place (λ e. (s e).found) in
    let k = good.kind at (λ e. name d.name e ∷ (z (past e d.name)).found) in
    let size_part = z (past k.end d.name) in
    let start_part = s size_part.end in
    let value_part = v start_part.end in
    let quantum_part = q value_part.end in
    let found : Declaration = record { prefix = d.prefix; whole = d.whole; name = d.name; size = size_part.value; start = start_part.value; value = value_part.value; quantum = quantum_part.value; at = k.end } in
    record {
      end = past quantum_part.end (codes ";");
      found = k.found;
      value = found;
      laid = lay_both (lay_both (lay_both (lay_both (lay_both k.laid (lay_name good.name size_part.laid)) start_part.laid) value_part.laid) quantum_part.laid) (lay_mark marks.Semicolon laid_end);
      spelled = λ ds. declaration (declares k.spelled (last_one (component size_part.spelled start_part.spelled value_part.spelled no_string quantum_part.spelled)));
      same = same_declaration d found refl refl refl size_part.same start_part.same value_part.same quantum_part.same;
    })

-- declarations after those so far
abbrev pub Heads : ℕ → List Symbol → List Symbol → List Declaration → Type 0
Heads limit ts rest ds = (before : List Declaration) → Runs (IsHead limit) before ts rest (before ++ ds)

-- declarations parse again
pub declarations_again : (limit : ℕ) (ds : List Declaration) → AllByRecursion (GoodDeclaration limit) ds → Repeats (map bare_declaration) (Heads limit) (flat_map written_declaration ds) ds
declarations_again limit [] good = λ at after. record {
  end = at;
  found = after at;
  value = [];
  laid = laid_end;
  spelled = λ before. subst (λ es. Runs (IsHead limit) before (after at) (after at) es) (sym (append-nil before)) no_more;
  same = refl;
}
declarations_again limit (d ∷ ds) good = λ at after. (
    let rest = λ (place : ℕ). declarations_again limit ds good.1 place after in
    let f = declaration_again limit d good.0 at (λ place. (rest place).found) in
    let r = rest f.end in
    record {
      end = r.end;
      found = f.found;
      value = f.value ∷ r.value;
      laid = lay_both f.laid r.laid;
      spelled = λ before. subst (λ es. Runs (IsHead limit) before f.found (after r.end) es) (append_assoc before (f.value ∷ []) r.value) (one_more (f.spelled before) (r.spelled (before ++ f.value ∷ [])));
      same = ap (λ x. x ∷ map bare_declaration r.value) f.same ∙ ap (λ xs. bare_declaration d ∷ xs) r.same;
    })

-- settings after those so far
abbrev SomeSettings : ℕ → List Symbol → List Symbol → List Setting → Type 0
SomeSettings limit ts rest ss = (before : List Setting) → Commas (IsSet limit) before ts rest (before ++ ss)

settings_again : (limit : ℕ) (s : Setting) (ss : List Setting) → AllByRecursion (GoodSetting limit) (s ∷ ss) → Repeats (map bare_setting) (SomeSettings limit) (written_settings (s ∷ ss) true) (s ∷ ss)
settings_again limit s [] good = λ at after. (
    let p = past at (setting_name s.which) in
    let i = sum_part limit 2 2 s.value good.0.1 (le_self 2) (past p (codes "=")) after in
    record {
      end = i.end;
      found = name (setting_name s.which) at ∷ mark marks.Equal p ∷ i.found;
      value = record { which = s.which; value = i.value; at = at } ∷ [];
      laid = lay_both (lay_name (setting_named s.which) (lay_mark marks.Equal i.laid)) laid_end;
      spelled = λ before. last_one (set (setting_found s.which) i.spelled);
      same = ap (λ (x : Expression). record { which = s.which; value = x; at = 0 } ∷ []) i.same;
    })
settings_again limit s (t ∷ ss) good = λ at after. (
    let p = past at (setting_name s.which) in
    let rest = λ (place : ℕ). settings_again limit t ss good.1 place after in
    let i = sum_part limit 2 2 s.value good.0.1 (le_self 2) (past p (codes "=")) (λ q. mark marks.Comma q ∷ (rest (past q (codes ","))).found) in
    let r = rest (past i.end (codes ",")) in
    let one : Setting = record { which = s.which; value = i.value; at = at } in
    record {
      end = r.end;
      found = name (setting_name s.which) at ∷ mark marks.Equal p ∷ i.found;
      value = one ∷ r.value;
      laid = lay_both (lay_name (setting_named s.which) (lay_mark marks.Equal i.laid)) (lay_mark marks.Comma r.laid);
      spelled = λ before. subst (λ us. Commas (IsSet limit) before (name (setting_name s.which) at ∷ mark marks.Equal p ∷ i.found) (after r.end) us) (append_assoc before (one ∷ []) r.value)
          (one_then (set (setting_found s.which) i.spelled) (r.spelled (before ++ one ∷ [])));
      same = ap (λ (x : Expression). record { which = s.which; value = x; at = 0 } ∷ map bare_setting r.value) i.same ∙ ap (λ xs. bare_setting s ∷ xs) r.same;
    })

-- the annotation with the settings parses again
pub annotation_again : (limit : ℕ) (ss : List Setting) → AllByRecursion (GoodSetting limit) ss → Repeats (map bare_setting) (IsAnnotation limit) (written_annotation ss) ss
annotation_again limit [] good = λ at after. record { end = at; found = after at; value = []; laid = laid_end; spelled = no_settings; same = refl }
annotation_again limit (s ∷ ss) good = λ at after. (
    let p = past at (codes "annotation") in
    let q = past p (codes "(") in
    let r = past q (codes "experiment") in
    let i = settings_again limit s ss good (past r (codes "(")) (λ e. mark marks.CloseRound e ∷ mark marks.CloseRound (past e (codes ")")) ∷ mark marks.Semicolon (past (past e (codes ")")) (codes ")")) ∷ after (past (past (past e (codes ")")) (codes ")")) (codes ";"))) in
    let less : 0 < limit = (let h = good.0.0 in omega arith) in
    record {
      end = past (past (past i.end (codes ")")) (codes ")")) (codes ";");
      found = word words.Annotation at ∷ mark marks.OpenRound p ∷ name (codes "experiment") q ∷ mark marks.OpenRound r ∷ i.found;
      value = i.value;
      laid = lay_both (lay_word words.Annotation (lay_mark marks.OpenRound (lay_name experiment_name (lay_mark marks.OpenRound i.laid)))) (lay_mark marks.CloseRound (lay_mark marks.CloseRound (lay_mark marks.Semicolon laid_end)));
      spelled = annotation less (some_inside (last_one (first_experiment refl (experiment refl good.0.0 (some_inside (i.spelled []))))));
      same = i.same;
    })
