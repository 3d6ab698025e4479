-- Parsed declarations and settings parse again from their canonical texts.
use Rattle.mu_grammar.proofs.Common
use Common.{[], ℕ, ◌++◌, ◌<◌, ◌∷◌, AllByRecursion, annotation, Balanced, balanced_end}
use Common.{balanced_nested, balanced_token, Bool, codes, Commas, component, Declaration}
use Common.{declaration, declares, experiment, Expression, false, first_experiment, import_end}
use Common.{import_token, InRound, IsAnnotation, IsArg, IsBareMod, IsComponent, IsExperiment}
use Common.{IsHead, IsImported, IsKind, IsMod, IsMods, IsOwnAnnotation, IsOwnArg, IsSet, IsSize}
use Common.{IsSkipped, IsValue, last_one, List, mods, no_annotation, no_mods, no_more, no_settings}
use Common.{no_size, no_value, None, nothing_inside, one_more, one_then, Option, own_annotation}
use Common.{own_quantum, Prefix, refl, Runs, set, Setting, Settled, size, skipped, skipped_nested}
use Common.{Some, some_inside, SpellsToken, start, Symbol, true, value, word}
use Rattle.mu_tree.specs.Canonical.{written_kind}
use Rattle.mu_grammar.specs.DeclarationGrammar.{other_mod, other_set, own_experiment, own_other}
use Rattle.mu_grammar.specs.DeclarationGrammar.{other_arg, parameter, constant, discrete, plain}
use Rattle.mu_grammar.specs.ModelGrammar.{import_line}
use Rattle.mu_grammar.proofs.ReadBackTexts.{past, laid_end, lay_word, Repeats}
use Rattle.mu_grammar.proofs.ReadBackSums.{Tokens, behind, here, OwnAgain, sum_read}
use Rattle.mu_grammar.proofs.ReadBackBodies.{behind_string}
use Rattle.mu_lexer.specs.declared.token.Word.TheVariants as words
use Rattle.mu_lexer.specs.declared.token.Kind.TheVariants as kinds
use Rattle.mu_tree.specs.declared.tree.Prefix.TheVariants as prefixes
use Rattle.mu_grammar.specs.DeclarationGrammar as grammar

-- one more element of which the same holds
pub all_more : {A : Type 0} (P : A → Type 0) (xs : List A) (x : A) → AllByRecursion P xs → P x → AllByRecursion P (xs ++ x ∷ [])
all_more P [] x all is = (is, tt)
all_more P (y ∷ xs) x all is = (all.0, all_more P xs x all.1 is)

module _ {S : Type 0} (One : S → List Symbol → List Symbol → S → Type 0) (P : S → Type 0) (one : (s t : S) (ts rest : List Symbol) → One s ts rest t → Tokens ts → P s → Tokens rest × P t) where
  -- what each part keeps, any number of them keeps
  pub runs_keep : {s t : S} {ts rest : List Symbol} → Runs One s ts rest t → Tokens ts → P s → Tokens rest × P t
  runs_keep no_more all is = (all, is)
  runs_keep (one_more first rest) all is = (let a = one _ _ _ _ first all is in runs_keep rest a.0 a.1)

  pub commas_keep : {s t : S} {ts rest : List Symbol} → Commas One s ts rest t → Tokens ts → P s → Tokens rest × P t
  commas_keep (last_one first) all is = one _ _ _ _ first all is
  commas_keep (one_then first rest) all is = (let a = one _ _ _ _ first all is in commas_keep rest (behind a.0) a.1)

  pub round_keeps : {s t : S} {ts rest : List Symbol} → InRound One s ts rest t → Tokens ts → P s → Tokens rest × P t
  round_keeps nothing_inside all is = (behind (behind all), is)
  round_keeps (some_inside parts) all is = (let a = commas_keep parts (behind all) is in (behind a.0, a.1))

-- tokens after what is read over
balanced_read : {limit : ℕ} {inside : Bool} {d : ℕ} {ts rest : List Symbol} → Balanced limit inside d ts rest → Tokens ts → Tokens rest
balanced_read balanced_end all = all
balanced_read (balanced_token is more) all = balanced_read more (behind all)
balanced_read (balanced_nested is less within more) all = balanced_read more (behind (balanced_read within (behind all)))

skipped_read : {limit : ℕ} {may : Symbol → Bool} {d : ℕ} {ts rest : List Symbol} → IsSkipped limit may d ts rest → Tokens ts → Tokens rest
skipped_read (skipped is alone more) all = balanced_read more (behind all)
skipped_read (skipped_nested is less within more) all = balanced_read more (behind (balanced_read within (behind all)))

imported_read : {ts rest : List Symbol} → IsImported ts rest → Tokens ts → Tokens rest
imported_read import_end all = behind all
imported_read (import_token is more) all = imported_read more (behind all)

-- an expression in one bracket, where there is one, parses again
abbrev pub OneDeep : ℕ → Option Expression → Type 0
OneDeep limit None = Unit {0}
OneDeep limit (Some v) = (0 < limit) × OwnAgain limit 1 v

-- an expression outside brackets, where there is one, parses again
abbrev pub Outside : ℕ → Option Expression → Type 0
Outside limit None = Unit {0}
Outside limit (Some v) = OwnAgain limit 0 v

bare_mod_read : {limit : ℕ} {each : Bool} {s t : Option Expression} {ts rest : List Symbol} → 0 < limit → IsBareMod limit each s ts rest t → Tokens ts → OneDeep limit s → Tokens rest × OneDeep limit t
bare_mod_read less (start is v) all good = (let a = sum_read v (behind (behind all)) in (a.0, (less, a.1)))
bare_mod_read less (other_mod is) all good = (skipped_read is all, good)

mod_read : (limit : ℕ) → 0 < limit → (s t : Option Expression) (ts rest : List Symbol) → IsMod limit s ts rest t → Tokens ts → OneDeep limit s → Tokens rest × OneDeep limit t
mod_read limit less s t ts rest (grammar.bare is) all good = bare_mod_read less is all good
mod_read limit less s t ts rest (grammar.each is) all good = bare_mod_read less is (behind all) good

mods_read : {limit : ℕ} {ts rest : List Symbol} {s : Option Expression} → IsMods limit ts rest s → Tokens ts → Tokens rest × OneDeep limit s
mods_read no_mods all = (all, tt)
mods_read {limit = limit} (mods less parts) all = (let a = commas_keep (IsMod limit) (OneDeep limit) (mod_read limit less) parts (behind all) tt in (behind a.0, a.1))

-- a setting parses again
abbrev pub GoodSetting : ℕ → Setting → Type 0
GoodSetting limit s = (1 < limit) × OwnAgain limit 2 s.value

set_read : (limit : ℕ) → 1 < limit → (ss us : List Setting) (ts rest : List Symbol) → IsSet limit ss ts rest us → Tokens ts → AllByRecursion (GoodSetting limit) ss → Tokens rest × AllByRecursion (GoodSetting limit) us
set_read limit less ss us ts rest (set {at = at} {which = which} {v = v} is sum) all good = (
    let a = sum_read sum (behind (behind all)) in
    (a.0, all_more (GoodSetting limit) ss (record { which = which; value = v; at = at }) good (less, a.1)))
set_read limit less ss us ts rest (other_set is) all good = (skipped_read is all, good)

experiment_read : {limit : ℕ} {ts rest : List Symbol} {ss : List Setting} → IsExperiment limit ts rest ss → Tokens ts → Tokens rest × AllByRecursion (GoodSetting limit) ss
experiment_read {limit = limit} (experiment is less parts) all = round_keeps (IsSet limit) (AllByRecursion (GoodSetting limit)) (set_read limit less) parts (behind all) tt

own_read : (limit : ℕ) → 0 < limit → (s t : Option Expression) (ts rest : List Symbol) → IsOwnArg limit s ts rest t → Tokens ts → OneDeep limit s → Tokens rest × OneDeep limit t
own_read limit less s t ts rest (own_quantum is v) all good = (let a = sum_read v (behind (behind all)) in (a.0, (less, a.1)))
own_read limit less s t ts rest (own_experiment is) all good = ((experiment_read is all).0, good)
own_read limit less s t ts rest (own_other is) all good = (skipped_read is all, good)

own_annotation_read : {limit : ℕ} {ts rest : List Symbol} {q : Option Expression} → IsOwnAnnotation limit ts rest q → Tokens ts → Tokens rest × OneDeep limit q
own_annotation_read no_annotation all = (all, tt)
own_annotation_read {limit = limit} (own_annotation less parts) all = round_keeps (IsOwnArg limit) (OneDeep limit) (own_read limit less) parts (behind all) tt

arg_read : (limit : ℕ) (s t : Settled) (ts rest : List Symbol) → IsArg limit s ts rest t → Tokens ts → AllByRecursion (GoodSetting limit) s.settings → Tokens rest × AllByRecursion (GoodSetting limit) t.settings
arg_read limit s t ts rest (first_experiment is e) all good = experiment_read e all
arg_read limit s t ts rest (other_arg is) all good = (skipped_read is all, good)

-- the settings of an annotation parse again
pub annotation_read : {limit : ℕ} {ts rest : List Symbol} {ss : List Setting} → IsAnnotation limit ts rest ss → Tokens ts → Tokens rest × AllByRecursion (GoodSetting limit) ss
annotation_read no_settings all = (all, tt)
annotation_read {limit = limit} (annotation less parts) all = (let a = round_keeps (IsArg limit) (λ s. AllByRecursion (GoodSetting limit) s.settings) (arg_read limit) parts (behind all) tt in (behind a.0, a.1))

size_read : {limit : ℕ} {ts rest : List Symbol} {v : Option Expression} → IsSize limit ts rest v → Tokens ts → Tokens rest × OneDeep limit v
size_read no_size all = (all, tt)
size_read (size less v) all = (let a = sum_read v (behind all) in (behind a.0, (less, a.1)))

value_read : {limit : ℕ} {ts rest : List Symbol} {v : Option Expression} → IsValue limit ts rest v → Tokens ts → Tokens rest × Outside limit v
value_read no_value all = (all, tt)
value_read (value v) all = sum_read v (behind all)

-- the kind of a declaration parses again
abbrev pub KindAgain : Prefix → Bool → Type 0
KindAgain prefix whole = Repeats {V = Unit {0}} {B = Unit {0}} (λ u. u) (λ ts rest u. IsKind ts rest prefix whole) (written_kind prefix whole) tt

parameter_again : (whole : Bool) → KindAgain prefixes.Parameter whole
parameter_again true = λ at after. record { end = past (past at (codes "parameter")) (codes "Integer"); found = word words.Parameter at ∷ word words.IntegerType (past at (codes "parameter")) ∷ after (past (past at (codes "parameter")) (codes "Integer")); value = tt; laid = lay_word words.Parameter (lay_word words.IntegerType laid_end); spelled = parameter refl; same = refl }
parameter_again false = λ at after. record { end = past (past at (codes "parameter")) (codes "Real"); found = word words.Parameter at ∷ word words.RealType (past at (codes "parameter")) ∷ after (past (past at (codes "parameter")) (codes "Real")); value = tt; laid = lay_word words.Parameter (lay_word words.RealType laid_end); spelled = parameter refl; same = refl }

constant_again : (whole : Bool) → KindAgain prefixes.Constant whole
constant_again true = λ at after. record { end = past (past at (codes "constant")) (codes "Integer"); found = word words.Constant at ∷ word words.IntegerType (past at (codes "constant")) ∷ after (past (past at (codes "constant")) (codes "Integer")); value = tt; laid = lay_word words.Constant (lay_word words.IntegerType laid_end); spelled = constant refl; same = refl }
constant_again false = λ at after. record { end = past (past at (codes "constant")) (codes "Real"); found = word words.Constant at ∷ word words.RealType (past at (codes "constant")) ∷ after (past (past at (codes "constant")) (codes "Real")); value = tt; laid = lay_word words.Constant (lay_word words.RealType laid_end); spelled = constant refl; same = refl }

kind_read : {ts rest : List Symbol} {prefix : Prefix} {whole : Bool} → IsKind ts rest prefix whole → Tokens ts → Tokens rest × KindAgain prefix whole
kind_read (parameter {whole = whole} is) all = (behind (behind all), parameter_again whole)
kind_read (constant {whole = whole} is) all = (behind (behind all), constant_again whole)
kind_read discrete all = (behind (behind all), λ at after. record { end = past (past at (codes "discrete")) (codes "Real"); found = word words.Discrete at ∷ word words.RealType (past at (codes "discrete")) ∷ after (past (past at (codes "discrete")) (codes "Real")); value = tt; laid = lay_word words.Discrete (lay_word words.RealType laid_end); spelled = discrete; same = refl })
kind_read plain all = (behind all, λ at after. record { end = past at (codes "Real"); found = word words.RealType at ∷ after (past at (codes "Real")); value = tt; laid = lay_word words.RealType laid_end; spelled = plain; same = refl })

-- the parts of a declaration parse again
pub record GoodDeclaration (limit : ℕ) (d : Declaration) : Type 0 where
  pub name : SpellsToken kinds.Ident d.name
  pub kind : KindAgain d.prefix d.whole
  pub size : OneDeep limit d.size
  pub start : OneDeep limit d.start
  pub value : Outside limit d.value
  pub quantum : OneDeep limit d.quantum

component_read : (limit : ℕ) (prefix : Prefix) (whole : Bool) → KindAgain prefix whole → (ds es : List Declaration) (ts rest : List Symbol) → IsComponent limit prefix whole ds ts rest es → Tokens ts → AllByRecursion (GoodDeclaration limit) ds → Tokens rest × AllByRecursion (GoodDeclaration limit) es
component_read limit prefix whole kind ds es ts rest (component {at = at} {n = n} {length = length} {begin = begin} {worth = worth} {quantum = quantum} s m v text q) all good = (
    let a = size_read s (behind all) in
    let b = mods_read m a.0 in
    let c = value_read v b.0 in
    let e = own_annotation_read q (behind_string text c.0) in (
      e.0,
      all_more (GoodDeclaration limit) ds (record { prefix = prefix; whole = whole; name = n; size = length; start = begin; value = worth; quantum = quantum; at = at }) good
          (record { name = here all; kind = kind; size = a.1; start = b.1; value = c.1; quantum = e.1 }),
    ))

-- the declared components before and after an import line or a declaration
pub head_read : (limit : ℕ) (ds es : List Declaration) (ts rest : List Symbol) → IsHead limit ds ts rest es → Tokens ts → AllByRecursion (GoodDeclaration limit) ds → Tokens rest × AllByRecursion (GoodDeclaration limit) es
head_read limit ds es ts rest (import_line is) all good = (imported_read is (behind all), good)
head_read limit ds es ts rest (declaration (declares {prefix = prefix} {whole = whole} kind parts)) all good = (
    let a = kind_read kind all in
    let b = commas_keep (IsComponent limit prefix whole) (AllByRecursion (GoodDeclaration limit)) (component_read limit prefix whole a.1) parts a.0 good in
    (behind b.0, b.1))
