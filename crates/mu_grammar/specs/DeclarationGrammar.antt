-- The grammar of declarations, annotations and experiment settings.
-- Each relation relates a token list, the tokens after the parsed part, and the parsed tree.
use Rattle.std.specs.Prelude.{◌≡◌, ℕ, ◌<◌, Bool, true, false, List, [], ◌∷◌, ◌++◌, ◌||◌, if◌then◌else◌, Option, Some, None, codes}
use Rattle.std.specs.Str.{bytes_eq}
use Rattle.mu_lexer.specs.declared.token.Word.{Word}
use Rattle.mu_lexer.specs.declared.token.Word.TheVariants as words
use Rattle.mu_lexer.specs.declared.token.Mark.TheVariants as marks
use Rattle.mu_tree.specs.declared.tree.Prefix.{Prefix}
use Rattle.mu_tree.specs.declared.tree.Prefix.TheVariants as prefixes
use Rattle.mu_tree.specs.declared.tree.SettingName.{SettingName}
use Rattle.mu_tree.specs.declared.tree.SettingName.TheVariants as settings
use Rattle.mu_tree.specs.Expression.{Expression}
use Rattle.mu_tree.specs.ModelTree.{Declaration, Setting}
use Rattle.mu_grammar.specs.Grammar.{Symbol, name, word, mark, IsSum}
use Rattle.mu_grammar.specs.Lists.{Commas, InRound, MaybeString}
use Rattle.mu_grammar.specs.Skipped.{is_named, IsSkipped}

-- logical negation
abbrev pub not : Bool → Bool
not true = false
not false = true

-- whether the token is the word each
abbrev pub is_each : Symbol → Bool
is_each (word words.Each at) = true
is_each _ = false

-- whether the token may begin a skipped modification; each_read is whether the word each was read
-- before
abbrev pub begins_mod : Bool → Symbol → Bool
begins_mod each_read x = if is_named (codes "start") x then false else (each_read || not (is_each x))

-- a modification, where each_read is whether the word each was read; with the component's start
-- value before and after it
pub data IsBareMod (limit : ℕ) (each_read : Bool) : Option Expression → List Symbol → List Symbol → Option Expression → Type 0 where
  start : {j : ℕ} {x : Symbol} {ts rest : List Symbol} {s : Option Expression} {v : Expression} → is_named (codes "start") x ≡ true → IsSum limit 1 ts rest v → IsBareMod limit each_read s (x ∷ mark marks.Equal j ∷ ts) rest (Some v)
  other_mod : {ts rest : List Symbol} {s : Option Expression} → IsSkipped limit (begins_mod each_read) 1 ts rest → IsBareMod limit each_read s ts rest s

-- a modification with or without the word each
pub data IsMod (limit : ℕ) : Option Expression → List Symbol → List Symbol → Option Expression → Type 0 where
  bare : {ts rest : List Symbol} {s t : Option Expression} → IsBareMod limit false s ts rest t → IsMod limit s ts rest t
  each : {i : ℕ} {ts rest : List Symbol} {s t : Option Expression} → IsBareMod limit true s ts rest t → IsMod limit s (word words.Each i ∷ ts) rest t

-- the optional modifications of a component, with its start value
pub data IsMods (limit : ℕ) : List Symbol → List Symbol → Option Expression → Type 0 where
  no_mods : {ts : List Symbol} → IsMods limit ts ts None
  mods : {i j : ℕ} {ts rest : List Symbol} {s : Option Expression} → 0 < limit → Commas (IsMod limit) None ts (mark marks.CloseRound j ∷ rest) s → IsMods limit (mark marks.OpenRound i ∷ ts) rest s

-- the experiment setting of this name, if there is one
abbrev pub setting_of : List ℕ → Option SettingName
setting_of n =
    if bytes_eq n (codes "StartTime") then Some settings.StartTime
    else (if bytes_eq n (codes "StopTime") then Some settings.StopTime
    else (if bytes_eq n (codes "QSS_CoefBits") then Some settings.CoefBits
    else (if bytes_eq n (codes "QSS_TickBits") then Some settings.TickBits
    else (if bytes_eq n (codes "QSS_LevelBits") then Some settings.LevelBits
    else (if bytes_eq n (codes "QSS_Quantum") then Some settings.Quantum
    else None)))))

-- whether the option is None
abbrev pub is_none : {A : Type 0} → Option A → Bool
is_none None = true
is_none (Some a) = false

-- whether the token may begin a skipped item of an experiment
abbrev pub begins_set : Symbol → Bool
begins_set (name n at) = is_none (setting_of n)
begins_set _ = true

-- the settings with one more appended
abbrev pub with_setting : List Setting → SettingName → Expression → ℕ → List Setting
with_setting ss which value at = ss ++ record { which = which; value = value; at = at } ∷ []

-- an item of an experiment, with the settings before and after it
pub data IsSet (limit : ℕ) : List Setting → List Symbol → List Symbol → List Setting → Type 0 where
  set : {at j : ℕ} {n : List ℕ} {which : SettingName} {ts rest : List Symbol} {ss : List Setting} {v : Expression} → setting_of n ≡ Some which → IsSum limit 2 ts rest v → IsSet limit ss (name n at ∷ mark marks.Equal j ∷ ts) rest (with_setting ss which v at)
  other_set : {ts rest : List Symbol} {ss : List Setting} → IsSkipped limit begins_set 2 ts rest → IsSet limit ss ts rest ss

-- an experiment with its settings
pub data IsExperiment (limit : ℕ) : List Symbol → List Symbol → List Setting → Type 0 where
  experiment : {x : Symbol} {ts rest : List Symbol} {ss : List Setting} → is_named (codes "experiment") x ≡ true → 1 < limit → InRound (IsSet limit) [] ts rest ss → IsExperiment limit (x ∷ ts) rest ss

-- whether the token may begin a skipped argument of a component's annotation
abbrev pub begins_own : Symbol → Bool
begins_own x = not (is_named (codes "experiment") x || is_named (codes "QSS_Quantum") x)

-- an argument of a component's annotation, with its quantum before and after it
pub data IsOwnArg (limit : ℕ) : Option Expression → List Symbol → List Symbol → Option Expression → Type 0 where
  own_quantum : {j : ℕ} {x : Symbol} {ts rest : List Symbol} {q : Option Expression} {v : Expression} → is_named (codes "QSS_Quantum") x ≡ true → IsSum limit 1 ts rest v → IsOwnArg limit q (x ∷ mark marks.Equal j ∷ ts) rest (Some v)
  own_experiment : {ts rest : List Symbol} {q : Option Expression} {ss : List Setting} → IsExperiment limit ts rest ss → IsOwnArg limit q ts rest q
  own_other : {ts rest : List Symbol} {q : Option Expression} → IsSkipped limit begins_own 1 ts rest → IsOwnArg limit q ts rest q

-- the optional annotation of a component, with its quantum
pub data IsOwnAnnotation (limit : ℕ) : List Symbol → List Symbol → Option Expression → Type 0 where
  no_annotation : {ts : List Symbol} → IsOwnAnnotation limit ts ts None
  own_annotation : {i : ℕ} {ts rest : List Symbol} {q : Option Expression} → 0 < limit → InRound (IsOwnArg limit) None ts rest q → IsOwnAnnotation limit (word words.Annotation i ∷ ts) rest q

-- the model's experiment settings, and whether its experiment was read
pub record Settled : Type 0 where
  pub seen : Bool
  pub settings : List Setting

-- whether the token may begin a skipped argument of the model's annotation; seen is whether the
-- experiment was read
abbrev pub begins_arg : Bool → Symbol → Bool
begins_arg seen x = seen || not (is_named (codes "experiment") x)

-- an argument of the model's annotation
pub data IsArg (limit : ℕ) : Settled → List Symbol → List Symbol → Settled → Type 0 where
  first_experiment : {ts rest : List Symbol} {s : Settled} {ss : List Setting} → s.seen ≡ false → IsExperiment limit ts rest ss → IsArg limit s ts rest (record { seen = true; settings = ss })
  other_arg : {ts rest : List Symbol} {s : Settled} → IsSkipped limit (begins_arg s.seen) 1 ts rest → IsArg limit s ts rest s

-- the optional annotation of a model, with its experiment settings
pub data IsAnnotation (limit : ℕ) : List Symbol → List Symbol → List Setting → Type 0 where
  no_settings : {ts : List Symbol} → IsAnnotation limit ts ts []
  annotation : {i j : ℕ} {ts rest : List Symbol} {s : Settled} → 0 < limit → InRound (IsArg limit) (record { seen = false; settings = [] }) ts (mark marks.Semicolon j ∷ rest) s → IsAnnotation limit (word words.Annotation i ∷ ts) rest s.settings

-- whether the type that this word denotes is Integer, if the word denotes a type
abbrev pub whole_of : Word → Option Bool
whole_of words.RealType = Some false
whole_of words.IntegerType = Some true
whole_of _ = None

-- the prefix and type of a declaration
pub data IsKind : List Symbol → List Symbol → Prefix → Bool → Type 0 where
  parameter : {i j : ℕ} {w : Word} {whole : Bool} {rest : List Symbol} → whole_of w ≡ Some whole → IsKind (word words.Parameter i ∷ word w j ∷ rest) rest prefixes.Parameter whole
  constant : {i j : ℕ} {w : Word} {whole : Bool} {rest : List Symbol} → whole_of w ≡ Some whole → IsKind (word words.Constant i ∷ word w j ∷ rest) rest prefixes.Constant whole
  discrete : {i j : ℕ} {rest : List Symbol} → IsKind (word words.Discrete i ∷ word words.RealType j ∷ rest) rest prefixes.Discrete false
  plain : {i : ℕ} {rest : List Symbol} → IsKind (word words.RealType i ∷ rest) rest prefixes.Plain false

-- the optional size of a component
pub data IsSize (limit : ℕ) : List Symbol → List Symbol → Option Expression → Type 0 where
  no_size : {ts : List Symbol} → IsSize limit ts ts None
  size : {i j : ℕ} {ts rest : List Symbol} {v : Expression} → 0 < limit → IsSum limit 1 ts (mark marks.CloseSquare j ∷ rest) v → IsSize limit (mark marks.OpenSquare i ∷ ts) rest (Some v)

-- the optional value of a component
pub data IsValue (limit : ℕ) : List Symbol → List Symbol → Option Expression → Type 0 where
  no_value : {ts : List Symbol} → IsValue limit ts ts None
  value : {i : ℕ} {ts rest : List Symbol} {v : Expression} → IsSum limit 0 ts rest v → IsValue limit (mark marks.Equal i ∷ ts) rest (Some v)

-- a component, with the declared components before and after it
pub data IsComponent (limit : ℕ) (prefix : Prefix) (whole : Bool) : List Declaration → List Symbol → List Symbol → List Declaration → Type 0 where
  component : {at : ℕ} {n : List ℕ} {ts us vs ws xs rest : List Symbol} {ds : List Declaration} {length begin worth quantum : Option Expression} →
      IsSize limit ts us length → IsMods limit us vs begin → IsValue limit vs ws worth → MaybeString ws xs → IsOwnAnnotation limit xs rest quantum →
      IsComponent limit prefix whole ds (name n at ∷ ts) rest (ds ++ record { prefix = prefix; whole = whole; name = n; size = length; start = begin; value = worth; quantum = quantum; at = at } ∷ [])

-- a declaration, with the declared components before and after it
pub data IsDeclaration (limit : ℕ) : List Declaration → List Symbol → List Symbol → List Declaration → Type 0 where
  declares : {i : ℕ} {prefix : Prefix} {whole : Bool} {ts mid rest : List Symbol} {ds es : List Declaration} → IsKind ts mid prefix whole → Commas (IsComponent limit prefix whole) ds mid (mark marks.Semicolon i ∷ rest) es → IsDeclaration limit ds ts rest es
