-- The specification of the compiler: the machine or the first error of a source.
use Rattle.std.specs.Prelude.{◌≡◌, ◌⊎◌, ℕ, List}
use Rattle.mu_affine.specs.KeptForms.{AreForms}
use Rattle.mu_lexer.specs.Tokens.{AreTokens}
use Rattle.mu_affine.specs.RoundedMachines.{IsMachineOf}
use Rattle.mu_names.specs.Roles.{settings_in}
use Rattle.mu_tree.specs.FlatExpression.{FlatModelTree}
use Rattle.mu_tree.specs.ModelTree.{ModelTree}
use Rattle.mu_tree.specs.declared.flat.Settings.{Settings}
use Rattle.qss_compile.specs.Phases.{LexerRefuses, Spells, ParserRefuses, AreFaultless, NamesRefuse}
use Rattle.qss_compile.specs.Phases.{UnrollsTo, UnrollingRefuses, HasOrder, OrderRefuses}
use Rattle.qss_compile.specs.Phases.{FormsRefuse, RoundingRefuses}
use Rattle.qss_compile.specs.declared.model_refusal.ModelErr.TheVariants.{Memory}
use Rattle.qss_compile.specs.declared.model_refusal.Refused.{Refused}
use Rattle.qss_machine.specs.declared.compiled_machine.Machine.{Machine}

-- some result of a phase leads to b
abbrev pub Through : {A B : Type 0} → (A → Type 0) → (A → B → Type 0) → B → Type 0
Through {A} Gives Later b = (a : A) × Gives a × Later a b

-- the error of a phase, or the error of a later phase on a result of this phase
abbrev pub IsFirstRefusal : {A : Type 0} → (Refused → Type 0) → (A → Type 0) → (A → Refused → Type 0) → Refused → Type 0
IsFirstRefusal Refuses Gives Later r = Refuses r ⊎ Through Gives Later r

-- the source parses as this model
abbrev pub SourceParsesAs : List ℕ → ModelTree → Type 0
SourceParsesAs bytes = Through (AreTokens bytes) (Spells bytes)

-- some source parses as this model
abbrev pub IsParsedModel : ModelTree → Type 0
IsParsedModel tree = (bytes : List ℕ) × SourceParsesAs bytes tree

-- a flat model with its settings
pub record FlatSource : Type 0 where
  pub flat : FlatModelTree
  pub settings : Settings

-- the flat model with its settings denotes the machine
abbrev pub FlatCompilesTo : FlatSource → Machine → Type 0
FlatCompilesTo s = Through (HasOrder s.flat) (λ order. Through (AreForms s.flat order) (λ forms. IsMachineOf forms.forms s.flat s.settings))

-- the model has this flat model with these settings
abbrev pub IsFlatOf : ModelTree → FlatSource → Type 0
IsFlatOf tree s = AreFaultless tree × UnrollsTo tree s.flat × (s.settings ≡ settings_in tree)

-- the model denotes the machine
abbrev pub TreeCompilesTo : ModelTree → Machine → Type 0
TreeCompilesTo tree = Through (IsFlatOf tree) FlatCompilesTo

-- the source denotes the machine: no phase rejects it
abbrev pub CompilesTo : List ℕ → Machine → Type 0
CompilesTo bytes = Through (SourceParsesAs bytes) TreeCompilesTo

-- the error of a source that does not parse
abbrev pub IsParseRefusal : List ℕ → Refused → Type 0
IsParseRefusal bytes = IsFirstRefusal (LexerRefuses bytes) (AreTokens bytes) (ParserRefuses bytes)

-- the error of a model that has no flat model
abbrev pub IsNotFlat : ModelTree → Refused → Type 0
IsNotFlat tree r = NamesRefuse tree r ⊎ (AreFaultless tree × UnrollingRefuses tree r)

-- the error of a flat model with its settings
abbrev pub IsFlatRefused : FlatSource → Refused → Type 0
IsFlatRefused s =
    IsFirstRefusal (OrderRefuses s.flat) (HasOrder s.flat) (λ order. IsFirstRefusal (FormsRefuse s.flat order) (AreForms s.flat order) (RoundingRefuses s.flat s.settings))

-- the error of a model
abbrev pub IsTreeRefused : ModelTree → Refused → Type 0
IsTreeRefused tree = IsFirstRefusal (IsNotFlat tree) (IsFlatOf tree) IsFlatRefused

-- the error of the first phase that rejects the source
abbrev pub IsRefused : List ℕ → Refused → Type 0
IsRefused bytes = IsFirstRefusal (IsParseRefusal bytes) (SourceParsesAs bytes) IsTreeRefused

-- an error of this kind, or an allocation failure
abbrev pub IsErr : (Refused → Type 0) → Refused → Type 0
IsErr Refuses r = (r.error ≡ Memory) ⊎ Refuses r
