-- The line of text of each compiler error.
use Rattle.std.specs.Prelude.{ℕ, List, [], ◌∷◌, ◌++◌, map, codes, decimal, slice_index_or, flat_map}
use Rattle.std.specs.Fmt.{signed_decimal}
use Rattle.mu_affine.specs.declared.affine_fault.AffineErr.{AffineErr}
use Rattle.mu_affine.specs.declared.affine_fault.AffineErr.TheVariants as forming
use Rattle.mu_causal.specs.declared.causal_outcome.CausalErr.{CausalErr}
use Rattle.mu_causal.specs.declared.causal_outcome.CausalErr.TheVariants as ordering
use Rattle.mu_grammar.specs.declared.parse_fault.ParseErr.{ParseErr}
use Rattle.mu_grammar.specs.declared.parse_fault.ParseErr.TheVariants as parsing
use Rattle.mu_lexer.specs.declared.lexer.LexErr.{LexErr}
use Rattle.mu_lexer.specs.declared.lexer.LexErr.TheVariants as lexing
use Rattle.mu_affine.specs.declared.machine_fault.MachineErr.{MachineErr}
use Rattle.mu_affine.specs.declared.machine_fault.MachineErr.TheVariants as rounding
use Rattle.mu_names.specs.declared.name_fault.NameErr.{NameErr}
use Rattle.mu_names.specs.declared.name_fault.NameErr.TheVariants as naming
use Rattle.mu_num.specs.Fraction.{Fraction}
use Rattle.mu_num.specs.declared.NumErr.{NumErr}
use Rattle.mu_num.specs.declared.NumErr.TheVariants.{Range, ZeroDivisor}
use Rattle.mu_tree.specs.declared.tree.SettingName.{SettingName}
use Rattle.mu_tree.specs.declared.tree.SettingName.TheVariants as setting
use Rattle.mu_unroll.specs.declared.unroll_fault.UnrollErr.{UnrollErr}
use Rattle.mu_unroll.specs.declared.unroll_fault.UnrollErr.TheVariants as unrolling
use Rattle.qss_compile.specs.declared.model_refusal.ModelErr.{ModelErr}
use Rattle.qss_compile.specs.declared.model_refusal.ModelErr.TheVariants.{Lex, Parse, Names, Unroll}
use Rattle.qss_compile.specs.declared.model_refusal.ModelErr.TheVariants.{Causal, Affine, Machine}
use Rattle.qss_compile.specs.declared.model_refusal.ModelErr.TheVariants.{Memory}
use Rattle.qss_compile.specs.declared.model_refusal.Refused.{Refused}

-- the number of an arithmetic fault: out of range, or division by zero
abbrev pub fault_number : NumErr → ℕ
fault_number Range = 1
fault_number ZeroDivisor = 2

-- the name of a setting
abbrev pub setting_text : SettingName → List ℕ
setting_text setting.StartTime = codes "StartTime"
setting_text setting.StopTime = codes "StopTime"
setting_text setting.CoefBits = codes "QSS_CoefBits"
setting_text setting.TickBits = codes "QSS_TickBits"
setting_text setting.LevelBits = codes "QSS_LevelBits"
setting_text setting.Quantum = codes "QSS_Quantum"

-- a fraction: its numerator, a slash and its denominator
abbrev pub ratio_text : Fraction → List ℕ
ratio_text a = signed_decimal a.num ++ codes "/" ++ decimal a.den

-- the name of a variable
abbrev pub variable_text : List (List ℕ) → ℕ → List ℕ
variable_text names v = slice_index_or names v []

-- the phase, the number and the fields of an error
pub record Reason : Type 0 where
  pub phase : List ℕ
  pub number : ℕ
  pub fields : List (List ℕ)

abbrev pub reason : List ℕ → ℕ → List (List ℕ) → Reason
reason phase number fields = record { phase = phase; number = number; fields = fields }

-- the errors of the lexer
abbrev pub lexer_reason : LexErr → Reason
lexer_reason (lexing.NoToken at) = reason (codes "lex") 1 (decimal at ∷ [])
lexer_reason (lexing.OpenComment at) = reason (codes "lex") 2 (decimal at ∷ [])
lexer_reason (lexing.OpenString at) = reason (codes "lex") 3 (decimal at ∷ [])
lexer_reason lexing.Memory = reason (codes "lex") 4 []

-- the errors of the parser
abbrev pub parser_reason : ParseErr → Reason
parser_reason (parsing.Syntax token) = reason (codes "parse") 1 (decimal token ∷ [])
parser_reason (parsing.Deep token) = reason (codes "parse") 2 (decimal token ∷ [])
parser_reason parsing.Memory = reason (codes "parse") 3 []

-- the errors of names
abbrev pub names_reason : NameErr → Reason
names_reason (naming.EndName at) = reason (codes "names") 1 (decimal at ∷ [])
names_reason (naming.Duplicate at) = reason (codes "names") 2 (decimal at ∷ [])
names_reason (naming.Unknown at) = reason (codes "names") 3 (decimal at ∷ [])
names_reason (naming.Misused at) = reason (codes "names") 4 (decimal at ∷ [])
names_reason (naming.NoValue at) = reason (codes "names") 5 (decimal at ∷ [])
names_reason (naming.NotWhole at) = reason (codes "names") 6 (decimal at ∷ [])
names_reason (naming.Size at value) = reason (codes "names") 7 (decimal at ∷ signed_decimal value ∷ [])
names_reason (naming.ConstFault at fault) = reason (codes "names") 8 (decimal at ∷ decimal (fault_number fault) ∷ [])
names_reason naming.Memory = reason (codes "names") 9 []

-- the errors of unrolling
abbrev pub unrolling_reason : UnrollErr → Reason
unrolling_reason (unrolling.Index at value size) = reason (codes "unroll") 1 (decimal at ∷ signed_decimal value ∷ decimal size ∷ [])
unrolling_reason (unrolling.NotWhole at) = reason (codes "unroll") 2 (decimal at ∷ [])
unrolling_reason (unrolling.TooMany count) = reason (codes "unroll") 3 (decimal count ∷ [])
unrolling_reason (unrolling.ConstFault at fault) = reason (codes "unroll") 4 (decimal at ∷ decimal (fault_number fault) ∷ [])
unrolling_reason unrolling.Memory = reason (codes "unroll") 5 []

-- the errors of the causal order; `names` are the names of the variables
abbrev pub order_reason : List (List ℕ) → CausalErr → Reason
order_reason names (ordering.NoEquation var) = reason (codes "causal") 1 (variable_text names var ∷ [])
order_reason names (ordering.TwoEquations var first second) = reason (codes "causal") 2 (variable_text names var ∷ decimal first ∷ decimal second ∷ [])
order_reason names (ordering.Loop vars) = reason (codes "causal") 3 (map (variable_text names) vars)
order_reason names ordering.Memory = reason (codes "causal") 4 []

-- the errors of affine forms
abbrev pub forms_reason : AffineErr → Reason
forms_reason (forming.NotAffine at) = reason (codes "affine") 1 (decimal at ∷ [])
forms_reason (forming.TimeHere at) = reason (codes "affine") 2 (decimal at ∷ [])
forms_reason (forming.ConstFault at fault) = reason (codes "affine") 3 (decimal at ∷ decimal (fault_number fault) ∷ [])
forms_reason (forming.TooDense count) = reason (codes "affine") 4 (decimal count ∷ [])
forms_reason forming.Memory = reason (codes "affine") 5 []

-- the errors of rounding; `names` are the names of the variables
abbrev pub rounding_reason : List (List ℕ) → MachineErr → Reason
rounding_reason names (rounding.Setting which value) = reason (codes "machine") 1 (setting_text which ∷ ratio_text value ∷ [])
rounding_reason names (rounding.Start var) = reason (codes "machine") 2 (variable_text names var ∷ [])
rounding_reason names (rounding.Quantum var) = reason (codes "machine") 3 (variable_text names var ∷ [])
rounding_reason names (rounding.Coefficient row) = reason (codes "machine") 4 (decimal row ∷ [])
rounding_reason names rounding.Memory = reason (codes "machine") 5 []

-- the fields, each after one space
abbrev pub fields_text : List (List ℕ) → List ℕ
fields_text fields = flat_map (λ field. 32 ∷ field) fields

-- the line of an error's phase, number and fields
abbrev pub reason_line : Reason → List ℕ
reason_line r = codes "refused: " ++ r.phase ++ codes " " ++ decimal r.number ++ fields_text r.fields ++ codes "\n"

-- the line of an error; `names` are the names of the flat model's variables
abbrev pub error_line : List (List ℕ) → ModelErr → List ℕ
error_line names (Lex fault) = reason_line (lexer_reason fault)
error_line names (Parse fault) = reason_line (parser_reason fault)
error_line names (Names fault) = reason_line (names_reason fault)
error_line names (Unroll fault) = reason_line (unrolling_reason fault)
error_line names (Causal fault) = reason_line (order_reason names fault)
error_line names (Affine fault) = reason_line (forms_reason fault)
error_line names (Machine fault) = reason_line (rounding_reason names fault)
error_line names Memory = codes "out of memory\n"

-- the line of an error with its names
abbrev pub line_of : Refused → List ℕ
line_of r = error_line r.names r.error
