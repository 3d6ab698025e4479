-- The text of a field of an error's line.
use Rattle.std.specs.Prelude.{ℕ, List, decimal}
use Rattle.std.specs.Fmt.{signed_decimal}
use Rattle.qss_compile.specs.declared.model_refusal.Field.{Field}
use Rattle.qss_compile.specs.declared.model_refusal.Field.TheVariants.{Number, Whole, Share}
use Rattle.qss_compile.specs.declared.model_refusal.Field.TheVariants.{Setting, Variable}
use Rattle.qss_compile.specs.RefusalLines.{ratio_text, setting_text, variable_text}

-- the text of a field; `names` are the names of the variables
abbrev pub field_text : List (List ℕ) → Field → List ℕ
field_text names (Number n) = decimal n
field_text names (Whole z) = signed_decimal z
field_text names (Share a) = ratio_text a
field_text names (Setting which) = setting_text which
field_text names (Variable var) = variable_text names var
