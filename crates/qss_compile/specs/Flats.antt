-- The logical view of a flat model with its settings.
use Rattle.mu_tree.specs.FlatExpression.{flat_model}
use Rattle.qss_compile.specs.Compilation.{FlatSource}
use Rattle.qss_compile.specs.declared.compiler.Flat.{Flat}

-- the logical view of a flat model with its settings
abbrev pub flat_source : Flat → FlatSource
flat_source f = record { flat = flat_model f.model; settings = f.settings }
