-- The errors of each phase as errors of the compiler.
use Rattle.std.specs.Prelude.{[], map, Bool, true, false}
use Rattle.mu_lexer.specs.declared.lexer.LexErr.{LexErr}
use Rattle.mu_lexer.specs.declared.lexer.LexErr.TheVariants as lexing
use Rattle.mu_grammar.specs.declared.parse_fault.ParseErr.{ParseErr}
use Rattle.mu_grammar.specs.declared.parse_fault.ParseErr.TheVariants as parsing
use Rattle.mu_names.specs.declared.name_fault.NameErr.{NameErr}
use Rattle.mu_names.specs.declared.name_fault.NameErr.TheVariants as naming
use Rattle.mu_unroll.specs.declared.unroll_fault.UnrollErr.{UnrollErr}
use Rattle.mu_unroll.specs.declared.unroll_fault.UnrollErr.TheVariants as unrolling
use Rattle.mu_causal.specs.declared.causal_outcome.CausalErr.{CausalErr}
use Rattle.mu_causal.specs.declared.causal_outcome.CausalErr.TheVariants as ordering
use Rattle.mu_affine.specs.declared.affine_fault.AffineErr.{AffineErr}
use Rattle.mu_affine.specs.declared.affine_fault.AffineErr.TheVariants as forming
use Rattle.mu_affine.specs.declared.machine_fault.MachineErr.{MachineErr}
use Rattle.mu_affine.specs.declared.machine_fault.MachineErr.TheVariants as rounding
use Rattle.mu_tree.specs.FlatExpression.{FlatModelTree}
use Rattle.qss_compile.specs.declared.model_refusal.ModelErr.{ModelErr}
use Rattle.qss_compile.specs.declared.model_refusal.ModelErr.TheVariants.{Lex, Parse, Names, Unroll}
use Rattle.qss_compile.specs.declared.model_refusal.ModelErr.TheVariants.{Causal, Affine, Machine}
use Rattle.qss_compile.specs.declared.model_refusal.ModelErr.TheVariants.{Memory}
use Rattle.qss_compile.specs.declared.model_refusal.Refused.{Refused}

-- an error of the lexer
abbrev pub of_lexer : LexErr → ModelErr
of_lexer lexing.Memory = Memory
of_lexer (lexing.NoToken at) = Lex (lexing.NoToken at)
of_lexer (lexing.OpenComment at) = Lex (lexing.OpenComment at)
of_lexer (lexing.OpenString at) = Lex (lexing.OpenString at)

-- an error of the parser
abbrev pub of_parser : ParseErr → ModelErr
of_parser parsing.Memory = Memory
of_parser (parsing.Syntax token) = Parse (parsing.Syntax token)
of_parser (parsing.Deep token) = Parse (parsing.Deep token)

-- an error of the names
abbrev pub of_names : NameErr → ModelErr
of_names naming.Memory = Memory
of_names (naming.EndName at) = Names (naming.EndName at)
of_names (naming.Duplicate at) = Names (naming.Duplicate at)
of_names (naming.Unknown at) = Names (naming.Unknown at)
of_names (naming.Misused at) = Names (naming.Misused at)
of_names (naming.NoValue at) = Names (naming.NoValue at)
of_names (naming.NotWhole at) = Names (naming.NotWhole at)
of_names (naming.Size at value) = Names (naming.Size at value)
of_names (naming.ConstFault at fault) = Names (naming.ConstFault at fault)

-- an error of unrolling
abbrev pub of_unrolling : UnrollErr → ModelErr
of_unrolling unrolling.Memory = Memory
of_unrolling (unrolling.Index at value size) = Unroll (unrolling.Index at value size)
of_unrolling (unrolling.NotWhole at) = Unroll (unrolling.NotWhole at)
of_unrolling (unrolling.TooMany count) = Unroll (unrolling.TooMany count)
of_unrolling (unrolling.ConstFault at fault) = Unroll (unrolling.ConstFault at fault)

-- an error of the causal order
abbrev pub of_order : CausalErr → ModelErr
of_order ordering.Memory = Memory
of_order (ordering.NoEquation var) = Causal (ordering.NoEquation var)
of_order (ordering.TwoEquations var first second) = Causal (ordering.TwoEquations var first second)
of_order (ordering.Loop vars) = Causal (ordering.Loop vars)

-- an error of the affine forms
abbrev pub of_forms : AffineErr → ModelErr
of_forms forming.Memory = Memory
of_forms (forming.NotAffine at) = Affine (forming.NotAffine at)
of_forms (forming.TimeHere at) = Affine (forming.TimeHere at)
of_forms (forming.ConstFault at fault) = Affine (forming.ConstFault at fault)
of_forms (forming.TooDense count) = Affine (forming.TooDense count)

-- an error of the rounding to a machine
abbrev pub of_rounding : MachineErr → ModelErr
of_rounding rounding.Memory = Memory
of_rounding (rounding.Setting which value) = Machine (rounding.Setting which value)
of_rounding (rounding.Start var) = Machine (rounding.Start var)
of_rounding (rounding.Quantum var) = Machine (rounding.Quantum var)
of_rounding (rounding.Coefficient row) = Machine (rounding.Coefficient row)

-- an error before there is a flat model
abbrev pub without_names : ModelErr → Refused
without_names e = record { error = e; names = [] }

-- an error of a flat model, with the names of its variables
abbrev pub with_names : FlatModelTree → ModelErr → Refused
with_names m e = record { error = e; names = map (λ v. v.name) m.vars }

-- whether the error is an allocation failure
abbrev pub is_memory : ModelErr → Bool
is_memory Memory = true
is_memory e = false
