-- The results and the errors of each phase.
use Rattle.std.specs.Prelude.{◌≡◌, ◌≢◌, ℕ, List, [], Ok, Err, Some}
use Rattle.mu_affine.specs.FormSequence.{forms_of}
use Rattle.mu_affine.specs.declared.affine_fault.AffineErr.{AffineErr}
use Rattle.mu_causal.specs.OrderResults.{IsCausalFault}
use Rattle.mu_causal.specs.Causality.{IsOrder}
use Rattle.mu_causal.specs.Dependencies.{EachHasOneEquation, IsAlgebraic, DependsOn}
use Rattle.mu_causal.specs.declared.causal_outcome.CausalErr.{CausalErr}
use Rattle.mu_causal.specs.declared.causal_outcome.CausalErr.TheVariants as ordering
use Rattle.mu_affine.specs.declared.exact_form.Forms.{Forms}
use Rattle.mu_grammar.specs.Prefixes.{IsFault}
use Rattle.mu_grammar.specs.ModelGrammar.{SpellsModel}
use Rattle.mu_grammar.specs.Symbols.{symbols}
use Rattle.mu_grammar.specs.declared.parse_fault.ParseErr.{ParseErr}
use Rattle.mu_grammar.specs.declared.parse_fault.ParseErr.TheVariants as parsing
use Rattle.mu_lexer.specs.Tokens.{IsFirstFault}
use Rattle.mu_lexer.specs.declared.lexer.LexErr.{LexErr}
use Rattle.mu_lexer.specs.declared.token.Token.{Token}
use Rattle.mu_affine.specs.MachineChecks.{machine_fault}
use Rattle.mu_affine.specs.declared.machine_fault.MachineErr.{MachineErr}
use Rattle.mu_names.specs.LeastFaults.{IsLeastFault}
use Rattle.mu_names.specs.Roles.{model_faults, scope_of}
use Rattle.mu_names.specs.declared.name_fault.NameErr.{NameErr}
use Rattle.mu_tree.specs.FlatExpression.{FlatModelTree}
use Rattle.mu_tree.specs.ModelTree.{ModelTree}
use Rattle.mu_tree.specs.declared.flat.Settings.{Settings}
use Rattle.mu_unroll.specs.Unrolling.{unrolled}
use Rattle.mu_unroll.specs.declared.unroll_fault.UnrollErr.{UnrollErr}
use Rattle.qss_compile.specs.Causes.{of_lexer, of_parser, of_names, of_unrolling, of_order}
use Rattle.qss_compile.specs.Causes.{of_forms, of_rounding, without_names, with_names}
use Rattle.qss_compile.specs.declared.model_refusal.Refused.{Refused}

-- The lexer returns tokens (`AreTokens`), or the first error from the left.
abbrev pub LexerRefuses : List ℕ → Refused → Type 0
LexerRefuses bytes r = (fault : LexErr) × IsFirstFault bytes fault × (r ≡ without_names (of_lexer fault))

-- The parser returns the model that the tokens parse as, nested at most 64 levels deep.
abbrev pub Spells : List ℕ → List Token → ModelTree → Type 0
Spells bytes tokens tree = SpellsModel 64 (symbols bytes tokens) tree

-- Its error is the first token after which the input is not a prefix of any model, or an early end.
abbrev pub ParserRefuses : List ℕ → List Token → Refused → Type 0
ParserRefuses bytes tokens r =
    (fault : ParseErr) × (fault ≢ parsing.Memory) × IsFault SpellsModel 64 (symbols bytes tokens) fault × (r ≡ without_names (of_parser fault))

-- The names of the model have no error.
abbrev pub AreFaultless : ModelTree → Type 0
AreFaultless tree = model_faults tree ≡ []

-- The reported error is the one with the least offset, and among those the one with the least
-- number.
abbrev pub NamesRefuse : ModelTree → Refused → Type 0
NamesRefuse tree r = (fault : NameErr) × IsLeastFault (model_faults tree) fault × (r ≡ without_names (of_names fault))

-- The model unrolls to this flat model.
abbrev pub UnrollsTo : ModelTree → FlatModelTree → Type 0
UnrollsTo tree flat = unrolled tree (scope_of tree).known ≡ Ok flat

-- The reported error is the first one in the order of unrolling.
abbrev pub UnrollingRefuses : ModelTree → Refused → Type 0
UnrollingRefuses tree r = (fault : UnrollErr) × (unrolled tree (scope_of tree).known ≡ Err fault) × (r ≡ without_names (of_unrolling fault))

-- Each state and each algebraic variable has exactly one equation, and the algebraic variables have
-- this causal order.
abbrev pub HasOrder : FlatModelTree → List ℕ → Type 0
HasOrder flat order = EachHasOneEquation flat × IsOrder (IsAlgebraic flat) (DependsOn flat) order

-- The error is the least variable that does not have exactly one equation, or else a cycle.
abbrev pub OrderRefuses : FlatModelTree → Refused → Type 0
OrderRefuses flat r = (fault : CausalErr) × (fault ≢ ordering.Memory) × IsCausalFault flat fault × (r ≡ with_names flat (of_order fault))

-- The error is the first one in the sequence of forms; `AreForms` defines the result.
abbrev pub FormsRefuse : FlatModelTree → List ℕ → Refused → Type 0
FormsRefuse flat order r = (fault : AffineErr) × (forms_of flat order ≡ Err fault) × (r ≡ with_names flat (of_forms fault))

-- The error is the first limit that a number exceeds; `IsMachineOf` defines the result.
abbrev pub RoundingRefuses : FlatModelTree → Settings → Forms → Refused → Type 0
RoundingRefuses flat settings forms r =
    (fault : MachineErr) × (machine_fault forms.forms flat settings ≡ Some fault) × (r ≡ with_names flat (of_rounding fault))
