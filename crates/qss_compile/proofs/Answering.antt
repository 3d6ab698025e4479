-- What a phase answers as its fault is a refusal of the source, or an allocation failure.
use Rattle.qss_compile.proofs.Common
use Common.{ℕ, ◌≡◌, ◌⊎◌, AffineErr, ap, AreFaultless, AreForms, AreTokens, CausalErr, FlatModelTree}
use Common.{FlatSource, Forms, HasOrder, inl, inr, IsCausalFault, IsErr, IsFirstFault}
use Common.{IsFirstRefusal, IsFlatRefused, IsNotFlat, IsParseRefusal, LexErr, List, MachineErr}
use Common.{ModelErr, ModelTree, NameErr, of_forms, of_lexer, of_names, of_order, of_parser}
use Common.{of_rounding, of_unrolling, ParseErr, refl, Refused, scope_of, SpellsModel, subst, sym}
use Common.{symbols, Token, unrolled, UnrollErr, with_names, without_names}
use Rattle.mu_affine.specs.KeptForms.{IsAffineFault}
use Rattle.mu_grammar.specs.Prefixes.{IsFault}
use Rattle.mu_affine.specs.MachineChecks.{machine_checks, IsRefusal as IsLimit}
use Rattle.mu_names.specs.Roles.{IsRefusal}
use Rattle.mu_affine.specs.declared.affine_fault.AffineErr.TheVariants as forming
use Rattle.mu_causal.specs.declared.causal_outcome.CausalErr.TheVariants as ordering
use Rattle.mu_grammar.specs.declared.parse_fault.ParseErr.TheVariants as parsing
use Rattle.mu_lexer.specs.declared.lexer.LexErr.TheVariants as lexing
use Rattle.mu_names.specs.declared.name_fault.NameErr.TheVariants as naming
use Rattle.mu_unroll.specs.UnrollFaults as unroll
use Rattle.mu_unroll.specs.declared.unroll_fault.UnrollErr.TheVariants as unrolling

pub lexer_answer : (bytes : List ℕ) (fault : LexErr) → (fault ≡ lexing.Memory) ⊎ IsFirstFault bytes fault → IsErr (IsParseRefusal bytes) (without_names (of_lexer fault))
lexer_answer bytes fault (inl e) = inl (ap of_lexer e)
lexer_answer bytes fault (inr first) = inr (inl (fault, first, refl))

pub parser_answer : (bytes : List ℕ) (tokens : List Token) (fault : ParseErr) → AreTokens bytes tokens → IsFault SpellsModel 64 (symbols bytes tokens) fault → IsErr (IsParseRefusal bytes) (without_names (of_parser fault))
parser_answer bytes tokens (parsing.Syntax token) are stops = inr (inr (tokens, are, (parsing.Syntax token, λ e. cc e, stops, refl)))
parser_answer bytes tokens (parsing.Deep token) are stops = inr (inr (tokens, are, (parsing.Deep token, λ e. cc e, stops, refl)))
parser_answer bytes tokens parsing.Memory are stops = inl refl

pub names_answer : (tree : ModelTree) (fault : NameErr) → IsRefusal tree fault → IsErr (IsNotFlat tree) (without_names (of_names fault))
names_answer tree naming.Memory least = inl refl
names_answer tree (naming.EndName at) least = inr (inl (naming.EndName at, least, refl))
names_answer tree (naming.Duplicate at) least = inr (inl (naming.Duplicate at, least, refl))
names_answer tree (naming.Unknown at) least = inr (inl (naming.Unknown at, least, refl))
names_answer tree (naming.Misused at) least = inr (inl (naming.Misused at, least, refl))
names_answer tree (naming.NoValue at) least = inr (inl (naming.NoValue at, least, refl))
names_answer tree (naming.NotWhole at) least = inr (inl (naming.NotWhole at, least, refl))
names_answer tree (naming.Size at value) least = inr (inl (naming.Size at value, least, refl))
names_answer tree (naming.ConstFault at fault) least = inr (inl (naming.ConstFault at fault, least, refl))

pub unrolling_answer : (tree : ModelTree) (fault : UnrollErr) → AreFaultless tree → unroll.IsFault (unrolled tree (scope_of tree).known) fault → IsErr (IsNotFlat tree) (without_names (of_unrolling fault))
unrolling_answer tree unrolling.Memory named is = inl refl
unrolling_answer tree (unrolling.Index at value size) named is = inr (inr (named, (unrolling.Index at value size, is, refl)))
unrolling_answer tree (unrolling.NotWhole at) named is = inr (inr (named, (unrolling.NotWhole at, is, refl)))
unrolling_answer tree (unrolling.TooMany count) named is = inr (inr (named, (unrolling.TooMany count, is, refl)))
unrolling_answer tree (unrolling.ConstFault at fault) named is = inr (inr (named, (unrolling.ConstFault at fault, is, refl)))

pub order_answer : (s : FlatSource) (fault : CausalErr) → IsCausalFault s.flat fault → IsErr (IsFlatRefused s) (with_names s.flat (of_order fault))
order_answer s ordering.Memory is = inl refl
order_answer s (ordering.NoEquation var) is = inr (inl (ordering.NoEquation var, λ e. cc e, is, refl))
order_answer s (ordering.TwoEquations var first second) is = inr (inl (ordering.TwoEquations var first second, λ e. cc e, is, refl))
order_answer s (ordering.Loop vars) is = inr (inl (ordering.Loop vars, λ e. cc e, is, refl))

pub forms_answer : (s : FlatSource) (order : List ℕ) (fault : AffineErr) → HasOrder s.flat order → IsAffineFault s.flat order fault → IsErr (IsFlatRefused s) (with_names s.flat (of_forms fault))
forms_answer s order forming.Memory has is = inl refl
forms_answer s order (forming.NotAffine at) has is = inr (inr (order, has, inl (forming.NotAffine at, is, refl)))
forms_answer s order (forming.TimeHere at) has is = inr (inr (order, has, inl (forming.TimeHere at, is, refl)))
forms_answer s order (forming.ConstFault at fault) has is = inr (inr (order, has, inl (forming.ConstFault at fault, is, refl)))
forms_answer s order (forming.TooDense count) has is = inr (inr (order, has, inl (forming.TooDense count, is, refl)))

pub rounding_answer : (s : FlatSource) (order : List ℕ) (forms : Forms) (fault : MachineErr) → HasOrder s.flat order → AreForms s.flat order forms → IsLimit (machine_checks forms.forms s.flat s.settings) fault
    → IsErr (IsFlatRefused s) (with_names s.flat (of_rounding fault))
rounding_answer s order forms fault has are (inl e) = inl (ap of_rounding e)
rounding_answer s order forms fault has are (inr is) = inr (inr (order, has, inr (forms, are, (fault, is, refl))))

-- an answer of the first phase, and one of the phases after it
pub first_answer : {A : Type 0} (Refuses : Refused → Type 0) (Gives : A → Type 0) (Later : A → Refused → Type 0) (r : Refused) → IsErr Refuses r → IsErr (IsFirstRefusal Refuses Gives Later) r
first_answer Refuses Gives Later r (inl e) = inl e
first_answer Refuses Gives Later r (inr refused) = inr (inl refused)

pub later_answer : {A : Type 0} (Refuses : Refused → Type 0) (Gives : A → Type 0) (Later : A → Refused → Type 0) (a : A) (r : Refused) → Gives a → IsErr (Later a) r → IsErr (IsFirstRefusal Refuses Gives Later) r
later_answer Refuses Gives Later a r given (inl e) = inl e
later_answer Refuses Gives Later a r given (inr refused) = inr (inr (a, given, refused))

-- an answer with the names of the variables, or an allocation failure for them
pub named_answer : (m : FlatModelTree) (Refuses : Refused → Type 0) (e : ModelErr) (r : Refused) → IsErr (λ x. x ≡ with_names m e) r → IsErr Refuses (with_names m e) → IsErr Refuses r
named_answer m Refuses e r (inl memory) answer = inl memory
named_answer m Refuses e r (inr same) answer = subst (λ (x : Refused). IsErr Refuses x) (sym same) answer
