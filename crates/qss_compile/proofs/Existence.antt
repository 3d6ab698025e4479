-- Each source compiles to a machine or is refused.
use Rattle.qss_compile.proofs.Common
use Common.{ℕ, ◌<◌, ◌≡◌, ◌⊎◌, AffineErr, AreFaultless, AreForms, AreTokens, Err, FlatCompilesTo}
use Common.{FlatModelTree, FlatSource, Forms, forms_of, FormsRefuse, FormsSoFar, HasOrder, inl, inr}
use Common.{IsFirstRefusal, IsFlatModel, IsFlatOf, IsFlatRefused, IsMachineOf, IsNotFlat}
use Common.{IsParseRefusal, IsTreeRefused, LexerRefuses, List, machine_fault, MachineErr}
use Common.{model_decides, model_faults, model_machine, ModelTree, NameErr, None, of_forms}
use Common.{of_lexer, of_names, of_parser, of_rounding, of_unrolling, Ok, Option, OrderRefuses}
use Common.{ParseErr, ParserRefuses, refl, Result, RoundingRefuses, scope_of, Settings, settings_in}
use Common.{Some, SourceParsesAs, Spells, SpellsModel, subst, sym, symbols, Through, Token}
use Common.{TreeCompilesTo, unrolled, UnrollErr, with_names, without_names}
use Rattle.std.proofs.lemmas.Result.{IfOk-at_ok}
use Rattle.mu_grammar.specs.Prefixes.{IsReason}
use Rattle.mu_grammar.proofs.Judged.{judged}
use Rattle.mu_affine.proofs.OneMachine.{machine_exists}
use Rattle.mu_names.specs.LeastFaults.{least_of}
use Rattle.mu_names.proofs.LeastLaws.{least_is, none_left}
use Rattle.mu_unroll.proofs.FlatModels.{flat_model_right}
use Rattle.qss_compile.specs.SourceLaws.{SourcesAreDecided}
use Rattle.qss_compile.proofs.Bridge.{forms_for}
use Rattle.qss_compile.proofs.Causal.{order_decides}
use Rattle.qss_compile.proofs.Deciding.{Decides, then_decides}
use Rattle.qss_compile.proofs.Formed.{forms_exist}
use Rattle.qss_compile.proofs.Lexing.{Lexed, lexed}
use Rattle.qss_compile.proofs.Settled.{stop_positive}
use Rattle.qss_compile.proofs.WellFormed.{well_formed}

lexer_decides : (bytes : List ℕ) → Decides (LexerRefuses bytes) (AreTokens bytes)
lexer_decides bytes = by (lexed bytes)
  where
    by : Lexed bytes → Decides (LexerRefuses bytes) (AreTokens bytes)
    by (inl found) = inl (found.0, found.1)
    by (inr fails) = inr (without_names (of_lexer fails.0), (fails.0, fails.1, refl))

parser_decides : (bytes : List ℕ) (tokens : List Token) → Decides (ParserRefuses bytes tokens) (Spells bytes tokens)
parser_decides bytes tokens = by (judged model_machine SpellsModel model_decides 64 (symbols bytes tokens))
  where
    by : ((tree : ModelTree) × SpellsModel 64 (symbols bytes tokens) tree) ⊎ ((fault : ParseErr) × IsReason SpellsModel 64 (symbols bytes tokens) fault) → Decides (ParserRefuses bytes tokens) (Spells bytes tokens)
    by (inl found) = inl (found.0, found.1)
    by (inr fails) = inr (without_names (of_parser fails.0), (fails.0, fails.1.0, fails.1.1, refl))

pub spelled_decides : (bytes : List ℕ) → Decides (IsParseRefusal bytes) (SourceParsesAs bytes)
spelled_decides bytes = then_decides (LexerRefuses bytes) (AreTokens bytes) (ParserRefuses bytes) (Spells bytes) (lexer_decides bytes) (λ tokens are. parser_decides bytes tokens)

module _ (tree : ModelTree) where
  unrolling_decides : AreFaultless tree → (r : Result FlatModelTree UnrollErr) → unrolled tree (scope_of tree).known ≡ r → Decides (IsNotFlat tree) (IsFlatOf tree)
  unrolling_decides named (Ok flat) e = inl (record { flat = flat; settings = settings_in tree }, (named, e, refl))
  unrolling_decides named (Err fault) e = inr (without_names (of_unrolling fault), inr (named, (fault, e, refl)))

  names_decide : (o : Option NameErr) → least_of None (model_faults tree) ≡ o → Decides (IsNotFlat tree) (IsFlatOf tree)
  names_decide None e = unrolling_decides (none_left (model_faults tree) e) (unrolled tree (scope_of tree).known) refl
  names_decide (Some fault) e = inr (without_names (of_names fault), inl (fault, least_is (model_faults tree) fault e, refl))

  flat_decides : Decides (IsNotFlat tree) (IsFlatOf tree)
  flat_decides = names_decide (least_of None (model_faults tree)) refl

-- forms are taken or refused
forms_decide : (m : FlatModelTree) (order : List ℕ) → IsFlatModel m → Decides (FormsRefuse m order) (AreForms m order)
forms_decide m order flat = by (forms_of m order) refl
  where
    by : (x : Result FormsSoFar AffineErr) → forms_of m order ≡ x → Decides (FormsRefuse m order) (AreForms m order)
    by (Ok taken) e = inl (forms_exist m order taken flat e)
    by (Err fault) e = inr (with_names m (of_forms fault), (fault, e, refl))

-- and rounded or refused
rounding_decides : (s : FlatSource) (order : List ℕ) (forms : Forms) → IsFlatModel s.flat → 0 < s.settings.stop.den → AreForms s.flat order forms → Decides (RoundingRefuses s.flat s.settings forms) (IsMachineOf forms.forms s.flat s.settings)
rounding_decides s order forms flat positive are = by (machine_fault forms.forms s.flat s.settings) refl
  where
    by : (o : Option MachineErr) → machine_fault forms.forms s.flat s.settings ≡ o → Decides (RoundingRefuses s.flat s.settings forms) (IsMachineOf forms.forms s.flat s.settings)
    by None e = inl (machine_exists forms.forms s.flat s.settings flat (forms_for s.flat order forms are) positive e)
    by (Some fault) e = inr (with_names s.flat (of_rounding fault), (fault, e, refl))

flat_means_decides : (s : FlatSource) → IsFlatModel s.flat → 0 < s.settings.stop.den → Decides (IsFlatRefused s) (FlatCompilesTo s)
flat_means_decides s flat positive =
    then_decides (OrderRefuses s.flat) (HasOrder s.flat) (λ order. IsFirstRefusal (FormsRefuse s.flat order) (AreForms s.flat order) (RoundingRefuses s.flat s.settings))
    (λ order. Through (AreForms s.flat order) (λ forms. IsMachineOf forms.forms s.flat s.settings)) (order_decides s.flat) (λ order has.
    then_decides (FormsRefuse s.flat order) (AreForms s.flat order) (RoundingRefuses s.flat s.settings) (λ forms. IsMachineOf forms.forms s.flat s.settings) (forms_decide s.flat order flat) (λ forms are. rounding_decides s order forms flat positive are))

-- a parsed model compiles to a machine or is refused
tree_decides : (bytes : List ℕ) (tree : ModelTree) → SourceParsesAs bytes tree → Decides (IsTreeRefused tree) (TreeCompilesTo tree)
tree_decides bytes tree spelled = then_decides (IsNotFlat tree) (IsFlatOf tree) IsFlatRefused FlatCompilesTo (flat_decides tree) (λ s is. flat_means_decides s (flat s is) (positive s is))
  where
    flat : (s : FlatSource) → IsFlatOf tree s → IsFlatModel s.flat
    flat s is = IfOk-at_ok IsFlatModel is.1 (flat_model_right tree (scope_of tree).known (well_formed 64 (symbols bytes spelled.0) tree spelled.2))

    positive : (s : FlatSource) → IsFlatOf tree s → 0 < s.settings.stop.den
    positive s is = subst (λ (t : Settings). 0 < t.stop.den) (sym is.2) (stop_positive tree)

-- each source compiles to a machine or is refused
pub sources_decided : SourcesAreDecided
sources_decided bytes = then_decides (IsParseRefusal bytes) (SourceParsesAs bytes) IsTreeRefused TreeCompilesTo (spelled_decides bytes) (λ tree spelled. tree_decides bytes tree spelled)
