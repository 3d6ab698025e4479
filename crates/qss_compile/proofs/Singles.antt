-- Each phase returns at most one thing, or refuses for one cause, and not both.
use Rattle.qss_compile.proofs.Common
use Common.{[], ℕ, ◌∙◌, ◌∷◌, ◌≡◌, ◌≢◌, ◌⊎◌, ap, AreAlike, AreForms, AreTokens, arith, cases_lt}
use Common.{CausalErr, CompilesTo, Contains, DependsOn, EachBelowHasOneEquation, EachHasOneEquation}
use Common.{equation_numbers, Err, false, FlatCompilesTo, FlatModelTree, FlatSource, Forms}
use Common.{forms_of, FormsRefuse, HasOneEquation, HasOrder, inl, inr, IsAlgebraic, IsCausalFault}
use Common.{IsFirstFault, IsFirstRefusal, IsFlatOf, IsFlatRefused, IsMachineOf, IsNotFlat}
use Common.{IsParseRefusal, IsRefused, IsTreeRefused, LexErr, LexerRefuses, List, machine_fault}
use Common.{MachineErr, model_decides, model_faults, model_machine, ModelTree, NameErr, nat_tests}
use Common.{None, of_forms, of_lexer, of_names, of_order, of_parser, of_rounding, of_unrolling, Ok}
use Common.{Option, OrderRefuses, ParserRefuses, refl, Refused, Result, RoundingRefuses, scope_of}
use Common.{Settings, Some, SourceParsesAs, Spells, SpellsModel, subst, sym, symbols, Through}
use Common.{Token, TreeCompilesTo, unrolled, WantsEquation, with_names, without_names}
use Rattle.mu_causal.proofs.Cycles.{no_cycle}
use Rattle.mu_causal.proofs.Orders.{one_order}
use Rattle.mu_grammar.specs.Prefixes.{ParseFaultsAreUnique}
use Rattle.mu_grammar.proofs.Fronts.{unique}
use Rattle.mu_grammar.proofs.Judged.{judged_once}
use Rattle.mu_lexer.proofs.Progress.{one_list}
use Rattle.mu_names.specs.LeastFaults.{place, number, is_before, IsLeastFault}
use Rattle.mu_affine.proofs.OneMachine.{one_machine}
use Rattle.qss_compile.specs.Phases.{NamesRefuse}
use Rattle.qss_compile.specs.declared.model_refusal.ModelErr.TheVariants.{Names}
use Rattle.qss_compile.proofs.Canonical.{one_forms}
use Rattle.qss_compile.proofs.Deciding.{Single, then_single}
use Rattle.mu_grammar.proofs.SourceTokens.{are_tokens}
use Rattle.qss_compile.proofs.Lexing.{Lexed, lexed}
use Rattle.mu_causal.specs.declared.causal_outcome.CausalErr.TheVariants as ordering
use Rattle.mu_names.specs.declared.name_fault.NameErr.TheVariants as naming

-- what two refusals come of is one
refused_alike : {F : Type 0} (make : F → Refused) (f g : F) (r s : Refused) → f ≡ g → r ≡ make f → s ≡ make g → r ≡ s
refused_alike make f g r s e p q = p ∙ ap make e ∙ sym q

one_error : {A E : Type 0} (x : Result A E) (f g : E) → x ≡ Err f → x ≡ Err g → f ≡ g
one_error x f g p q = let e = sym p ∙ q in cc e

one_value : {A E : Type 0} (x : Result A E) (a b : A) → x ≡ Ok a → x ≡ Ok b → a ≡ b
one_value x a b p q = let e = sym p ∙ q in cc e

not_both : {A E : Type 0} (x : Result A E) (a : A) (f : E) → x ≡ Ok a → x ≡ Err f → ⊥
not_both x a f p q = let e = sym p ∙ q in cc e

lexer_single : (bytes : List ℕ) → Single (LexerRefuses bytes) (AreTokens bytes)
lexer_single bytes = record { one = one_list bytes; alike = alike; apart = apart }
  where
    one_fault : Lexed bytes → (f g : LexErr) → IsFirstFault bytes f → IsFirstFault bytes g → f ≡ g
    one_fault (inl found) f g p q = absurd (found.2 f p)
    one_fault (inr fails) f g p q = sym (fails.2 f p) ∙ fails.2 g q

    alike : (r s : Refused) → LexerRefuses bytes r → LexerRefuses bytes s → AreAlike r s
    alike r s p q = inl (refused_alike (λ f. without_names (of_lexer f)) p.0 q.0 r s (one_fault (lexed bytes) p.0 q.0 p.1 q.1) p.2 q.2)

    no_both : Lexed bytes → (ts : List Token) (f : LexErr) → AreTokens bytes ts → IsFirstFault bytes f → ⊥
    no_both (inl found) ts f are p = found.2 f p
    no_both (inr fails) ts f are p = fails.3 ts are

    apart : (ts : List Token) (r : Refused) → AreTokens bytes ts → LexerRefuses bytes r → ⊥
    apart ts r are p = no_both (lexed bytes) ts p.0 are p.1

parser_single : (bytes : List ℕ) (tokens : List Token) → AreTokens bytes tokens → Single (ParserRefuses bytes tokens) (Spells bytes tokens)
parser_single bytes tokens are = record { one = unique model_machine SpellsModel model_decides 64 (symbols bytes tokens); alike = alike; apart = apart }
  where
    once : ParseFaultsAreUnique SpellsModel
    once = judged_once SpellsModel

    alike : (r s : Refused) → ParserRefuses bytes tokens r → ParserRefuses bytes tokens s → AreAlike r s
    alike r s p q = inl (refused_alike (λ f. without_names (of_parser f)) p.0 q.0 r s (once.one_reason 64 (symbols bytes tokens) p.0 q.0 (are_tokens bytes tokens are) (p.1, p.2) (q.1, q.2)) p.3 q.3)

    apart : (tree : ModelTree) (r : Refused) → Spells bytes tokens tree → ParserRefuses bytes tokens r → ⊥
    apart tree r spelled p = once.none_if_spelled 64 (symbols bytes tokens) p.0 tree (are_tokens bytes tokens are) (p.1, p.2) spelled

-- if neither of two faults is before the other, they have the same place and number
level : (f g : NameErr) → is_before g f ≡ false → is_before f g ≡ false → (place f ≡ place g) × (number f ≡ number g)
unfolding is_before
level f g p q = (grind (arith, nat_tests), grind (arith, nat_tests))

-- two least faults are of one place and number
one_place : (fs : List NameErr) (f g : NameErr) → IsLeastFault fs f → IsLeastFault fs g → (place f ≡ place g) × (number f ≡ number g)
one_place fs f g a b = level f g (a.least g b.found) (b.least f a.found)

no_faults : (fs : List NameErr) (f : NameErr) → fs ≡ [] → IsLeastFault fs f → ⊥
no_faults fs f e l = let c : Contains [] f = subst (λ xs. Contains xs f) e l.found in let lt = c.1 in omega (arith, lt)

-- a fault other than an allocation failure occurs in the refusal
named_by : (f : NameErr) (r : Refused) → r ≡ without_names (of_names f) → f ≡ naming.Memory ⊎ (r.error ≡ Names f)
named_by naming.Memory r e = inl refl
named_by (naming.EndName at) r e = inr (ap (λ (x : Refused). x.error) e)
named_by (naming.Duplicate at) r e = inr (ap (λ (x : Refused). x.error) e)
named_by (naming.Unknown at) r e = inr (ap (λ (x : Refused). x.error) e)
named_by (naming.Misused at) r e = inr (ap (λ (x : Refused). x.error) e)
named_by (naming.NoValue at) r e = inr (ap (λ (x : Refused). x.error) e)
named_by (naming.NotWhole at) r e = inr (ap (λ (x : Refused). x.error) e)
named_by (naming.Size at value) r e = inr (ap (λ (x : Refused). x.error) e)
named_by (naming.ConstFault at fault) r e = inr (ap (λ (x : Refused). x.error) e)

-- of one number, both are allocation failures or neither is
both_memory : (f g : NameErr) → number f ≡ number g → f ≡ naming.Memory → f ≡ g
both_memory f naming.Memory n e = e
both_memory f (naming.EndName at) n e = absurd (let m : 1 ≡ 9 = sym n ∙ ap number e in omega (arith, m))
both_memory f (naming.Duplicate at) n e = absurd (let m : 2 ≡ 9 = sym n ∙ ap number e in omega (arith, m))
both_memory f (naming.Unknown at) n e = absurd (let m : 3 ≡ 9 = sym n ∙ ap number e in omega (arith, m))
both_memory f (naming.Misused at) n e = absurd (let m : 4 ≡ 9 = sym n ∙ ap number e in omega (arith, m))
both_memory f (naming.NoValue at) n e = absurd (let m : 5 ≡ 9 = sym n ∙ ap number e in omega (arith, m))
both_memory f (naming.NotWhole at) n e = absurd (let m : 6 ≡ 9 = sym n ∙ ap number e in omega (arith, m))
both_memory f (naming.Size at value) n e = absurd (let m : 7 ≡ 9 = sym n ∙ ap number e in omega (arith, m))
both_memory f (naming.ConstFault at fault) n e = absurd (let m : 8 ≡ 9 = sym n ∙ ap number e in omega (arith, m))

names_alike : (tree : ModelTree) (r s : Refused) → NamesRefuse tree r → NamesRefuse tree s → AreAlike r s
names_alike tree r s p q = by (named_by p.0 r p.2) (named_by q.0 s q.2)
  where
    same : (place p.0 ≡ place q.0) × (number p.0 ≡ number q.0)
    same = one_place (model_faults tree) p.0 q.0 p.1 q.1

    made : p.0 ≡ q.0 → AreAlike r s
    made e = inl (refused_alike (λ f. without_names (of_names f)) p.0 q.0 r s e p.2 q.2)

    by : p.0 ≡ naming.Memory ⊎ (r.error ≡ Names p.0) → q.0 ≡ naming.Memory ⊎ (s.error ≡ Names q.0) → AreAlike r s
    by (inl e) w = made (both_memory p.0 q.0 same.1 e)
    by (inr v) (inl e) = made (sym (both_memory q.0 p.0 (sym same.1) e))
    by (inr v) (inr w) = inr (inr (record { first = p.0; second = q.0; is_first = v; is_second = w; same_place = same.0; same_number = same.1 }))

-- a flat model and its settings put together
abbrev source : FlatModelTree → Settings → FlatSource
source f t = record { flat = f; settings = t }

flat_single : (tree : ModelTree) → Single (IsNotFlat tree) (IsFlatOf tree)
flat_single tree = record { one = one; alike = alike; apart = apart }
  where
    one : (a b : FlatSource) → IsFlatOf tree a → IsFlatOf tree b → a ≡ b
    one a b p q =
        let flat = one_value (unrolled tree (scope_of tree).known) a.flat b.flat p.1 q.1 in
        let settings = p.2 ∙ sym q.2 in
        ap (λ f. source f a.settings) flat ∙ ap (λ t. source b.flat t) settings

    alike : (r s : Refused) → IsNotFlat tree r → IsNotFlat tree s → AreAlike r s
    alike r s (inl p) (inl q) = names_alike tree r s p q
    alike r s (inl p) (inr q) = absurd (no_faults (model_faults tree) p.0 q.0 p.1)
    alike r s (inr p) (inl q) = absurd (no_faults (model_faults tree) q.0 p.0 q.1)
    alike r s (inr p) (inr q) =
        inl (refused_alike (λ f. without_names (of_unrolling f)) p.1.0 q.1.0 r s (one_error (unrolled tree (scope_of tree).known) p.1.0 q.1.0 p.1.1 q.1.1) p.1.2 q.1.2)

    apart : (a : FlatSource) (r : Refused) → IsFlatOf tree a → IsNotFlat tree r → ⊥
    apart a r p (inl q) = no_faults (model_faults tree) q.0 p.0 q.1
    apart a r p (inr q) = not_both (unrolled tree (scope_of tree).known) a.flat q.1.0 p.1 q.1.1

-- a variable that needs one equation and has none or more, the least such
record IsMiscounted (m : FlatModelTree) (v : ℕ) : Type 0 where
  wants : WantsEquation m v
  below : EachBelowHasOneEquation m v
  not_one : HasOneEquation m v → ⊥

one_miscounted : (m : FlatModelTree) (v w : ℕ) → IsMiscounted m v → IsMiscounted m w → v ≡ w
one_miscounted m v w p q = elim (cases_lt v w) [
  | inl less ↦ absurd (p.not_one (q.below v less p.wants))
  | inr more ↦ elim (cases_lt w v) [ inl less ↦ absurd (q.not_one (p.below w less q.wants)) | inr also ↦ omega (arith, more, also) ]
]

none_is_not_one : (m : FlatModelTree) (v : ℕ) → equation_numbers m v ≡ [] → HasOneEquation m v → ⊥
none_is_not_one m v e h = let wrong = sym e ∙ h.1 in cc wrong

more_are_not_one : (m : FlatModelTree) (v first second : ℕ) (more : List ℕ) → equation_numbers m v ≡ first ∷ second ∷ more → HasOneEquation m v → ⊥
more_are_not_one m v first second more e h = let wrong = sym e ∙ h.1 in cc wrong

missing : (m : FlatModelTree) (v : ℕ) → IsCausalFault m (ordering.NoEquation v) → IsMiscounted m v
missing m v f = record { wants = f.0; below = f.1; not_one = none_is_not_one m v f.2 }

doubled : (m : FlatModelTree) (v first second : ℕ) → IsCausalFault m (ordering.TwoEquations v first second) → IsMiscounted m v
doubled m v first second f = record { wants = f.0; below = f.1; not_one = more_are_not_one m v first second f.2.0 f.2.1 }

counted_right : (m : FlatModelTree) (v : ℕ) → EachHasOneEquation m → IsMiscounted m v → ⊥
counted_right m v c p = p.not_one (c v p.wants)

-- the first two of one list
first_two : (xs : List ℕ) (a b c d : ℕ) (more rest : List ℕ) → xs ≡ a ∷ b ∷ more → xs ≡ c ∷ d ∷ rest → (a ≡ c) × (b ≡ d)
first_two xs a b c d more rest p q = let e = sym p ∙ q in (cc e, cc e)

order_alike : (m : FlatModelTree) (f g : CausalErr) (r s : Refused) → f ≢ ordering.Memory → g ≢ ordering.Memory → IsCausalFault m f → IsCausalFault m g → r ≡ with_names m (of_order f) → s ≡ with_names m (of_order g) → AreAlike r s
order_alike m ordering.Memory g r s real also p q u v = absurd (real refl)
order_alike m f ordering.Memory r s real also p q u v = absurd (also refl)
order_alike m (ordering.NoEquation a) (ordering.NoEquation b) r s real also p q u v =
    inl (refused_alike (λ f. with_names m (of_order f)) (ordering.NoEquation a) (ordering.NoEquation b) r s (ap ordering.NoEquation (one_miscounted m a b (missing m a p) (missing m b q))) u v)
order_alike m (ordering.NoEquation a) (ordering.TwoEquations b first second) r s real also p q u v =
    let same = one_miscounted m a b (missing m a p) (doubled m b first second q) in
    let none : equation_numbers m b ≡ [] = subst (λ x. equation_numbers m x ≡ []) same p.2 in
    let wrong = sym none ∙ q.2.1 in
    absurd (cc wrong)
order_alike m (ordering.NoEquation a) (ordering.Loop vars) r s real also p q u v = absurd (counted_right m a q.0 (missing m a p))
order_alike m (ordering.TwoEquations a first second) (ordering.NoEquation b) r s real also p q u v =
    let same = one_miscounted m b a (missing m b q) (doubled m a first second p) in
    let none : equation_numbers m a ≡ [] = subst (λ x. equation_numbers m x ≡ []) same q.2 in
    let wrong = sym none ∙ p.2.1 in
    absurd (cc wrong)
order_alike m (ordering.TwoEquations a first second) (ordering.TwoEquations b third fourth) r s real also p q u v =
    let same : a ≡ b = one_miscounted m a b (doubled m a first second p) (doubled m b third fourth q) in
    let moved : equation_numbers m b ≡ first ∷ second ∷ p.2.0 = subst (λ x. equation_numbers m x ≡ first ∷ second ∷ p.2.0) same p.2.1 in
    let both = first_two (equation_numbers m b) first second third fourth p.2.0 q.2.0 moved q.2.1 in
    inl (refused_alike (λ f. with_names m (of_order f)) (ordering.TwoEquations a first second) (ordering.TwoEquations b third fourth) r s (two a b first second third fourth same both.0 both.1) u v)
  where
    two : (a b first second third fourth : ℕ) → a ≡ b → first ≡ third → second ≡ fourth → ordering.TwoEquations a first second ≡ ordering.TwoEquations b third fourth
    two a b first second third fourth x y z = cc (x, y, z)
order_alike m (ordering.TwoEquations a first second) (ordering.Loop vars) r s real also p q u v = absurd (counted_right m a q.0 (doubled m a first second p))
order_alike m (ordering.Loop vars) (ordering.NoEquation b) r s real also p q u v = absurd (counted_right m b p.0 (missing m b q))
order_alike m (ordering.Loop vars) (ordering.TwoEquations b first second) r s real also p q u v = absurd (counted_right m b p.0 (doubled m b first second q))
order_alike m (ordering.Loop vars) (ordering.Loop round) r s real also p q u v =
    inr (inl (record { first = vars; second = round; is_first = ap (λ (x : Refused). x.error) u; is_second = ap (λ (x : Refused). x.error) v; same_names = ap (λ (x : Refused). x.names) u ∙ sym (ap (λ (x : Refused). x.names) v) }))

order_apart : (m : FlatModelTree) (vars : List ℕ) (f : CausalErr) → HasOrder m vars → f ≢ ordering.Memory → IsCausalFault m f → ⊥
order_apart m vars ordering.Memory has real p = real refl
order_apart m vars (ordering.NoEquation v) has real p = counted_right m v has.0 (missing m v p)
order_apart m vars (ordering.TwoEquations v first second) has real p = counted_right m v has.0 (doubled m v first second p)
order_apart m vars (ordering.Loop round) has real p = no_cycle (IsAlgebraic m) (DependsOn m) vars round (λ v w d. d.from_algebraic) has.1 p.1

order_single : (m : FlatModelTree) → Single (OrderRefuses m) (HasOrder m)
order_single m = record {
  one = λ a b p q. one_order (IsAlgebraic m) (DependsOn m) a b p.1 q.1;
  alike = λ r s p q. order_alike m p.0 q.0 r s p.1 q.1 p.2 q.2 p.3 q.3;
  apart = λ a r p q. order_apart m a q.0 p q.1 q.2;
}

rounding_single : (s : FlatSource) (forms : Forms) → Single (RoundingRefuses s.flat s.settings forms) (IsMachineOf forms.forms s.flat s.settings)
rounding_single s forms = record {
  one = λ a b p q. one_machine forms.forms s.flat s.settings a b p q;
  alike = λ r t p q. inl (refused_alike (λ f. with_names s.flat (of_rounding f)) p.0 q.0 r t (one_limit (machine_fault forms.forms s.flat s.settings) p.0 q.0 p.1 q.1) p.2 q.2);
  apart = λ a r p q. no_limit (machine_fault forms.forms s.flat s.settings) q.0 p.no_fault q.1;
}
  where
    one_limit : (x : Option MachineErr) (f g : MachineErr) → x ≡ Some f → x ≡ Some g → f ≡ g
    one_limit x f g p q = let e = sym p ∙ q in cc e

    no_limit : (x : Option MachineErr) (f : MachineErr) → x ≡ None → x ≡ Some f → ⊥
    no_limit x f p q = let e = sym p ∙ q in cc e

forms_single : (s : FlatSource) (order : List ℕ) → Single (FormsRefuse s.flat order) (AreForms s.flat order)
forms_single s order = record {
  one = λ a b p q. one_forms s.flat order a b p q;
  alike = λ r t p q. inl (refused_alike (λ f. with_names s.flat (of_forms f)) p.0 q.0 r t (one_error (forms_of s.flat order) p.0 q.0 p.1 q.1) p.2 q.2);
  apart = λ a r p q. not_both (forms_of s.flat order) p.taken q.0 p.is q.1;
}

pub spelled_single : (bytes : List ℕ) → Single (IsParseRefusal bytes) (SourceParsesAs bytes)
spelled_single bytes = then_single (LexerRefuses bytes) (AreTokens bytes) (ParserRefuses bytes) (Spells bytes) (lexer_single bytes) (λ tokens are. parser_single bytes tokens are)

flat_means_single : (s : FlatSource) → Single (IsFlatRefused s) (FlatCompilesTo s)
flat_means_single s =
    then_single (OrderRefuses s.flat) (HasOrder s.flat) (λ order. IsFirstRefusal (FormsRefuse s.flat order) (AreForms s.flat order) (RoundingRefuses s.flat s.settings))
    (λ order. Through (AreForms s.flat order) (λ forms. IsMachineOf forms.forms s.flat s.settings)) (order_single s.flat) (λ order has.
    then_single (FormsRefuse s.flat order) (AreForms s.flat order) (RoundingRefuses s.flat s.settings) (λ forms. IsMachineOf forms.forms s.flat s.settings) (forms_single s order) (λ forms are. rounding_single s forms))

tree_single : (tree : ModelTree) → Single (IsTreeRefused tree) (TreeCompilesTo tree)
tree_single tree = then_single (IsNotFlat tree) (IsFlatOf tree) IsFlatRefused FlatCompilesTo (flat_single tree) (λ s is. flat_means_single s)

-- a source compiles to one machine or is refused for one cause
pub source_single : (bytes : List ℕ) → Single (IsRefused bytes) (CompilesTo bytes)
source_single bytes = then_single (IsParseRefusal bytes) (SourceParsesAs bytes) IsTreeRefused TreeCompilesTo (spelled_single bytes) (λ tree spelled. tree_single tree)
