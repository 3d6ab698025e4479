-- Parsed expressions parse again from their canonical texts.
use Rattle.mu_grammar.proofs.Common
use Common.{[], ℕ, ◌+◌, ◌-◌, ◌<◌, ◌∙◌, ◌∷◌, ◌≡◌, ◌≤◌, All, ap, arith, bare, bare_reference, Bool}
use Common.{codes, Element, exponent_of, Expression, false, first_place, if◌then◌else◌, IsFactor}
use Common.{IsPrimary, IsProduct, IsReference, IsSum, IsToken, List, mark, MoreFactors, MoreTerms}
use Common.{name, None, Now, Number, number, Power, Previous, product_of, Reference, refl, Scaled}
use Common.{scaled, Signed, signed, Some, SpellsToken, subst, suc, sum_of, sym, Symbol, Texts, true}
use Common.{Variable, Whole, word, written}
use Rattle.std.proofs.Common.{◌&&◌, nat_le}
use Rattle.std.specs.Fmt.{decimal}
use Rattle.std.proofs.lemmas.Fmt.{decimal_digit}
use Rattle.std.proofs.lemmas.List.Elements.{All-head, All-tail}
use Rattle.mu_tree.specs.Expression.{Sum, Product, Terms, term, Factors, factor, terms_of}
use Rattle.mu_tree.specs.Expression.{factors_of}
use Rattle.mu_tree.specs.Bare.{bare_terms, bare_factors}
use Rattle.mu_tree.specs.Canonical.{bracketed, bracketed_if, is_sum, is_sum_or_product, is_compound}
use Rattle.mu_tree.specs.Canonical.{written_reference, written_terms, written_factors}
use Rattle.mu_grammar.proofs.ReadBackTexts.{past, laid_end, lay_mark, lay_word, lay_name}
use Rattle.mu_grammar.proofs.ReadBackTexts.{lay_number, lay_both, Repeats, by_rule}
use Rattle.mu_lexer.specs.declared.token.Word.TheVariants as words
use Rattle.mu_lexer.specs.declared.token.Mark.TheVariants as marks
use Rattle.mu_lexer.specs.declared.token.Kind.TheVariants as kinds
use Rattle.mu_grammar.specs.Grammar as grammar

-- what an expression is by itself: a sum, a product, a power or a primary
abbrev pub Own : ℕ → Expression → ℕ → List Symbol → List Symbol → Expression → Type 0
Own limit (Sum ts) d = IsSum limit d
Own limit (Product fs) d = IsProduct limit d
Own limit (Power e n at) d = IsFactor limit d
Own limit (Number digits at) d = IsPrimary limit d
Own limit (Variable r) d = IsPrimary limit d
Own limit (Now at) d = IsPrimary limit d
Own limit (Previous r) d = IsPrimary limit d

-- the canonical texts of an expression parse as this expression, at this depth and at smaller depths
abbrev pub OwnAgain : ℕ → ℕ → Expression → Type 0
OwnAgain limit d v = (e : ℕ) → e ≤ d → Repeats bare (Own limit v e) (written v) v

-- an expression in a place where some expressions want brackets: where it does, one more level is allowed
pub record Inside (wants : Expression → Bool) (limit d : ℕ) (v : Expression) : Type 0 where
  pub own : OwnAgain limit d v
  pub bracketed : wants v ≡ true → (d < limit) × OwnAgain limit (suc d) v

-- in brackets a sum is a primary
in_brackets : (limit d : ℕ) (text : Texts) (v : Expression) → d < limit → Repeats bare (IsSum limit (suc d)) text v → Repeats bare (IsPrimary limit d) (bracketed text) v
in_brackets limit d text v h inner = λ at after. (
    let i = inner (past at (codes "(")) (λ e. mark marks.CloseRound e ∷ after (past e (codes ")"))) in
    record {
      end = past i.end (codes ")");
      found = mark marks.OpenRound at ∷ i.found;
      value = i.value;
      laid = lay_mark marks.OpenRound (lay_both i.laid (lay_mark marks.CloseRound laid_end));
      spelled = grammar.brackets h i.spelled;
      same = i.same;
    })

as_factor : (limit d : ℕ) (text : Texts) (v : Expression) → Repeats bare (IsPrimary limit d) text v → Repeats bare (IsFactor limit d) text v
as_factor limit d text v again = by_rule (λ ts rest w is. grammar.plain is) again

as_product : (limit d : ℕ) (text : Texts) (v : Expression) → Repeats bare (IsFactor limit d) text v → Repeats bare (IsProduct limit d) text v
as_product limit d text v again = by_rule (λ ts rest w is. grammar.product is grammar.last_factor) again

as_sum : (limit d : ℕ) (text : Texts) (v : Expression) → Repeats bare (IsProduct limit d) text v → Repeats bare (IsSum limit d) text v
as_sum limit d text v again = by_rule (λ ts rest w is. grammar.unsigned is grammar.last_term) again

-- by itself an expression is a sum
pub sum_part : (limit d e : ℕ) (v : Expression) → OwnAgain limit d v → e ≤ d → Repeats bare (IsSum limit e) (written v) v
sum_part limit d e (Sum ts) own h = own e h
sum_part limit d e (Product fs) own h = as_sum limit e _ _ (own e h)
sum_part limit d e (Power b n at) own h = as_sum limit e _ _ (as_product limit e _ _ (own e h))
sum_part limit d e (Number digits at) own h = as_sum limit e _ _ (as_product limit e _ _ (as_factor limit e _ _ (own e h)))
sum_part limit d e (Variable r) own h = as_sum limit e _ _ (as_product limit e _ _ (as_factor limit e _ _ (own e h)))
sum_part limit d e (Now at) own h = as_sum limit e _ _ (as_product limit e _ _ (as_factor limit e _ _ (own e h)))
sum_part limit d e (Previous r) own h = as_sum limit e _ _ (as_product limit e _ _ (as_factor limit e _ _ (own e h)))

-- a compound expression in brackets is a primary
bracketed_part : (wants : Expression → Bool) (limit d e : ℕ) (v : Expression) → Inside wants limit d v → wants v ≡ true → e ≤ d → Repeats bare (IsPrimary limit e) (bracketed (written v)) v
bracketed_part wants limit d e v i is h =
    let inner = i.bracketed is in
    in_brackets limit e (written v) v (let less = inner.0 in omega arith) (sum_part limit (suc d) (suc e) v inner.1 (omega arith))

-- a term, in brackets where it is a sum
product_part : (limit d e : ℕ) (v : Expression) → Inside is_sum limit d v → e ≤ d → Repeats bare (IsProduct limit e) (bracketed_if (is_sum v) (written v)) v
product_part limit d e (Sum ts) i h = as_product limit e _ _ (as_factor limit e _ _ (bracketed_part is_sum limit d e (Sum ts) i refl h))
product_part limit d e (Product fs) i h = i.own e h
product_part limit d e (Power b n at) i h = as_product limit e _ _ (i.own e h)
product_part limit d e (Number digits at) i h = as_product limit e _ _ (as_factor limit e _ _ (i.own e h))
product_part limit d e (Variable r) i h = as_product limit e _ _ (as_factor limit e _ _ (i.own e h))
product_part limit d e (Now at) i h = as_product limit e _ _ (as_factor limit e _ _ (i.own e h))
product_part limit d e (Previous r) i h = as_product limit e _ _ (as_factor limit e _ _ (i.own e h))

-- a factor, in brackets where it is a sum or a product
factor_part : (limit d e : ℕ) (v : Expression) → Inside is_sum_or_product limit d v → e ≤ d → Repeats bare (IsFactor limit e) (bracketed_if (is_sum_or_product v) (written v)) v
factor_part limit d e (Sum ts) i h = as_factor limit e _ _ (bracketed_part is_sum_or_product limit d e (Sum ts) i refl h)
factor_part limit d e (Product fs) i h = as_factor limit e _ _ (bracketed_part is_sum_or_product limit d e (Product fs) i refl h)
factor_part limit d e (Power b n at) i h = i.own e h
factor_part limit d e (Number digits at) i h = as_factor limit e _ _ (i.own e h)
factor_part limit d e (Variable r) i h = as_factor limit e _ _ (i.own e h)
factor_part limit d e (Now at) i h = as_factor limit e _ _ (i.own e h)
factor_part limit d e (Previous r) i h = as_factor limit e _ _ (i.own e h)

-- a base, in brackets where it is compound
primary_part : (limit d e : ℕ) (v : Expression) → Inside is_compound limit d v → e ≤ d → Repeats bare (IsPrimary limit e) (bracketed_if (is_compound v) (written v)) v
primary_part limit d e (Sum ts) i h = bracketed_part is_compound limit d e (Sum ts) i refl h
primary_part limit d e (Product fs) i h = bracketed_part is_compound limit d e (Product fs) i refl h
primary_part limit d e (Power b n at) i h = bracketed_part is_compound limit d e (Power b n at) i refl h
primary_part limit d e (Number digits at) i h = i.own e h
primary_part limit d e (Variable r) i h = i.own e h
primary_part limit d e (Now at) i h = i.own e h
primary_part limit d e (Previous r) i h = i.own e h

-- further terms, and further factors, without places
abbrev said_terms : List Signed → Terms
said_terms more = bare_terms (terms_of more)

abbrev said_factors : List Scaled → Factors
said_factors more = bare_factors (factors_of more)

-- further terms parse again
abbrev TermsAgain : ℕ → ℕ → List Signed → Type 0
TermsAgain limit d more = (e : ℕ) → e ≤ d → Repeats said_terms (MoreTerms limit e) (written_terms (terms_of more) false) more

-- further factors parse again
abbrev FactorsAgain : ℕ → ℕ → List Scaled → Type 0
FactorsAgain limit d more = (e : ℕ) → e ≤ d → Repeats said_factors (MoreFactors limit e) (written_factors (factors_of more) false) more

-- two sums of the same first term and the same further ones are the same
same_sum : (p q : ℕ) (v w : Expression) (t : Signed) (more others : List Signed) → bare w ≡ bare v → said_terms others ≡ said_terms (t ∷ more) → bare (sum_of (signed false q w ∷ others)) ≡ bare (sum_of (signed false p v ∷ t ∷ more))
same_sum p q v w t more [] first rest = cc
same_sum p q v w t more (u ∷ others) first rest = ap (λ x. Sum (term false 0 x (said_terms (u ∷ others)))) first ∙ ap (λ x. Sum (term false 0 (bare v) x)) rest

sum_of_minus : (at : ℕ) (v : Expression) (more : List Signed) → sum_of (signed true at v ∷ more) ≡ Sum (terms_of (signed true at v ∷ more))
sum_of_minus at v [] = refl
sum_of_minus at v (t ∷ more) = refl

-- a sum without a minus before its first term
sum_own : (limit d p : ℕ) (v : Expression) (more : List Signed) → Inside is_sum limit d v → TermsAgain limit d more → OwnAgain limit d (sum_of (signed false p v ∷ more))
sum_own limit d p v [] i again = i.own
sum_own limit d p v (t ∷ more) i again = λ e h at after. (
    let first = product_part limit d e v i h at (λ place. (again e h place after).found) in
    let rest = again e h first.end after in
    record {
      end = rest.end;
      found = first.found;
      value = sum_of (signed false (first_place first.found) first.value ∷ rest.value);
      laid = lay_both first.laid rest.laid;
      spelled = grammar.unsigned first.spelled rest.spelled;
      same = same_sum p (first_place first.found) v first.value t more rest.value first.same rest.same;
    })

-- a sum with a minus before its first term
minus_own : (limit d p : ℕ) (v : Expression) (more : List Signed) → Inside is_sum limit d v → TermsAgain limit d more → OwnAgain limit d (sum_of (signed true p v ∷ more))
minus_own limit d p v more i again = subst (OwnAgain limit d) (sym (sum_of_minus p v more)) (λ e h at after. (
    let first = product_part limit d e v i h (past at (codes "-")) (λ place. (again e h place after).found) in
    let rest = again e h first.end after in
    record {
      end = rest.end;
      found = mark marks.Minus at ∷ first.found;
      value = sum_of (signed true at first.value ∷ rest.value);
      laid = lay_both (lay_mark marks.Minus first.laid) rest.laid;
      spelled = grammar.subtracted first.spelled rest.spelled;
      same = ap bare (sum_of_minus at first.value rest.value) ∙ ap (λ x. Sum (term true 0 x (said_terms rest.value))) first.same ∙ ap (λ x. Sum (term true 0 (bare v) x)) rest.same;
    }))

-- no further terms
no_terms_again : (limit d : ℕ) → TermsAgain limit d []
no_terms_again limit d = λ e h at after. record { end = at; found = after at; value = []; laid = laid_end; spelled = grammar.last_term; same = refl }

-- a further term with a plus before others
plus_again : (limit d p : ℕ) (v : Expression) (more : List Signed) → Inside is_sum limit d v → TermsAgain limit d more → TermsAgain limit d (signed false p v ∷ more)
plus_again limit d p v more i again = λ e h at after. (
    let first = product_part limit d e v i h (past at (codes "+")) (λ place. (again e h place after).found) in
    let rest = again e h first.end after in
    record {
      end = rest.end;
      found = mark marks.Plus at ∷ first.found;
      value = signed false at first.value ∷ rest.value;
      laid = lay_both (lay_mark marks.Plus first.laid) rest.laid;
      spelled = grammar.plus first.spelled rest.spelled;
      same = ap (λ x. term false 0 x (said_terms rest.value)) first.same ∙ ap (λ x. term false 0 (bare v) x) rest.same;
    })

-- a further term with a minus before others
minus_again : (limit d p : ℕ) (v : Expression) (more : List Signed) → Inside is_sum limit d v → TermsAgain limit d more → TermsAgain limit d (signed true p v ∷ more)
minus_again limit d p v more i again = λ e h at after. (
    let first = product_part limit d e v i h (past at (codes "-")) (λ place. (again e h place after).found) in
    let rest = again e h first.end after in
    record {
      end = rest.end;
      found = mark marks.Minus at ∷ first.found;
      value = signed true at first.value ∷ rest.value;
      laid = lay_both (lay_mark marks.Minus first.laid) rest.laid;
      spelled = grammar.minus first.spelled rest.spelled;
      same = ap (λ x. term true 0 x (said_terms rest.value)) first.same ∙ ap (λ x. term true 0 (bare v) x) rest.same;
    })

-- two products of the same first factor and the same further ones are the same
same_product : (p q : ℕ) (v w : Expression) (f : Scaled) (more others : List Scaled) → bare w ≡ bare v → said_factors others ≡ said_factors (f ∷ more) → bare (product_of (scaled false q w ∷ others)) ≡ bare (product_of (scaled false p v ∷ f ∷ more))
same_product p q v w f more [] first rest = cc
same_product p q v w f more (g ∷ others) first rest = ap (λ x. Product (factor false 0 x (said_factors (g ∷ others)))) first ∙ ap (λ x. Product (factor false 0 (bare v) x)) rest

sum_is_compound : (v : Expression) → is_sum v ≡ true → is_sum_or_product v ≡ true
sum_is_compound (Sum ts) is = refl
sum_is_compound _ is = cc

product_is_compound : (v : Expression) → is_sum_or_product v ≡ true → is_compound v ≡ true
product_is_compound (Sum ts) is = refl
product_is_compound (Product fs) is = refl
product_is_compound _ is = cc

-- a product
product_own : (limit d p : ℕ) (v : Expression) (more : List Scaled) → Inside is_sum_or_product limit d v → FactorsAgain limit d more → Inside is_sum limit d (product_of (scaled false p v ∷ more))
product_own limit d p v [] i again = record { own = i.own; bracketed = λ is. i.bracketed (sum_is_compound v is) }
product_own limit d p v (f ∷ more) i again = record {
  own = λ e h at after. (
      let first = factor_part limit d e v i h at (λ place. (again e h place after).found) in
      let rest = again e h first.end after in
      record {
        end = rest.end;
        found = first.found;
        value = product_of (scaled false (first_place first.found) first.value ∷ rest.value);
        laid = lay_both first.laid rest.laid;
        spelled = grammar.product first.spelled rest.spelled;
        same = same_product p (first_place first.found) v first.value f more rest.value first.same rest.same;
      });
  bracketed = λ is. absurd cc;
}

-- no further factors
no_factors_again : (limit d : ℕ) → FactorsAgain limit d []
no_factors_again limit d = λ e h at after. record { end = at; found = after at; value = []; laid = laid_end; spelled = grammar.last_factor; same = refl }

-- a further factor before others
times_again : (limit d p : ℕ) (v : Expression) (more : List Scaled) → Inside is_sum_or_product limit d v → FactorsAgain limit d more → FactorsAgain limit d (scaled false p v ∷ more)
times_again limit d p v more i again = λ e h at after. (
    let first = factor_part limit d e v i h (past at (codes "*")) (λ place. (again e h place after).found) in
    let rest = again e h first.end after in
    record {
      end = rest.end;
      found = mark marks.Times at ∷ first.found;
      value = scaled false at first.value ∷ rest.value;
      laid = lay_both (lay_mark marks.Times first.laid) rest.laid;
      spelled = grammar.times first.spelled rest.spelled;
      same = ap (λ x. factor false 0 x (said_factors rest.value)) first.same ∙ ap (λ x. factor false 0 (bare v) x) rest.same;
    })

-- a divisor before other factors
divide_again : (limit d p : ℕ) (v : Expression) (more : List Scaled) → Inside is_sum_or_product limit d v → FactorsAgain limit d more → FactorsAgain limit d (scaled true p v ∷ more)
divide_again limit d p v more i again = λ e h at after. (
    let first = factor_part limit d e v i h (past at (codes "/")) (λ place. (again e h place after).found) in
    let rest = again e h first.end after in
    record {
      end = rest.end;
      found = mark marks.Divide at ∷ first.found;
      value = scaled true at first.value ∷ rest.value;
      laid = lay_both (lay_mark marks.Divide first.laid) rest.laid;
      spelled = grammar.divide first.spelled rest.spelled;
      same = ap (λ x. factor true 0 x (said_factors rest.value)) first.same ∙ ap (λ x. factor true 0 (bare v) x) rest.same;
    })

-- the digit of an exponent is its decimal text
exponent_digit : (digits : List ℕ) (exp : ℕ) → exponent_of digits ≡ Some exp → decimal exp ≡ digits
exponent_digit [] exp is = cc
exponent_digit (c ∷ d ∷ s) exp is = cc
exponent_digit (c ∷ []) exp is = go (nat_le 48 c) (nat_le c 56) refl refl is
  where
    go : (a b : Bool) → nat_le 48 c ≡ a → nat_le c 56 ≡ b → (if a && b then Some (c - 48) else None) ≡ Some exp → decimal exp ≡ c ∷ []
    go true true low high is = (
        let value : c - 48 ≡ exp = cc in
        let above : 48 ≤ c = grind (arith, low) in
        let below : c ≤ 56 = grind (arith, high) in
        let digit : 48 + exp ≡ c = omega arith in
        decimal_digit exp (omega arith) ∙ ap (λ x. x ∷ []) digit)
    go true false low high is = cc
    go false b low high is = cc

-- a power
power_own : (limit d p exp : ℕ) (digits : List ℕ) (v : Expression) → Inside is_compound limit d v → exponent_of digits ≡ Some exp → SpellsToken kinds.Number digits → OwnAgain limit d (Power v exp p)
power_own limit d p exp digits v i is spelled = λ e h at after. (
    let same = exponent_digit digits exp is in
    let base = primary_part limit d e v i h at (λ place. mark marks.Caret place ∷ number (decimal exp) (past place (codes "^")) ∷ after (past (past place (codes "^")) (decimal exp))) in
    record {
      end = past (past base.end (codes "^")) (decimal exp);
      found = base.found;
      value = Power base.value exp base.end;
      laid = lay_both base.laid (lay_mark marks.Caret (lay_number (subst (SpellsToken kinds.Number) (sym same) spelled) laid_end));
      spelled = grammar.power base.spelled (ap exponent_of same ∙ is);
      same = ap (λ x. Power x exp 0) base.same;
    })

-- a reference parses again
abbrev pub ReferenceAgain : ℕ → ℕ → Reference → Type 0
ReferenceAgain limit d r = (e : ℕ) → e ≤ d → Repeats bare_reference (IsReference limit e) (written_reference r) r

whole_again : (limit d p : ℕ) (n : List ℕ) → SpellsToken kinds.Ident n → ReferenceAgain limit d (Whole n p)
whole_again limit d p n spelled = λ e h at after. record { end = past at n; found = name n at ∷ after (past at n); value = Whole n at; laid = lay_name spelled laid_end; spelled = grammar.whole; same = refl }

element_again : (limit d p : ℕ) (n : List ℕ) (index : Expression) → SpellsToken kinds.Ident n → d < limit → OwnAgain limit (suc d) index → ReferenceAgain limit d (Element n index p)
element_again limit d p n index spelled less own = λ e h at after. (
    let i = sum_part limit (suc d) (suc e) index own (omega arith) (past (past at n) (codes "[")) (λ place. mark marks.CloseSquare place ∷ after (past place (codes "]"))) in
    record {
      end = past i.end (codes "]");
      found = name n at ∷ mark marks.OpenSquare (past at n) ∷ i.found;
      value = Element n i.value at;
      laid = lay_name spelled (lay_mark marks.OpenSquare (lay_both i.laid (lay_mark marks.CloseSquare laid_end)));
      spelled = grammar.element (omega arith) i.spelled;
      same = ap (λ x. Element n x 0) i.same;
    })

-- a previous value
previous_own : (limit d : ℕ) (r : Reference) → d < limit → ReferenceAgain limit (suc d) r → OwnAgain limit d (Previous r)
previous_own limit d r less again = λ e h at after. (
    let i = again (suc e) (omega arith) (past (past at (codes "pre")) (codes "(")) (λ place. mark marks.CloseRound place ∷ after (past place (codes ")"))) in
    record {
      end = past i.end (codes ")");
      found = word words.Pre at ∷ mark marks.OpenRound (past at (codes "pre")) ∷ i.found;
      value = Previous i.value;
      laid = lay_word words.Pre (lay_mark marks.OpenRound (lay_both i.laid (lay_mark marks.CloseRound laid_end)));
      spelled = grammar.pre (omega arith) i.spelled;
      same = ap Previous i.same;
    })

variable_own : (limit d : ℕ) (r : Reference) → ReferenceAgain limit d r → OwnAgain limit d (Variable r)
variable_own limit d r again = λ e h at after. (
    let i = again e h at after in
    record { end = i.end; found = i.found; value = Variable i.value; laid = i.laid; spelled = grammar.variable i.spelled; same = ap Variable i.same })

number_own : (limit d p : ℕ) (digits : List ℕ) → SpellsToken kinds.Number digits → OwnAgain limit d (Number digits p)
number_own limit d p digits spelled = λ e h at after. record { end = past at digits; found = number digits at ∷ after (past at digits); value = Number digits at; laid = lay_number spelled laid_end; spelled = grammar.literal; same = refl }

time_own : (limit d p : ℕ) → OwnAgain limit d (Now p)
time_own limit d p = λ e h at after. record { end = past at (codes "time"); found = word words.Time at ∷ after (past at (codes "time")); value = Now at; laid = lay_word words.Time laid_end; spelled = grammar.time; same = refl }

-- at lesser depths too
pub own_below : (limit d : ℕ) (v : Expression) → OwnAgain limit (suc d) v → OwnAgain limit d v
own_below limit d v own = λ e h. own e (omega arith)

-- each of these is a token
pub data Tokens : List Symbol → Type 0 where
  no_tokens : Tokens []
  token_then : {x : Symbol} {ts : List Symbol} → IsToken x → Tokens ts → Tokens (x ∷ ts)

pub tokens_of : (ts : List Symbol) → All IsToken ts → Tokens ts
tokens_of [] all = no_tokens
tokens_of (x ∷ ts) all = token_then (All-head IsToken x ts all) (tokens_of ts (All-tail IsToken x ts all))

pub behind : {x : Symbol} {ts : List Symbol} → Tokens (x ∷ ts) → Tokens ts
behind (token_then is all) = all

pub here : {x : Symbol} {ts : List Symbol} → Tokens (x ∷ ts) → IsToken x
here (token_then is all) = is

mutual
  -- a parsed sum parses again
  pub sum_read : {limit d : ℕ} {ts rest : List Symbol} {v : Expression} → IsSum limit d ts rest v → Tokens ts → Tokens rest × OwnAgain limit d v
  sum_read (grammar.unsigned first more) all = (let a = product_read first all in let b = terms_read more a.0 in (b.0, sum_own _ _ _ _ _ a.1 b.1))
  sum_read (grammar.added first more) all = (let a = product_read first (behind all) in let b = terms_read more a.0 in (b.0, sum_own _ _ _ _ _ a.1 b.1))
  sum_read (grammar.subtracted first more) all = (let a = product_read first (behind all) in let b = terms_read more a.0 in (b.0, minus_own _ _ _ _ _ a.1 b.1))

  terms_read : {limit d : ℕ} {ts rest : List Symbol} {more : List Signed} → MoreTerms limit d ts rest more → Tokens ts → Tokens rest × TermsAgain limit d more
  terms_read grammar.last_term all = (all, no_terms_again _ _)
  terms_read (grammar.plus first more) all = (let a = product_read first (behind all) in let b = terms_read more a.0 in (b.0, plus_again _ _ _ _ _ a.1 b.1))
  terms_read (grammar.minus first more) all = (let a = product_read first (behind all) in let b = terms_read more a.0 in (b.0, minus_again _ _ _ _ _ a.1 b.1))

  product_read : {limit d : ℕ} {ts rest : List Symbol} {v : Expression} → IsProduct limit d ts rest v → Tokens ts → Tokens rest × Inside is_sum limit d v
  product_read (grammar.product first more) all = (let a = factor_read first all in let b = factors_read more a.0 in (b.0, product_own _ _ _ _ _ a.1 b.1))

  factors_read : {limit d : ℕ} {ts rest : List Symbol} {more : List Scaled} → MoreFactors limit d ts rest more → Tokens ts → Tokens rest × FactorsAgain limit d more
  factors_read grammar.last_factor all = (all, no_factors_again _ _)
  factors_read (grammar.times first more) all = (let a = factor_read first (behind all) in let b = factors_read more a.0 in (b.0, times_again _ _ _ _ _ a.1 b.1))
  factors_read (grammar.divide first more) all = (let a = factor_read first (behind all) in let b = factors_read more a.0 in (b.0, divide_again _ _ _ _ _ a.1 b.1))

  factor_read : {limit d : ℕ} {ts rest : List Symbol} {v : Expression} → IsFactor limit d ts rest v → Tokens ts → Tokens rest × Inside is_sum_or_product limit d v
  factor_read (grammar.plain {v = v} p) all = (let a = primary_read p all in (a.0, record { own = a.1.own; bracketed = λ is. a.1.bracketed (product_is_compound v is) }))
  factor_read (grammar.power {digits = digits} p is) all = (
      let a = primary_read p all in
      let b = behind a.0 in
      (behind b, record { own = power_own _ _ _ _ digits _ a.1 is (here b); bracketed = λ is. absurd cc }))

  primary_read : {limit d : ℕ} {ts rest : List Symbol} {v : Expression} → IsPrimary limit d ts rest v → Tokens ts → Tokens rest × Inside is_compound limit d v
  primary_read grammar.literal all = (behind all, record { own = number_own _ _ _ _ (here all); bracketed = λ is. absurd cc })
  primary_read (grammar.variable r) all = (let a = reference_read r all in (a.0, record { own = variable_own _ _ _ a.1; bracketed = λ is. absurd cc }))
  primary_read grammar.time all = (behind all, record { own = time_own _ _ _; bracketed = λ is. absurd cc })
  primary_read (grammar.pre less r) all = (let a = reference_read r (behind (behind all)) in (behind a.0, record { own = previous_own _ _ _ less a.1; bracketed = λ is. absurd cc }))
  primary_read (grammar.brackets less s) all = (let a = sum_read s (behind all) in (behind a.0, record { own = own_below _ _ _ a.1; bracketed = λ is. (less, a.1) }))

  -- a reference parses again
  pub reference_read : {limit d : ℕ} {ts rest : List Symbol} {r : Reference} → IsReference limit d ts rest r → Tokens ts → Tokens rest × ReferenceAgain limit d r
  reference_read grammar.whole all = (behind all, whole_again _ _ _ _ (here all))
  reference_read (grammar.element less s) all = (let a = sum_read s (behind (behind all)) in (behind a.0, element_again _ _ _ _ _ (here all) less a.1))
