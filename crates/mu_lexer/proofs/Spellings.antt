-- The automaton accepts exactly the tokens of the definitions.
use Rattle.mu_lexer.proofs.Common
use Common.{[], ℕ, ◌==◌, ◌||◌, ◌∷◌, ◌≡◌, ap, arith, Bool, ending, eqb-true, false, if◌then◌else◌}
use Common.{is_digit, is_digits, is_exponent_mark, is_letter, is_name_rest, is_quoted, is_sign}
use Common.{is_some_digits, Kind, kind_from, List, None, Option, option_and_then, Phase, refl, run}
use Common.{Some, sym, true}
use Rattle.mu_lexer.proofs.Numbers.{is_exponent, is_fraction, is_whole}
use Rattle.mu_lexer.specs.declared.token.Kind.TheVariants as kind
use Rattle.mu_lexer.specs.declared.lexer.Phase.TheVariants as phase

-- the kind, where the test holds
abbrev pub kind_if : Bool → Kind → Option Kind
kind_if b k = if b then Some k else None

-- the kind that a text is from a phase that may be none
abbrev pub kind_on : Option Phase → List ℕ → Option Kind
kind_on p s = option_and_then ending (option_and_then (λ q. run q s) p)

pub digits : (s : List ℕ) → kind_from phase.Digits s ≡ kind_if (is_digits s) kind.Number
digits [] = refl
digits (c ∷ s) = go (is_digit c) (digits s)
  where
    go : (b : Bool) → kind_from phase.Digits s ≡ kind_if (is_digits s) kind.Number → kind_on (if b then Some phase.Digits else None) s ≡ kind_if (if b then is_digits s else false) kind.Number
    go true again = again
    go false again = refl

pub some_digits : (s : List ℕ) → kind_from phase.Power s ≡ kind_if (is_some_digits s) kind.Number
some_digits [] = refl
some_digits (c ∷ s) = go (is_digit c)
  where
    go : (b : Bool) → kind_on (if b then Some phase.Digits else None) s ≡ kind_if (if b then is_digits s else false) kind.Number
    go true = digits s
    go false = refl

pub exponent : (s : List ℕ) → kind_from phase.Exponent s ≡ kind_if (is_exponent s) kind.Number
exponent [] = refl
exponent (c ∷ s) = go (is_digit c) (is_sign c)
  where
    go : (b d : Bool) → kind_on (if b then Some phase.Digits else (if d then Some phase.Power else None)) s ≡ kind_if (if b then is_digits s else (if d then is_some_digits s else false)) kind.Number
    go true d = digits s
    go false true = some_digits s
    go false false = refl

pub fraction : (s : List ℕ) → kind_from phase.Fraction s ≡ kind_if (is_fraction s) kind.Number
fraction [] = refl
fraction (c ∷ s) = go (is_digit c) (is_exponent_mark c) (fraction s)
  where
    go : (b d : Bool) → kind_from phase.Fraction s ≡ kind_if (is_fraction s) kind.Number → kind_on (if b then Some phase.Fraction else (if d then Some phase.Exponent else None)) s ≡ kind_if (if b then is_fraction s else (if d then is_exponent s else false)) kind.Number
    go true d again = again
    go false true again = exponent s
    go false false again = refl

pub whole : (s : List ℕ) → kind_from phase.Whole s ≡ kind_if (is_whole s) kind.Number
whole [] = refl
whole (c ∷ s) = go (is_digit c) (c == 46) (is_exponent_mark c) (whole s)
  where
    go : (b p d : Bool) → kind_from phase.Whole s ≡ kind_if (is_whole s) kind.Number → kind_on (if b then Some phase.Whole else (if p then Some phase.Fraction else (if d then Some phase.Exponent else None))) s ≡ kind_if (if b then is_whole s else (if p then is_fraction s else (if d then is_exponent s else false))) kind.Number
    go true p d again = again
    go false true d again = fraction s
    go false false true again = exponent s
    go false false false again = refl

pub name_rest : (s : List ℕ) → kind_from phase.Name s ≡ kind_if (is_name_rest s) kind.Ident
name_rest [] = refl
name_rest (c ∷ s) = go (is_letter c || is_digit c) (name_rest s)
  where
    go : (b : Bool) → kind_from phase.Name s ≡ kind_if (is_name_rest s) kind.Ident → kind_on (if b then Some phase.Name else None) s ≡ kind_if (if b then is_name_rest s else false) kind.Ident
    go true again = again
    go false again = refl

closed : (c : ℕ) (s : List ℕ) → kind_from phase.Closed (c ∷ s) ≡ None
closed c s = refl

backslash_alone : (c : ℕ) (b : Bool) → (c == 92) ≡ true → (c == 34) ≡ b → None ≡ kind_if b kind.Str
backslash_alone c true is quote = absurd (omega (arith, eqb-true c 92 is, eqb-true c 34 quote))
backslash_alone c false is quote = refl

pub quoted : (s : List ℕ) → kind_from phase.Quote s ≡ kind_if (is_quoted s) kind.Str
quoted [] = refl
quoted (c ∷ []) = go (c == 92) (c == 34) refl refl
  where
    go : (b d : Bool) → (c == 92) ≡ b → (c == 34) ≡ d → kind_on (if b then Some phase.Escape else (if d then Some phase.Closed else Some phase.Quote)) [] ≡ kind_if (c == 34) kind.Str
    go true d is quote = backslash_alone c (c == 34) is refl
    go false true is quote = ap (λ b. kind_if b kind.Str) (sym quote)
    go false false is quote = ap (λ b. kind_if b kind.Str) (sym quote)
quoted (c ∷ d ∷ s) = go (c == 92) (c == 34) (quoted s) (quoted (d ∷ s))
  where
    go : (b q : Bool) → kind_from phase.Quote s ≡ kind_if (is_quoted s) kind.Str → kind_from phase.Quote (d ∷ s) ≡ kind_if (is_quoted (d ∷ s)) kind.Str → kind_on (if b then Some phase.Escape else (if q then Some phase.Closed else Some phase.Quote)) (d ∷ s) ≡ kind_if (if b then is_quoted s else (if q then false else is_quoted (d ∷ s))) kind.Str
    go true q again later = again
    go false true again later = refl
    go false false again later = later
