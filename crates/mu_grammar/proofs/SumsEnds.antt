-- From each position some tokens complete the sum.
use Rattle.mu_grammar.proofs.Common
use Common.{[], ℕ, ◌∷◌, after_factor, after_name, after_primary, after_reference, All, All-cons}
use Common.{at_bracket, at_exponent, at_name, at_operand, at_sum, at_term, bracket, Element}
use Common.{Expression, false, first_part, Frame, index, IsToken, kind_spelled, List, mark, name}
use Common.{Number, number, Part, Position, Power, Previous, previous, Reference, refl, sum_of}
use Common.{Symbol, Use, Variable, Whole, with_term}
use Rattle.mu_grammar.proofs.SumsComplete.{IsReader, GoodSum, sum_as_term, term_as_factor}
use Rattle.mu_grammar.proofs.SumsComplete.{factor_as_primary, reference_as_name}
use Rattle.mu_grammar.proofs.SumsComplete.{primary_as_reference}
use Rattle.mu_lexer.specs.declared.token.Kind.TheVariants as kinds
use Rattle.mu_lexer.specs.declared.token.Mark.TheVariants as marks
use Rattle.mu_grammar.specs.SumMachine as machine

-- a token before other tokens
pub token_then : (x : Symbol) (ts : List Symbol) → IsToken x → All IsToken ts → All IsToken (x ∷ ts)
token_then x ts is all = All-cons IsToken x ts is all

-- the number and the name of which there is always one
abbrev pub one : Symbol
one = number (49 ∷ []) 0

abbrev pub some_name : Symbol
some_name = name (97 ∷ []) 0

pub one_token : IsToken one
one_token = kind_spelled kinds.Number (49 ∷ []) refl

pub name_token : IsToken some_name
name_token = kind_spelled kinds.Ident (97 ∷ []) refl

module _ (limit d : ℕ) (A : Position → List Frame → List Symbol → Type 0) (K : Expression → List Symbol → Type 0) (r : IsReader limit d A K) (end : (e : Expression) → (more : List Symbol) × K e more × All IsToken more) where
  -- some tokens are read from here
  abbrev pub Ends : Position → List Frame → Type 0
  Ends p fs = (more : List Symbol) × A p fs more × All IsToken more

  mutual
    sum_ends : (fs : List Frame) (e : Expression) → (more : List Symbol) × GoodSum limit d A K r e fs more × All IsToken more
    sum_ends [] e = last (end e).0 (end e).1 (end e).2
      where
        last : (more : List Symbol) → K e more → All IsToken more → (more : List Symbol) × GoodSum limit d A K r e [] more × All IsToken more
        last [] is all = absurd (r.no_rest e is)
        last (x ∷ more) is all = (x ∷ more, is, all)
    sum_ends (bracket p ∷ fs) e =
        let rest = sum_ends fs (sum_of (with_term p e)) in
        (mark marks.CloseRound 0 ∷ rest.0, factor_as_primary limit d A K r e p fs rest.0 (term_as_factor limit d A K r e p fs rest.0 (sum_as_term limit d A K r (with_term p e) fs rest.0 rest.1)), token_then (mark marks.CloseRound 0) rest.0 tt rest.2)
    sum_ends (index n i (machine.variable p) ∷ fs) e =
        let f = Variable (Element n e i) in
        let rest = sum_ends fs (sum_of (with_term p f)) in
        (mark marks.CloseSquare 0 ∷ rest.0, primary_as_reference limit d A K r (Element n e i) p fs rest.0 (factor_as_primary limit d A K r f p fs rest.0 (term_as_factor limit d A K r f p fs rest.0 (sum_as_term limit d A K r (with_term p f) fs rest.0 rest.1))), token_then (mark marks.CloseSquare 0) rest.0 tt rest.2)
    sum_ends (index n i (previous p) ∷ fs) e =
        let f = Previous (Element n e i) in
        let rest = sum_ends fs (sum_of (with_term p f)) in
        (mark marks.CloseSquare 0 ∷ mark marks.CloseRound 0 ∷ rest.0, r.forth (after_reference (Element n e i) (previous p)) fs (mark marks.CloseRound 0) rest.0 (factor_as_primary limit d A K r f p fs rest.0 (term_as_factor limit d A K r f p fs rest.0 (sum_as_term limit d A K r (with_term p f) fs rest.0 rest.1))), token_then (mark marks.CloseSquare 0) (mark marks.CloseRound 0 ∷ rest.0) tt (token_then (mark marks.CloseRound 0) rest.0 tt rest.2))

  factor_ends : (f : Expression) (p : Part) (fs : List Frame) → Ends (after_factor f p) fs
  factor_ends f p fs = let rest = sum_ends fs (sum_of (with_term p f)) in (rest.0, term_as_factor limit d A K r f p fs rest.0 (sum_as_term limit d A K r (with_term p f) fs rest.0 rest.1), rest.2)

  primary_ends : (e : Expression) (p : Part) (fs : List Frame) → Ends (after_primary e p) fs
  primary_ends e p fs = let rest = factor_ends e p fs in (rest.0, factor_as_primary limit d A K r e p fs rest.0 rest.1, rest.2)

  operand_ends : (p : Part) (fs : List Frame) → Ends (at_operand p) fs
  operand_ends p fs = let rest = primary_ends (Number (49 ∷ []) 0) p fs in (one ∷ rest.0, r.forth (at_operand p) fs one rest.0 rest.1, token_then one rest.0 one_token rest.2)

  reference_ends : (v : Reference) (u : Use) (fs : List Frame) → Ends (after_reference v u) fs
  reference_ends v (machine.variable p) fs = let rest = primary_ends (Variable v) p fs in (rest.0, primary_as_reference limit d A K r v p fs rest.0 rest.1, rest.2)
  reference_ends v (previous p) fs = let rest = primary_ends (Previous v) p fs in (mark marks.CloseRound 0 ∷ rest.0, r.forth (after_reference v (previous p)) fs (mark marks.CloseRound 0) rest.0 rest.1, token_then (mark marks.CloseRound 0) rest.0 tt rest.2)

  -- each position leads to an end
  pub ends : (p : Position) (fs : List Frame) → Ends p fs
  ends at_sum fs = let rest = primary_ends (Number (49 ∷ []) 0) (first_part [] false 0 0) fs in (one ∷ rest.0, r.forth at_sum fs one rest.0 rest.1, token_then one rest.0 one_token rest.2)
  ends (at_term terms minus at) fs = let rest = primary_ends (Number (49 ∷ []) 0) (first_part terms minus at 0) fs in (one ∷ rest.0, r.forth (at_term terms minus at) fs one rest.0 rest.1, token_then one rest.0 one_token rest.2)
  ends (at_operand p) fs = operand_ends p fs
  ends (at_bracket p) fs = let rest = reference_ends (Whole (97 ∷ []) 0) (previous p) fs in (mark marks.OpenRound 0 ∷ some_name ∷ rest.0, r.forth (at_bracket p) fs (mark marks.OpenRound 0) (some_name ∷ rest.0) (r.forth (at_name (previous p)) fs some_name rest.0 (reference_as_name limit d A K r (97 ∷ []) 0 (previous p) fs rest.0 rest.1)), token_then (mark marks.OpenRound 0) (some_name ∷ rest.0) tt (token_then some_name rest.0 name_token rest.2))
  ends (at_name u) fs = let rest = reference_ends (Whole (97 ∷ []) 0) u fs in (some_name ∷ rest.0, r.forth (at_name u) fs some_name rest.0 (reference_as_name limit d A K r (97 ∷ []) 0 u fs rest.0 rest.1), token_then some_name rest.0 name_token rest.2)
  ends (after_name n at u) fs = let rest = reference_ends (Whole n at) u fs in (rest.0, reference_as_name limit d A K r n at u fs rest.0 rest.1, rest.2)
  ends (after_reference v u) fs = reference_ends v u fs
  ends (after_primary e p) fs = primary_ends e p fs
  ends (at_exponent e at p) fs = let rest = factor_ends (Power e 1 at) p fs in (one ∷ rest.0, r.forth (at_exponent e at p) fs one rest.0 rest.1, token_then one rest.0 one_token rest.2)
  ends (after_factor f p) fs = factor_ends f p fs
