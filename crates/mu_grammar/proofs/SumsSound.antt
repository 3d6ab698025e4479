-- What the machine reads, the grammar allows, in any context of the sum.
use Rattle.mu_grammar.proofs.Common
use Common.{[], ℕ, ◌++◌, ◌<◌, ◌∙◌, ◌∷◌, ◌≡◌, ◌⊎◌, after_factor, after_name, after_primary}
use Common.{after_reference, after_sum, ap, append-nil, append_assoc, at_bracket, at_exponent}
use Common.{at_name, at_operand, at_sum, at_term, begin_sum, bracket, depth, depth_at, Element}
use Common.{exponent_of, Expression, false, first_part, follow_term, Frame, index, inl, inr}
use Common.{IsFactor, IsPrimary, IsProduct, IsReference, IsSum, List, mark, MoreFactors, MoreTerms}
use Common.{Move, moves, name, None, Now, Number, number, opens, operand, Option, Part, place}
use Common.{Position, Power, Previous, previous, product_of, Reference, refl, Scaled, scaled}
use Common.{Signed, signed, Some, step, subst, suc, sum_of, sym, Symbol, true, Use, Variable, Whole}
use Common.{with_term, word, wrong}
use Rattle.mu_grammar.specs.SumMachine.{behind, follow_factor, follow_primary, follow_reference}
use Rattle.mu_grammar.specs.SumMachine.{follow_name}
use Rattle.mu_lexer.specs.declared.token.Word.TheVariants as words
use Rattle.mu_lexer.specs.declared.token.Mark.TheVariants as marks
use Rattle.mu_grammar.specs.Grammar as grammar
use Rattle.mu_grammar.specs.SumMachine as machine

-- terms, and then what K wants of the sum
pub record TermThen (limit d : ℕ) (K : Expression → List Symbol → Type 0) (terms : List Signed) (ts : List Symbol) : Type 0 where
  pub end : List Symbol
  pub more : List Signed
  pub reads : MoreTerms limit d ts end more
  pub goes_on : K (sum_of (terms ++ more)) end

-- factors, terms, and then what K wants of the sum
pub record FactorThen (limit d : ℕ) (K : Expression → List Symbol → Type 0) (p : Part) (f : Expression) (ts : List Symbol) : Type 0 where
  pub end : List Symbol
  pub more : List Scaled
  pub reads : MoreFactors limit d ts end more
  pub goes_on : TermThen limit d K (p.terms ++ signed p.minus p.at (product_of (p.factors ++ scaled p.divide p.place f ∷ more)) ∷ []) end

-- a power, and the rest of the sum
pub record CaretThen (limit d : ℕ) (K : Expression → List Symbol → Type 0) (p : Part) (e : Expression) (at : ℕ) (ts : List Symbol) : Type 0 where
  pub digits : List ℕ
  pub place : ℕ
  pub exp : ℕ
  pub rest : List Symbol
  pub tokens : ts ≡ number digits place ∷ rest
  pub digit : exponent_of digits ≡ Some exp
  pub goes_on : FactorThen limit d K p (Power e exp at) rest

-- what may follow a primary
abbrev pub PrimaryThen : ℕ → ℕ → (Expression → List Symbol → Type 0) → Part → Expression → List Symbol → Type 0
PrimaryThen limit d K p e ts = FactorThen limit d K p e ts ⊎ ((at : ℕ) × (rest : List Symbol) × (ts ≡ mark marks.Caret at ∷ rest) × CaretThen limit d K p e at rest)

-- a factor, and the rest of the sum
pub record OperandThen (limit d : ℕ) (K : Expression → List Symbol → Type 0) (p : Part) (ts : List Symbol) : Type 0 where
  pub end : List Symbol
  pub value : Expression
  pub reads : IsFactor limit d ts end value
  pub goes_on : FactorThen limit d K p value end

-- what may follow a reference
abbrev pub ReferenceThen : ℕ → ℕ → (Expression → List Symbol → Type 0) → Use → Reference → List Symbol → Type 0
ReferenceThen limit d K (machine.variable p) r ts = PrimaryThen limit d K p (Variable r) ts
ReferenceThen limit d K (previous p) r ts = (at : ℕ) × (rest : List Symbol) × (ts ≡ mark marks.CloseRound at ∷ rest) × PrimaryThen limit d K p (Previous r) rest

-- a reference, and what may follow it
pub record NameThen (limit d : ℕ) (K : Expression → List Symbol → Type 0) (u : Use) (ts : List Symbol) : Type 0 where
  pub end : List Symbol
  pub value : Reference
  pub reads : IsReference limit (behind u d) ts end value
  pub goes_on : ReferenceThen limit d K u value end

-- an index, and what may follow the reference
pub record IndexThen (limit d : ℕ) (K : Expression → List Symbol → Type 0) (n : List ℕ) (at : ℕ) (u : Use) (ts : List Symbol) : Type 0 where
  pub place : ℕ
  pub last : ℕ
  pub inside : List Symbol
  pub end : List Symbol
  pub value : Expression
  pub tokens : ts ≡ mark marks.OpenSquare place ∷ inside
  pub allowed : behind u d < limit
  pub reads : IsSum limit (suc (behind u d)) inside (mark marks.CloseSquare last ∷ end) value
  pub goes_on : ReferenceThen limit d K u (Element n value at) end

-- with the sum complete, the tokens close the frames, and K holds of the whole sum and what is left
abbrev pub Closes : ℕ → ℕ → (Expression → List Symbol → Type 0) → List Frame → Expression → List Symbol → Type 0
Closes limit d K [] e ts = K e ts
Closes limit d K (bracket p ∷ fs) e ts = (at : ℕ) × (rest : List Symbol) × (ts ≡ mark marks.CloseRound at ∷ rest) × PrimaryThen limit (depth d fs) (Closes limit d K fs) p e rest
Closes limit d K (index n i u ∷ fs) e ts = (at : ℕ) × (rest : List Symbol) × (ts ≡ mark marks.CloseSquare at ∷ rest) × ReferenceThen limit (depth d fs) (Closes limit d K fs) u (Element n e i) rest

-- from this position the tokens complete a sum, and K holds of it and what is left
abbrev pub Completes : ℕ → ℕ → (Expression → List Symbol → Type 0) → Position → List Frame → List Symbol → Type 0
Completes limit d K at_sum fs ts = (end : List Symbol) × (e : Expression) × IsSum limit (depth d fs) ts end e × Closes limit d K fs e end
Completes limit d K (at_term terms minus at) fs ts = (end : List Symbol) × (v : Expression) × IsProduct limit (depth d fs) ts end v × TermThen limit (depth d fs) (Closes limit d K fs) (terms ++ signed minus at v ∷ []) end
Completes limit d K (at_operand p) fs ts = OperandThen limit (depth d fs) (Closes limit d K fs) p ts
Completes limit d K (at_bracket p) fs ts = (at : ℕ) × (rest : List Symbol) × (ts ≡ mark marks.OpenRound at ∷ rest) × NameThen limit (depth d fs) (Closes limit d K fs) (previous p) rest
Completes limit d K (at_name u) fs ts = NameThen limit (depth d fs) (Closes limit d K fs) u ts
Completes limit d K (after_name n at u) fs ts = ReferenceThen limit (depth d fs) (Closes limit d K fs) u (Whole n at) ts ⊎ IndexThen limit (depth d fs) (Closes limit d K fs) n at u ts
Completes limit d K (after_reference r u) fs ts = ReferenceThen limit (depth d fs) (Closes limit d K fs) u r ts
Completes limit d K (after_primary e p) fs ts = PrimaryThen limit (depth d fs) (Closes limit d K fs) p e ts
Completes limit d K (at_exponent e at p) fs ts = CaretThen limit (depth d fs) (Closes limit d K fs) p e at ts
Completes limit d K (after_factor f p) fs ts = FactorThen limit (depth d fs) (Closes limit d K fs) p f ts

-- the same of a move with a token, where e brackets are open
abbrev pub CompletesMove : ℕ → ℕ → (Expression → List Symbol → Type 0) → ℕ → Move → Symbol → List Symbol → Type 0
CompletesMove limit d K e (moves p fs) x ts = Completes limit d K p fs ts
CompletesMove limit d K e (opens p fs) x ts = (e < limit) × (Completes limit d K p fs ts)
CompletesMove limit d K e (machine.ends s) x ts = K s (x ∷ ts)
CompletesMove limit d K e wrong x ts = ⊥

module _ (limit d : ℕ) (K : Expression → List Symbol → Type 0) where
  sum_follows : (e : Expression) (fs : List Frame) (x : Symbol) (ts : List Symbol) → CompletesMove limit d K (depth d fs) (after_sum e fs x) x ts → Closes limit d K fs e (x ∷ ts)
  sum_follows e [] x ts is = is
  sum_follows e (bracket p ∷ fs) (mark marks.CloseRound at) ts is = (at, ts, refl, is)
  sum_follows e (index n i u ∷ fs) (mark marks.CloseSquare at) ts is = (at, ts, refl, is)
  sum_follows e (bracket p ∷ fs) x ts is = absurd is
  sum_follows e (index n i u ∷ fs) x ts is = absurd is

  term_follows : (terms : List Signed) (fs : List Frame) (x : Symbol) (ts : List Symbol) → CompletesMove limit d K (depth d fs) (follow_term terms fs x) x ts → TermThen limit (depth d fs) (Closes limit d K fs) terms (x ∷ ts)
  term_follows terms fs (mark marks.Plus at) ts is = record {
    end = is.3.end;
    more = signed false at is.1 ∷ is.3.more;
    reads = grammar.plus is.2 is.3.reads;
    goes_on = subst (λ us. Closes limit d K fs (sum_of us) is.3.end) (append_assoc terms (signed false at is.1 ∷ []) is.3.more) is.3.goes_on;
  }
  term_follows terms fs (mark marks.Minus at) ts is = record {
    end = is.3.end;
    more = signed true at is.1 ∷ is.3.more;
    reads = grammar.minus is.2 is.3.reads;
    goes_on = subst (λ us. Closes limit d K fs (sum_of us) is.3.end) (append_assoc terms (signed true at is.1 ∷ []) is.3.more) is.3.goes_on;
  }
  term_follows terms fs x ts is = record {
    end = x ∷ ts;
    more = [];
    reads = grammar.last_term;
    goes_on = subst (λ us. Closes limit d K fs (sum_of us) (x ∷ ts)) (sym (append-nil terms)) (sum_follows (sum_of terms) fs x ts is);
  }

  factor_follows : (f : Expression) (p : Part) (fs : List Frame) (x : Symbol) (ts : List Symbol) → CompletesMove limit d K (depth d fs) (follow_factor f p fs x) x ts → FactorThen limit (depth d fs) (Closes limit d K fs) p f (x ∷ ts)
  factor_follows f p fs (mark marks.Times at) ts is = record {
    end = is.goes_on.end;
    more = scaled false at is.value ∷ is.goes_on.more;
    reads = grammar.times is.reads is.goes_on.reads;
    goes_on = subst (λ us. TermThen limit (depth d fs) (Closes limit d K fs) (p.terms ++ signed p.minus p.at (product_of us) ∷ []) is.goes_on.end) (append_assoc p.factors (scaled p.divide p.place f ∷ []) (scaled false at is.value ∷ is.goes_on.more)) is.goes_on.goes_on;
  }
  factor_follows f p fs (mark marks.Divide at) ts is = record {
    end = is.goes_on.end;
    more = scaled true at is.value ∷ is.goes_on.more;
    reads = grammar.divide is.reads is.goes_on.reads;
    goes_on = subst (λ us. TermThen limit (depth d fs) (Closes limit d K fs) (p.terms ++ signed p.minus p.at (product_of us) ∷ []) is.goes_on.end) (append_assoc p.factors (scaled p.divide p.place f ∷ []) (scaled true at is.value ∷ is.goes_on.more)) is.goes_on.goes_on;
  }
  factor_follows f p fs x ts is = record { end = x ∷ ts; more = []; reads = grammar.last_factor; goes_on = term_follows (with_term p f) fs x ts is }

  primary_follows : (e : Expression) (p : Part) (fs : List Frame) (x : Symbol) (ts : List Symbol) → CompletesMove limit d K (depth d fs) (follow_primary e p fs x) x ts → PrimaryThen limit (depth d fs) (Closes limit d K fs) p e (x ∷ ts)
  primary_follows e p fs (mark marks.Caret at) ts is = inr (at, ts, refl, is)
  primary_follows e p fs x ts is = inl (factor_follows e p fs x ts is)

  reference_follows : (r : Reference) (u : Use) (fs : List Frame) (x : Symbol) (ts : List Symbol) → CompletesMove limit d K (behind u (depth d fs)) (follow_reference r u fs x) x ts → ReferenceThen limit (depth d fs) (Closes limit d K fs) u r (x ∷ ts)
  reference_follows r (machine.variable p) fs x ts is = primary_follows (Variable r) p fs x ts is
  reference_follows r (previous p) fs (mark marks.CloseRound at) ts is = (at, ts, refl, is)
  reference_follows r (previous p) fs x ts is = absurd is

  name_follows : (n : List ℕ) (at : ℕ) (u : Use) (fs : List Frame) (x : Symbol) (ts : List Symbol) → CompletesMove limit d K (behind u (depth d fs)) (follow_name n at u fs x) x ts →
      ReferenceThen limit (depth d fs) (Closes limit d K fs) u (Whole n at) (x ∷ ts) ⊎ IndexThen limit (depth d fs) (Closes limit d K fs) n at u (x ∷ ts)
  name_follows n at u fs (mark marks.OpenSquare i) ts is = inr (record {
    place = i;
    last = is.1.3.0;
    inside = ts;
    end = is.1.3.1;
    value = is.1.1;
    tokens = refl;
    allowed = is.0;
    reads = subst (λ us. IsSum limit (suc (behind u (depth d fs))) ts us is.1.1) is.1.3.2 is.1.2;
    goes_on = is.1.3.3;
  })
  name_follows n at u fs x ts is = inl (reference_follows (Whole n at) u fs x ts is)

  -- a primary, and what may follow it
  pub primary_then : (fs : List Frame) (p : Part) (ts end : List Symbol) (v : Expression) → IsPrimary limit (depth d fs) ts end v → PrimaryThen limit (depth d fs) (Closes limit d K fs) p v end → OperandThen limit (depth d fs) (Closes limit d K fs) p ts
  primary_then fs p ts end v primary (inl then) = record { end = end; value = v; reads = grammar.plain primary; goes_on = then }
  primary_then fs p ts end v primary (inr caret) = record {
    end = caret.3.rest;
    value = Power v caret.3.exp caret.0;
    reads = grammar.power (subst (λ us. IsPrimary limit (depth d fs) ts us v) (caret.2 ∙ ap (λ us. mark marks.Caret caret.0 ∷ us) caret.3.tokens) primary) caret.3.digit;
    goes_on = caret.3.goes_on;
  }

  -- a name, and what may follow it
  name_then : (n : List ℕ) (at : ℕ) (u : Use) (fs : List Frame) (ts : List Symbol) → Completes limit d K (after_name n at u) fs ts → NameThen limit (depth d fs) (Closes limit d K fs) u (name n at ∷ ts)
  name_then n at u fs ts (inl then) = record { end = ts; value = Whole n at; reads = grammar.whole; goes_on = then }
  name_then n at u fs ts (inr then) = record {
    end = then.end;
    value = Element n then.value at;
    reads = subst (λ us. IsReference limit (behind u (depth d fs)) (name n at ∷ us) then.end (Element n then.value at)) (sym then.tokens) (grammar.element then.allowed then.reads);
    goes_on = then.goes_on;
  }

  operand_follows : (p : Part) (fs : List Frame) (x : Symbol) (ts : List Symbol) → CompletesMove limit d K (depth d fs) (operand p fs x) x ts → OperandThen limit (depth d fs) (Closes limit d K fs) p (x ∷ ts)
  operand_follows p fs (number digits at) ts is = primary_then fs p (number digits at ∷ ts) ts (Number digits at) grammar.literal is
  operand_follows p fs (name n at) ts is =
      let then = name_then n at (machine.variable p) fs ts is in
      primary_then fs p (name n at ∷ ts) then.end (Variable then.value) (grammar.variable then.reads) then.goes_on
  operand_follows p fs (word words.Time at) ts is = primary_then fs p (word words.Time at ∷ ts) ts (Now at) grammar.time is
  operand_follows p fs (word words.Pre at) ts (less, is) =
      let reference : IsReference limit (suc (depth d fs)) is.1 (mark marks.CloseRound is.3.goes_on.0 ∷ is.3.goes_on.1) is.3.value = subst (λ us. IsReference limit (suc (depth d fs)) is.1 us is.3.value) is.3.goes_on.2 is.3.reads in
      primary_then fs p (word words.Pre at ∷ ts) is.3.goes_on.1 (Previous is.3.value) (subst (λ us. IsPrimary limit (depth d fs) (word words.Pre at ∷ us) is.3.goes_on.1 (Previous is.3.value)) (sym is.2) (grammar.pre less reference)) is.3.goes_on.3
  operand_follows p fs (mark marks.OpenRound at) ts (less, is) =
      primary_then fs p (mark marks.OpenRound at ∷ ts) is.3.1 is.1 (grammar.brackets less (subst (λ us. IsSum limit (suc (depth d fs)) ts us is.1) is.3.2 is.2)) is.3.3
  operand_follows p fs x ts is = absurd is

  pub begin_sum_follows : (fs : List Frame) (x : Symbol) (ts : List Symbol) → CompletesMove limit d K (depth d fs) (begin_sum fs x) x ts → Completes limit d K at_sum fs (x ∷ ts)
  begin_sum_follows fs (mark marks.Plus at) ts is = (is.3.end, sum_of (signed false at is.1 ∷ is.3.more), grammar.added is.2 is.3.reads, is.3.goes_on)
  begin_sum_follows fs (mark marks.Minus at) ts is = (is.3.end, sum_of (signed true at is.1 ∷ is.3.more), grammar.subtracted is.2 is.3.reads, is.3.goes_on)
  begin_sum_follows fs x ts is =
      let first = operand_follows (first_part [] false (place x) (place x)) fs x ts is in
      let factors = first.goes_on in
      (factors.goes_on.end, sum_of (signed false (place x) (product_of (scaled false (place x) first.value ∷ factors.more)) ∷ factors.goes_on.more), grammar.unsigned (grammar.product first.reads factors.reads) factors.goes_on.reads, factors.goes_on.goes_on)

  pub back : (p : Position) (fs : List Frame) (x : Symbol) (ts : List Symbol) → CompletesMove limit d K (depth_at d p fs) (step p fs x) x ts → Completes limit d K p fs (x ∷ ts)
  back at_sum fs x ts is = begin_sum_follows fs x ts is
  back (at_term terms minus at) fs x ts is =
      let first = operand_follows (first_part terms minus at (place x)) fs x ts is in
      let factors = first.goes_on in
      (factors.end, product_of (scaled false (place x) first.value ∷ factors.more), grammar.product first.reads factors.reads, factors.goes_on)
  back (at_operand p) fs x ts is = operand_follows p fs x ts is
  back (at_bracket p) fs (mark marks.OpenRound at) ts is = (at, ts, refl, is)
  back (at_bracket p) fs x ts is = absurd is
  back (at_name u) fs (name n at) ts is = name_then n at u fs ts is
  back (at_name u) fs x ts is = absurd is
  back (after_name n at u) fs x ts is = name_follows n at u fs x ts is
  back (after_reference r u) fs x ts is = reference_follows r u fs x ts is
  back (after_primary e p) fs x ts is = primary_follows e p fs x ts is
  back (at_exponent e at p) fs (number digits i) ts is = go_power (exponent_of digits) refl is
    where
      go_power : (o : Option ℕ) → exponent_of digits ≡ o → CompletesMove limit d K (depth d fs) (machine.power o e at p fs) (number digits i) ts → CaretThen limit (depth d fs) (Closes limit d K fs) p e at (number digits i ∷ ts)
      go_power None none is = absurd is
      go_power (Some exp) some is = record { digits = digits; place = i; exp = exp; rest = ts; tokens = refl; digit = some; goes_on = is }
  back (at_exponent e at p) fs x ts is = absurd is
  back (after_factor f p) fs x ts is = factor_follows f p fs x ts is
