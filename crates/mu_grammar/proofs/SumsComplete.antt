-- What the grammar allows, the machine reads, in any context of the sum.
use Rattle.mu_grammar.proofs.Common
use Common.{[], ℕ, ◌++◌, ◌<◌, ◌∙◌, ◌∷◌, ◌≡◌, after_factor, after_name, after_primary}
use Common.{after_reference, after_sum, ap, append-nil, append_assoc, at_bracket, at_exponent}
use Common.{at_name, at_operand, at_sum, at_term, Bool, bracket, depth, depth_at, Expression, false}
use Common.{first_part, first_place, follow_term, Frame, index, IsFactor, IsPrimary, IsProduct}
use Common.{IsReference, IsSum, List, Mark, mark, MoreFactors, MoreTerms, Move, moves, name, number}
use Common.{opens, operand, Part, place, Position, previous, product_of, Reference, refl, Scaled}
use Common.{scaled, Signed, signed, step, subst, suc, sum_of, sym, Symbol, true, Use, Variable}
use Common.{Whole, with_term, wrong}
use Rattle.mu_grammar.specs.SumMachine.{behind, next_factor, ends}
use Rattle.mu_lexer.specs.declared.token.Mark.TheVariants as marks
use Rattle.mu_grammar.specs.Grammar as grammar
use Rattle.mu_grammar.specs.SumMachine as machine

-- the token would go on with a sum before it
abbrev pub continues : Symbol → Bool
continues (mark marks.Plus at) = true
continues (mark marks.Minus at) = true
continues (mark marks.Times at) = true
continues (mark marks.Divide at) = true
continues (mark marks.Caret at) = true
continues (mark marks.OpenSquare at) = true
continues _ = false

-- a move is good, where A says from where the machine reads the tokens, and K what may follow the sum
abbrev pub Good : ℕ → (Position → List Frame → List Symbol → Type 0) → (Expression → List Symbol → Type 0) → ℕ → Move → Symbol → List Symbol → Type 0
Good limit A K d (moves p fs) x ts = A p fs ts
Good limit A K d (opens p fs) x ts = (d < limit) × A p fs ts
Good limit A K d (ends e) x ts = K e (x ∷ ts)
Good limit A K d wrong x ts = ⊥

-- A is how the machine reads a sum at depth d, in a context where K may follow
pub record IsReader (limit d : ℕ) (A : Position → List Frame → List Symbol → Type 0) (K : Expression → List Symbol → Type 0) : Type 0 where
  pub forth : (p : Position) (fs : List Frame) (x : Symbol) (ts : List Symbol) → Good limit A K (depth_at d p fs) (step p fs x) x ts → A p fs (x ∷ ts)
  pub back : (p : Position) (fs : List Frame) (x : Symbol) (ts : List Symbol) → A p fs (x ∷ ts) → Good limit A K (depth_at d p fs) (step p fs x) x ts
  pub no_end : (p : Position) (fs : List Frame) → A p fs [] → ⊥
  pub no_rest : (e : Expression) → K e [] → ⊥
  pub stops : (e : Expression) (x : Symbol) (ts : List Symbol) → K e (x ∷ ts) → continues x ≡ false

module _ (limit d : ℕ) (A : Position → List Frame → List Symbol → Type 0) (K : Expression → List Symbol → Type 0) (r : IsReader limit d A K) where
  -- an operand, then what follows
  abbrev pub GoodOperand : Part → List Frame → List Symbol → Type 0
  GoodOperand p fs [] = ⊥
  GoodOperand p fs (x ∷ ts) = Good limit A K (depth d fs) (operand p fs x) x ts

  -- what follows a complete term
  abbrev pub GoodTerm : List Signed → List Frame → List Symbol → Type 0
  GoodTerm terms fs [] = ⊥
  GoodTerm terms fs (x ∷ ts) = Good limit A K (depth d fs) (follow_term terms fs x) x ts

  -- what follows a complete sum
  abbrev pub GoodSum : Expression → List Frame → List Symbol → Type 0
  GoodSum e fs [] = ⊥
  GoodSum e fs (x ∷ ts) = Good limit A K (depth d fs) (after_sum e fs x) x ts

  -- no sum goes on with such a token
  stuck : (e : Expression) (fs : List Frame) (m : Mark) (at : ℕ) (ts : List Symbol) → continues (mark m at) ≡ true → GoodSum e fs (mark m at ∷ ts) → ⊥
  stuck e [] m at ts on is = let a = r.stops e (mark m at) ts is in cc
  stuck e (bracket p ∷ fs) marks.CloseRound at ts on is = cc
  stuck e (bracket p ∷ fs) m at ts on is = is
  stuck e (index n i u ∷ fs) marks.CloseSquare at ts on is = cc
  stuck e (index n i u ∷ fs) m at ts on is = is

  operand_accepts : (p : Part) (fs : List Frame) (ts : List Symbol) → GoodOperand p fs ts → A (at_operand p) fs ts
  operand_accepts p fs [] is = absurd is
  operand_accepts p fs (x ∷ ts) is = r.forth (at_operand p) fs x ts is

  term_accepts : (terms : List Signed) (minus : Bool) (at : ℕ) (fs : List Frame) (ts : List Symbol) → GoodOperand (first_part terms minus at (first_place ts)) fs ts → A (at_term terms minus at) fs ts
  term_accepts terms minus at fs [] is = absurd is
  term_accepts terms minus at fs (x ∷ ts) is = r.forth (at_term terms minus at) fs x ts is

  -- no operand begins with a sign
  sum_accepts : (fs : List Frame) (ts : List Symbol) → GoodOperand (first_part [] false (first_place ts) (first_place ts)) fs ts → A at_sum fs ts
  sum_accepts fs [] is = absurd is
  sum_accepts fs (mark marks.Plus at ∷ ts) is = absurd is
  sum_accepts fs (mark marks.Minus at ∷ ts) is = absurd is
  sum_accepts fs (x ∷ ts) is = r.forth at_sum fs x ts is

  -- no sum is followed by a sign
  pub sum_as_term : (terms : List Signed) (fs : List Frame) (ts : List Symbol) → GoodSum (sum_of terms) fs ts → GoodTerm terms fs ts
  sum_as_term terms fs [] is = absurd is
  sum_as_term terms fs (mark marks.Plus at ∷ ts) is = absurd (stuck (sum_of terms) fs marks.Plus at ts refl is)
  sum_as_term terms fs (mark marks.Minus at ∷ ts) is = absurd (stuck (sum_of terms) fs marks.Minus at ts refl is)
  sum_as_term terms fs (x ∷ ts) is = is

  -- no term is followed by * or /
  pub term_as_factor : (f : Expression) (p : Part) (fs : List Frame) (ts : List Symbol) → GoodTerm (with_term p f) fs ts → A (after_factor f p) fs ts
  term_as_factor f p fs [] is = absurd is
  term_as_factor f p fs (mark marks.Times at ∷ ts) is = absurd (stuck (sum_of (with_term p f)) fs marks.Times at ts refl is)
  term_as_factor f p fs (mark marks.Divide at ∷ ts) is = absurd (stuck (sum_of (with_term p f)) fs marks.Divide at ts refl is)
  term_as_factor f p fs (x ∷ ts) is = r.forth (after_factor f p) fs x ts is

  -- no factor is followed by ^
  pub factor_as_primary : (e : Expression) (p : Part) (fs : List Frame) (ts : List Symbol) → A (after_factor e p) fs ts → A (after_primary e p) fs ts
  factor_as_primary e p fs [] is = absurd (r.no_end (after_factor e p) fs is)
  factor_as_primary e p fs (mark marks.Caret at ∷ ts) is = absurd (stuck (sum_of (with_term p e)) fs marks.Caret at ts refl (r.back (after_factor e p) fs (mark marks.Caret at) ts is))
  factor_as_primary e p fs (x ∷ ts) is = r.forth (after_primary e p) fs x ts (r.back (after_factor e p) fs x ts is)

  -- no reference is followed by [
  pub reference_as_name : (n : List ℕ) (at : ℕ) (u : Use) (fs : List Frame) (ts : List Symbol) → A (after_reference (Whole n at) u) fs ts → A (after_name n at u) fs ts
  reference_as_name n at u fs [] is = absurd (r.no_end (after_reference (Whole n at) u) fs is)
  reference_as_name n at (machine.variable p) fs (mark marks.OpenSquare i ∷ ts) is = absurd (stuck (sum_of (with_term p (Variable (Whole n at)))) fs marks.OpenSquare i ts refl (r.back (after_reference (Whole n at) (machine.variable p)) fs (mark marks.OpenSquare i) ts is))
  reference_as_name n at (previous p) fs (mark marks.OpenSquare i ∷ ts) is = absurd (r.back (after_reference (Whole n at) (previous p)) fs (mark marks.OpenSquare i) ts is)
  reference_as_name n at u fs (x ∷ ts) is = r.forth (after_name n at u) fs x ts (r.back (after_reference (Whole n at) u) fs x ts is)

  -- a variable is a primary
  pub primary_as_reference : (v : Reference) (p : Part) (fs : List Frame) (ts : List Symbol) → A (after_primary (Variable v) p) fs ts → A (after_reference v (machine.variable p)) fs ts
  primary_as_reference v p fs [] is = absurd (r.no_end (after_primary (Variable v) p) fs is)
  primary_as_reference v p fs (x ∷ ts) is = r.forth (after_reference v (machine.variable p)) fs x ts (r.back (after_primary (Variable v) p) fs x ts is)

  -- the part and its operand after further factors
  abbrev pub push : Part → Expression → List Scaled → Part × Expression
  push p f [] = (p, f)
  push p f (v ∷ more) = push (next_factor p f v.divide v.at) v.value more

  -- the terms after further factors
  pub with_factors : (p : Part) (f : Expression) (more : List Scaled) → with_term (push p f more).0 (push p f more).1 ≡ p.terms ++ signed p.minus p.at (product_of (p.factors ++ scaled p.divide p.place f ∷ more)) ∷ []
  with_factors p f [] = refl
  with_factors p f (v ∷ more) = with_factors (next_factor p f v.divide v.at) v.value more ∙ ap (λ factors. p.terms ++ signed p.minus p.at (product_of factors) ∷ []) (append_assoc p.factors (scaled p.divide p.place f ∷ []) (v ∷ more))

  mutual
    pub sum_read : {e : ℕ} {ts rest : List Symbol} {v : Expression} → IsSum limit e ts rest v → (fs : List Frame) → e ≡ depth d fs → GoodSum v fs rest → A at_sum fs ts
    sum_read {ts = ts} {rest = rest} (grammar.unsigned {v = v} {more = more} first later) fs same is =
        sum_accepts fs ts (product_read first fs same [] false (first_place ts) (terms_read later fs same (signed false (first_place ts) v ∷ []) (sum_as_term (signed false (first_place ts) v ∷ more) fs rest is)))
    sum_read {rest = rest} (grammar.added {at = at} {ts = ts} {v = v} {more = more} first later) fs same is =
        r.forth at_sum fs (mark marks.Plus at) ts (term_accepts [] false at fs ts (product_read first fs same [] false at (terms_read later fs same (signed false at v ∷ []) (sum_as_term (signed false at v ∷ more) fs rest is))))
    sum_read {rest = rest} (grammar.subtracted {at = at} {ts = ts} {v = v} {more = more} first later) fs same is =
        r.forth at_sum fs (mark marks.Minus at) ts (term_accepts [] true at fs ts (product_read first fs same [] true at (terms_read later fs same (signed true at v ∷ []) (sum_as_term (signed true at v ∷ more) fs rest is))))

    pub terms_read : {e : ℕ} {ts rest : List Symbol} {more : List Signed} → MoreTerms limit e ts rest more → (fs : List Frame) → e ≡ depth d fs → (terms : List Signed) → GoodTerm (terms ++ more) fs rest → GoodTerm terms fs ts
    terms_read {ts = ts} grammar.last_term fs same terms is = subst (λ us. GoodTerm us fs ts) (append-nil terms) is
    terms_read {rest = rest} (grammar.plus {at = at} {ts = ts} {v = v} {more = more} first later) fs same terms is =
        term_accepts terms false at fs ts (product_read first fs same terms false at (terms_read later fs same (terms ++ signed false at v ∷ []) (subst (λ us. GoodTerm us fs rest) (sym (append_assoc terms (signed false at v ∷ []) more)) is)))
    terms_read {rest = rest} (grammar.minus {at = at} {ts = ts} {v = v} {more = more} first later) fs same terms is =
        term_accepts terms true at fs ts (product_read first fs same terms true at (terms_read later fs same (terms ++ signed true at v ∷ []) (subst (λ us. GoodTerm us fs rest) (sym (append_assoc terms (signed true at v ∷ []) more)) is)))

    product_read : {e : ℕ} {ts rest : List Symbol} {v : Expression} → IsProduct limit e ts rest v → (fs : List Frame) → e ≡ depth d fs → (terms : List Signed) (minus : Bool) (at : ℕ) → GoodTerm (terms ++ signed minus at v ∷ []) fs rest → GoodOperand (first_part terms minus at (first_place ts)) fs ts
    product_read {ts = ts} {rest = rest} (grammar.product {v = v} {more = more} first later) fs same terms minus at is =
        let p = first_part terms minus at (first_place ts) in
        factor_read first fs same p (factors_read later fs same p v (term_as_factor (push p v more).1 (push p v more).0 fs rest (subst (λ us. GoodTerm us fs rest) (sym (with_factors p v more)) is)))

    pub factors_read : {e : ℕ} {ts rest : List Symbol} {more : List Scaled} → MoreFactors limit e ts rest more → (fs : List Frame) → e ≡ depth d fs → (p : Part) (f : Expression) → A (after_factor (push p f more).1 (push p f more).0) fs rest → A (after_factor f p) fs ts
    factors_read grammar.last_factor fs same p f is = is
    factors_read (grammar.times {at = at} {ts = ts} {v = v} first later) fs same p f is =
        r.forth (after_factor f p) fs (mark marks.Times at) ts (operand_accepts (next_factor p f false at) fs ts (factor_read first fs same (next_factor p f false at) (factors_read later fs same (next_factor p f false at) v is)))
    factors_read (grammar.divide {at = at} {ts = ts} {v = v} first later) fs same p f is =
        r.forth (after_factor f p) fs (mark marks.Divide at) ts (operand_accepts (next_factor p f true at) fs ts (factor_read first fs same (next_factor p f true at) (factors_read later fs same (next_factor p f true at) v is)))

    factor_read : {e : ℕ} {ts rest : List Symbol} {v : Expression} → IsFactor limit e ts rest v → (fs : List Frame) → e ≡ depth d fs → (p : Part) → A (after_factor v p) fs rest → GoodOperand p fs ts
    factor_read {rest = rest} {v = v} (grammar.plain primary) fs same p is = primary_read primary fs same p (factor_as_primary v p fs rest is)
    factor_read {rest = rest} (grammar.power {at = at} {i = i} {exp = exp} {digits = digits} {v = v} primary digit) fs same p is =
        primary_read primary fs same p (r.forth (after_primary v p) fs (mark marks.Caret at) (number digits i ∷ rest) (
        r.forth (at_exponent v at p) fs (number digits i) rest (subst (λ o. Good limit A K (depth d fs) (machine.power o v at p fs) (number digits i) rest) (sym digit) is)))

    primary_read : {e : ℕ} {ts rest : List Symbol} {v : Expression} → IsPrimary limit e ts rest v → (fs : List Frame) → e ≡ depth d fs → (p : Part) → A (after_primary v p) fs rest → GoodOperand p fs ts
    primary_read grammar.literal fs same p is = is
    primary_read {rest = rest} (grammar.variable {r = v} reference) fs same p is = name_operand reference fs same p (primary_as_reference v p fs rest is)
    primary_read grammar.time fs same p is = is
    primary_read {rest = rest} (grammar.pre {i = i} {j = j} {ts = ts} {r = v} less reference) fs same p is =
        (subst (λ n. n < limit) same less, r.forth (at_bracket p) fs (mark marks.OpenRound i) ts (reference_read reference fs (previous p) (ap suc same) (r.forth (after_reference v (previous p)) fs (mark marks.CloseRound j) rest is)))
    primary_read (grammar.brackets {ts = ts} less sum) fs same p is =
        (subst (λ n. n < limit) same less, sum_read sum (bracket p ∷ fs) (ap suc same) is)

    name_operand : {e : ℕ} {ts rest : List Symbol} {v : Reference} → IsReference limit e ts rest v → (fs : List Frame) → e ≡ depth d fs → (p : Part) → A (after_reference v (machine.variable p)) fs rest → GoodOperand p fs ts
    name_operand {rest = rest} (grammar.whole {at = at} {n = n}) fs same p is = reference_as_name n at (machine.variable p) fs rest is
    name_operand (grammar.element {at = at} {i = i} {n = n} {ts = ts} less sum) fs same p is =
        r.forth (after_name n at (machine.variable p)) fs (mark marks.OpenSquare i) ts (subst (λ n. n < limit) same less, sum_read sum (index n at (machine.variable p) ∷ fs) (ap suc same) is)

    reference_read : {e : ℕ} {ts rest : List Symbol} {v : Reference} → IsReference limit e ts rest v → (fs : List Frame) (u : Use) → e ≡ behind u (depth d fs) → A (after_reference v u) fs rest → A (at_name u) fs ts
    reference_read {rest = rest} (grammar.whole {at = at} {n = n}) fs u same is = r.forth (at_name u) fs (name n at) rest (reference_as_name n at u fs rest is)
    reference_read (grammar.element {at = at} {i = i} {n = n} {ts = ts} less sum) fs u same is =
        r.forth (at_name u) fs (name n at) (mark marks.OpenSquare i ∷ ts) (r.forth (after_name n at u) fs (mark marks.OpenSquare i) ts (subst (λ n. n < limit) same less, sum_read sum (index n at u ∷ fs) (ap suc same) is))
