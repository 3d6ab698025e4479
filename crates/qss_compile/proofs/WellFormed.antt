-- A parsed model has exponents of at most 8, and a branch in each clause.
use Rattle.qss_compile.proofs.Common
use Common.{[], ℕ, ◌&&◌, ◌++◌, ◌<◌, ◌∷◌, ◌≡◌, ◌≤◌, All, arith, Bool, Expression, false}
use Common.{if◌then◌else◌, length, List, ModelTree, nat_le, None, refl, Some, SpellsModel, Sum}
use Common.{true}
use Rattle.std.proofs.Common.{◌-◌}
use Rattle.std.proofs.lemmas.List.Elements.{All-nil, All-cons}
use Rattle.mu_grammar.specs.Bodies.{IsBareEquation, derivative, algebraic, equation_kind}
use Rattle.mu_grammar.specs.Bodies.{IsEquation, IsBareStatement, assign, restart, statement_kind}
use Rattle.mu_grammar.specs.Bodies.{IsStatement, AreBranches, last_branch, branch_then}
use Rattle.mu_grammar.specs.Bodies.{IsBareClause, when, clause_kind, IsClause}
use Rattle.mu_grammar.specs.Conditions.{IsCondition}
use Rattle.mu_grammar.specs.Grammar.{Symbol, first_place, signed, scaled, sum_of, product_of}
use Rattle.mu_grammar.specs.Grammar.{exponent_of, IsSum, unsigned, added, subtracted, MoreTerms}
use Rattle.mu_grammar.specs.Grammar.{last_term, plus, minus, IsProduct, product, MoreFactors}
use Rattle.mu_grammar.specs.Grammar.{last_factor, times, divide, IsFactor, plain, power, IsPrimary}
use Rattle.mu_grammar.specs.Grammar.{literal, variable, time, pre}
use Rattle.mu_grammar.specs.Lists.{Runs, no_more, one_more, Listed, listed_end, listed_then}
use Rattle.mu_grammar.specs.Loops.{Kind, IsItem, bare, loop, AreItems, no_items, item_then}
use Rattle.mu_grammar.specs.ModelGrammar.{Sections, AddsEquation, adds_equation, AddsClause}
use Rattle.mu_grammar.specs.ModelGrammar.{adds_clause, AddsStart, adds_start, IsSection, equations}
use Rattle.mu_grammar.specs.ModelGrammar.{clauses, starts, model}
use Rattle.mu_tree.specs.Expression.{Signed, Scaled, terms_of, factors_of}
use Rattle.mu_tree.specs.ModelTree.{Condition, Range, EquationTree, StatementTree, BranchTree}
use Rattle.mu_tree.specs.ModelTree.{ClauseTree, equations_of, statements_of, clauses_of}
use Rattle.mu_unroll.specs.WellFormed.{HasSmallPowers, HaveSmallPowersTerms, HaveSmallPowersFactors}
use Rattle.mu_unroll.specs.WellFormed.{EquationHas, EquationsHave, StatementHas, StatementsHave}
use Rattle.mu_unroll.specs.WellFormed.{BranchHas, ClauseHas, ClausesHave, IsWellFormed}
use Rattle.mu_grammar.specs.Conditions as conditions
use Rattle.mu_grammar.specs.Grammar as grammar

both_true : (a b : Bool) → a && b ≡ true → (a ≡ true) × (b ≡ true)
both_true true b e = (refl, e)
both_true false b e = absurd (cc e)

at_most : (a b : ℕ) → nat_le a b ≡ true → a ≤ b
at_most a b e = grind arith

-- one digit says at most 8
exponent_small : (digits : List ℕ) (exp : ℕ) → exponent_of digits ≡ Some exp → exp ≤ 8
exponent_small [] exp e = absurd (cc e)
exponent_small (c ∷ []) exp e = by (nat_le 48 c && nat_le c 56) (λ h. at_most c 56 (both_true (nat_le 48 c) (nat_le c 56) h).1) e
  where
    by : (b : Bool) → (b ≡ true → c ≤ 56) → (if b then Some (c - 48) else None) ≡ Some exp → exp ≤ 8
    by true low e = let h : c ≤ 56 = low refl in let same : c - 48 ≡ exp = cc e in omega (arith, h, same)
    by false low e = absurd (cc e)
exponent_small (c ∷ d ∷ s) exp e = absurd (cc e)

abbrev SmallTerms : List Signed → Type 0
SmallTerms [] = Unit {0}
SmallTerms (t ∷ ts) = HasSmallPowers t.value × SmallTerms ts

abbrev SmallFactors : List Scaled → Type 0
SmallFactors [] = Unit {0}
SmallFactors (f ∷ fs) = HasSmallPowers f.value × SmallFactors fs

terms_small : (ts : List Signed) → SmallTerms ts → HaveSmallPowersTerms (terms_of ts)
terms_small [] h = tt
terms_small (t ∷ ts) h = (h.0, terms_small ts h.1)

factors_small : (fs : List Scaled) → SmallFactors fs → HaveSmallPowersFactors (factors_of fs)
factors_small [] h = tt
factors_small (f ∷ fs) h = (h.0, factors_small fs h.1)

sum_small : (t : Signed) (ts : List Signed) → HasSmallPowers t.value → SmallTerms ts → HasSmallPowers (sum_of (t ∷ ts))
sum_small t [] first rest = elim t.minus as (λ (b : Bool). HasSmallPowers (if b then Sum (terms_of (t ∷ [])) else t.value)) [ true ↦ (first, tt) | false ↦ first ]
sum_small t (u ∷ ts) first rest = (first, terms_small (u ∷ ts) rest)

product_small : (f : Scaled) (fs : List Scaled) → HasSmallPowers f.value → SmallFactors fs → HasSmallPowers (product_of (f ∷ fs))
product_small f [] first rest = first
product_small f (g ∷ fs) first rest = (first, factors_small (g ∷ fs) rest)

mutual
  is_sum : {limit d : ℕ} {ts rest : List Symbol} {v : Expression} → IsSum limit d ts rest v → HasSmallPowers v
  is_sum (unsigned {ts = ts} {v = v} {more = more} p m) = sum_small (signed false (first_place ts) v) more (is_product p) (are_terms m)
  is_sum (added {at = at} {v = v} {more = more} p m) = sum_small (signed false at v) more (is_product p) (are_terms m)
  is_sum (subtracted {at = at} {v = v} {more = more} p m) = sum_small (signed true at v) more (is_product p) (are_terms m)

  are_terms : {limit d : ℕ} {ts rest : List Symbol} {more : List Signed} → MoreTerms limit d ts rest more → SmallTerms more
  are_terms last_term = tt
  are_terms (plus p m) = (is_product p, are_terms m)
  are_terms (minus p m) = (is_product p, are_terms m)

  is_product : {limit d : ℕ} {ts rest : List Symbol} {v : Expression} → IsProduct limit d ts rest v → HasSmallPowers v
  is_product (product {ts = ts} {v = v} {more = more} f m) = product_small (scaled false (first_place ts) v) more (is_factor f) (are_factors m)

  are_factors : {limit d : ℕ} {ts rest : List Symbol} {more : List Scaled} → MoreFactors limit d ts rest more → SmallFactors more
  are_factors last_factor = tt
  are_factors (times f m) = (is_factor f, are_factors m)
  are_factors (divide f m) = (is_factor f, are_factors m)

  is_factor : {limit d : ℕ} {ts rest : List Symbol} {v : Expression} → IsFactor limit d ts rest v → HasSmallPowers v
  is_factor (plain p) = is_primary p
  is_factor (power {exp = exp} {digits = digits} p e) = (is_primary p, exponent_small digits exp e)

  is_primary : {limit d : ℕ} {ts rest : List Symbol} {v : Expression} → IsPrimary limit d ts rest v → HasSmallPowers v
  is_primary literal = tt
  is_primary (variable r) = tt
  is_primary time = tt
  is_primary (pre less r) = tt
  is_primary (grammar.brackets less s) = is_sum s

-- what holds of items, and of items in order
module _ {T Ts : Type 0} (limit : ℕ) (kind : Kind T Ts) (IsBare : ℕ → List Symbol → List Symbol → T → Type 0) (Has : T → Type 0) (Have : Ts → Type 0)
    (of_bare : (d : ℕ) (ts rest : List Symbol) (v : T) → IsBare d ts rest v → Has v) (of_loop : (r : Range) (vs : Ts) → Have vs → Has (kind.each r vs))
    (of_none : Have kind.none) (of_then : (v : T) (vs : Ts) → Has v → Have vs → Have (kind.then v vs)) where
  mutual
    item_has : {d : ℕ} {ts rest : List Symbol} {v : T} → IsItem limit kind IsBare d ts rest v → Has v
    item_has {d = d} {ts = ts} {rest = rest} {v = v} (bare b) = of_bare d ts rest v b
    item_has (loop {r = r} {vs = vs} less ranges items) = of_loop r vs (items_have items)

    items_have : {d : ℕ} {ts rest : List Symbol} {vs : Ts} → AreItems limit kind IsBare d ts rest vs → Have vs
    items_have no_items = of_none
    items_have (item_then {v = v} {vs = vs} first more) = of_then v vs (item_has first) (items_have more)

bare_equation : {limit d : ℕ} {ts rest : List Symbol} {v : EquationTree} → IsBareEquation limit d ts rest v → EquationHas HasSmallPowers v
bare_equation (derivative less r s m) = is_sum s
bare_equation (algebraic r s m) = is_sum s

is_equation : (limit : ℕ) {d : ℕ} {ts rest : List Symbol} {v : EquationTree} → IsEquation limit d ts rest v → EquationHas HasSmallPowers v
is_equation limit e = item_has limit equation_kind (IsBareEquation limit) (EquationHas HasSmallPowers) (EquationsHave HasSmallPowers) (λ d ts rest v. bare_equation) (λ r vs h. h) tt (λ v vs h t. (h, t)) e

bare_statement : {limit d : ℕ} {may : Bool} {ts rest : List Symbol} {v : StatementTree} → IsBareStatement limit may d ts rest v → StatementHas HasSmallPowers v
bare_statement (assign r s) = is_sum s
bare_statement (restart may less r s) = is_sum s

is_statement : (limit : ℕ) (may : Bool) {d : ℕ} {ts rest : List Symbol} {v : StatementTree} → IsStatement limit may d ts rest v → StatementHas HasSmallPowers v
is_statement limit may e = item_has limit statement_kind (IsBareStatement limit may) (StatementHas HasSmallPowers) (StatementsHave HasSmallPowers) (λ d ts rest v. bare_statement) (λ r vs h. h) tt (λ v vs h t. (h, t)) e

are_statements : (limit d : ℕ) {ts rest : List Symbol} {body : List StatementTree} → Listed (IsStatement limit true d) ts rest body → StatementsHave HasSmallPowers (statements_of body)
are_statements limit d listed_end = tt
are_statements limit d (listed_then one more) = (is_statement limit true one, are_statements limit d more)

abbrev SmallCondition : Condition → Type 0
SmallCondition c = HasSmallPowers c.left × HasSmallPowers c.right

is_condition : {limit d : ℕ} {ts rest : List Symbol} {c : Condition} → IsCondition limit d ts rest c → SmallCondition c
is_condition (conditions.compare left rel right) = (is_sum left, is_sum right)
is_condition (conditions.brackets less c) = is_condition c

is_branch : (limit d : ℕ) {ts us vs rest : List Symbol} {c : Condition} {body : List StatementTree} → IsCondition limit d ts us c → Listed (IsStatement limit true d) vs rest body → BranchHas HasSmallPowers (record { condition = c; body = body })
is_branch limit d c body = let sides = is_condition c in (sides.0, sides.1, are_statements limit d body)

are_branches : (limit d : ℕ) {ts rest : List Symbol} {bs : List BranchTree} → AreBranches limit d ts rest bs → (0 < length bs) × All (BranchHas HasSmallPowers) bs
are_branches limit d (last_branch {c = c} {body = body} condition statements) =
    (omega arith, All-cons (BranchHas HasSmallPowers) (record { condition = c; body = body }) [] (is_branch limit d condition statements) (All-nil (BranchHas HasSmallPowers)))
are_branches limit d (branch_then {c = c} {body = body} {bs = bs} condition statements more) =
    (omega arith, All-cons (BranchHas HasSmallPowers) (record { condition = c; body = body }) bs (is_branch limit d condition statements) (are_branches limit d more).1)

bare_clause : {limit d : ℕ} {ts rest : List Symbol} {v : ClauseTree} → IsBareClause limit d ts rest v → ClauseHas HasSmallPowers v
bare_clause {limit = limit} (when {d = d} less branches) = are_branches limit _ branches

is_clause : (limit : ℕ) {d : ℕ} {ts rest : List Symbol} {v : ClauseTree} → IsClause limit d ts rest v → ClauseHas HasSmallPowers v
is_clause limit e = item_has limit clause_kind (IsBareClause limit) (ClauseHas HasSmallPowers) (ClausesHave HasSmallPowers) (λ d ts rest v. bare_clause) (λ r vs h. h) tt (λ v vs h t. (h, t)) e

-- one more at the end
equations_push : (es : List EquationTree) (e : EquationTree) → EquationsHave HasSmallPowers (equations_of es) → EquationHas HasSmallPowers e → EquationsHave HasSmallPowers (equations_of (es ++ e ∷ []))
equations_push [] e all one = (one, tt)
equations_push (x ∷ es) e all one = (all.0, equations_push es e all.1 one)

clauses_push : (cs : List ClauseTree) (c : ClauseTree) → ClausesHave HasSmallPowers (clauses_of cs) → ClauseHas HasSmallPowers c → ClausesHave HasSmallPowers (clauses_of (cs ++ c ∷ []))
clauses_push [] c all one = (one, tt)
clauses_push (x ∷ cs) c all one = (all.0, clauses_push cs c all.1 one)

abbrev Good : Sections → Type 0
Good s = EquationsHave HasSmallPowers (equations_of s.equations) × ClausesHave HasSmallPowers (clauses_of s.clauses)

-- what parts in a row keep
runs_keep : {S : Type 0} (One : S → List Symbol → List Symbol → S → Type 0) (Holds : S → Type 0) → ((s t : S) (ts rest : List Symbol) → One s ts rest t → Holds s → Holds t) → {s t : S} {ts rest : List Symbol} → Runs One s ts rest t → Holds s → Holds t
runs_keep One Holds step no_more h = h
runs_keep One Holds step (one_more {s = s} {t = t} {ts = ts} {mid = mid} first more) h = runs_keep One Holds step more (step s t ts mid first h)

adds_good_equation : (limit : ℕ) {s t : Sections} {ts rest : List Symbol} → AddsEquation limit s ts rest t → Good s → Good t
adds_good_equation limit (adds_equation {s = s} {e = e} one) h = (equations_push s.equations e h.0 (is_equation limit one), h.1)

adds_good_clause : (limit : ℕ) {s t : Sections} {ts rest : List Symbol} → AddsClause limit s ts rest t → Good s → Good t
adds_good_clause limit (adds_clause {s = s} {c = c} one) h = (h.0, clauses_push s.clauses c h.1 (is_clause limit one))

adds_good_start : (limit : ℕ) {s t : Sections} {ts rest : List Symbol} → AddsStart limit s ts rest t → Good s → Good t
adds_good_start limit (adds_start one) h = h

good_section : (limit : ℕ) {s t : Sections} {ts rest : List Symbol} → IsSection limit s ts rest t → Good s → Good t
good_section limit (equations more) h = runs_keep (AddsEquation limit) Good (λ s t ts rest. adds_good_equation limit) more h
good_section limit (clauses more) h = runs_keep (AddsClause limit) Good (λ s t ts rest. adds_good_clause limit) more h
good_section limit (starts more) h = runs_keep (AddsStart limit) Good (λ s t ts rest. adds_good_start limit) more h

-- a parsed model is well formed
pub well_formed : (limit : ℕ) (ts : List Symbol) (m : ModelTree) → SpellsModel limit ts m → IsWellFormed m
well_formed limit ts m (model {s = s} title heads body annotated) =
    let good = runs_keep (IsSection limit) Good (λ s t ts rest. good_section limit) body (tt, tt) in
    record { equations = good.0; clauses = good.1 }
