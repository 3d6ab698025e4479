-- Syntax trees without source offsets: each offset is 0.
use Rattle.std.specs.Prelude.{List, [], ◌∷◌, Option, map}
use Rattle.std.specs.Option.{option_map}
use Rattle.mu_tree.specs.Expression.{Expression, Number, Variable, Now, Previous, Sum, Product, Power, Reference, Whole, Element, Terms, no_terms, term, Factors, no_factors, factor}
use Rattle.mu_tree.specs.ModelTree.{Condition, Range, EquationTree, Derivative, Algebraic, EachEquation, EquationTrees, no_equations, equation_then, StatementTree, Assign, Restart, EachStatement, StatementTrees, no_statements, statement_then, BranchTree, ClauseTree, Branches, EachClause, ClauseTrees, no_clauses, clause_then, Declaration, Setting, ModelTree}

abbrev mutual
  pub bare : Expression → Expression
  bare (Number digits at) = Number digits 0
  bare (Variable r) = Variable (bare_reference r)
  bare (Now at) = Now 0
  bare (Previous r) = Previous (bare_reference r)
  bare (Sum ts) = Sum (bare_terms ts)
  bare (Product fs) = Product (bare_factors fs)
  bare (Power e n at) = Power (bare e) n 0

  pub bare_reference : Reference → Reference
  bare_reference (Whole n at) = Whole n 0
  bare_reference (Element n index at) = Element n (bare index) 0

  pub bare_terms : Terms → Terms
  bare_terms no_terms = no_terms
  bare_terms (term minus at e ts) = term minus 0 (bare e) (bare_terms ts)

  pub bare_factors : Factors → Factors
  bare_factors no_factors = no_factors
  bare_factors (factor divide at e fs) = factor divide 0 (bare e) (bare_factors fs)

abbrev pub bare_condition : Condition → Condition
bare_condition c = record { left = bare c.left; rel = c.rel; right = bare c.right; at = 0 }

abbrev pub bare_range : Range → Range
bare_range r = record { var = r.var; at = 0; from = bare r.from; to = bare r.to }

abbrev mutual
  pub bare_equation : EquationTree → EquationTree
  bare_equation (Derivative r e) = Derivative (bare_reference r) (bare e)
  bare_equation (Algebraic r e) = Algebraic (bare_reference r) (bare e)
  bare_equation (EachEquation r body) = EachEquation (bare_range r) (bare_equations body)

  pub bare_equations : EquationTrees → EquationTrees
  bare_equations no_equations = no_equations
  bare_equations (equation_then e es) = equation_then (bare_equation e) (bare_equations es)

abbrev mutual
  pub bare_statement : StatementTree → StatementTree
  bare_statement (Assign r e) = Assign (bare_reference r) (bare e)
  bare_statement (Restart r e) = Restart (bare_reference r) (bare e)
  bare_statement (EachStatement r body) = EachStatement (bare_range r) (bare_statements body)

  pub bare_statements : StatementTrees → StatementTrees
  bare_statements no_statements = no_statements
  bare_statements (statement_then s ss) = statement_then (bare_statement s) (bare_statements ss)

abbrev pub bare_branch : BranchTree → BranchTree
bare_branch b = record { condition = bare_condition b.condition; body = map bare_statement b.body }

abbrev mutual
  pub bare_clause : ClauseTree → ClauseTree
  bare_clause (Branches bs) = Branches (map bare_branch bs)
  bare_clause (EachClause r body) = EachClause (bare_range r) (bare_clauses body)

  pub bare_clauses : ClauseTrees → ClauseTrees
  bare_clauses no_clauses = no_clauses
  bare_clauses (clause_then c cs) = clause_then (bare_clause c) (bare_clauses cs)

abbrev pub bare_declaration : Declaration → Declaration
bare_declaration d = record { prefix = d.prefix; whole = d.whole; name = d.name; size = option_map bare d.size; start = option_map bare d.start; value = option_map bare d.value; quantum = option_map bare d.quantum; at = 0 }

abbrev pub bare_setting : Setting → Setting
bare_setting s = record { which = s.which; value = bare s.value; at = 0 }

-- the model with all source offsets set to 0
abbrev pub bare_model : ModelTree → ModelTree
bare_model m = record {
  name = m.name;
  end_name = m.end_name;
  end_at = 0;
  decls = map bare_declaration m.decls;
  starts = map bare_statement m.starts;
  equations = map bare_equation m.equations;
  clauses = map bare_clause m.clauses;
  settings = map bare_setting m.settings;
}
