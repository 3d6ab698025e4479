use Rattle.std.proofs.Common.{◌≡◌, ◌++◌, true, map, drop}
use Rattle.mu_tree.specs.Expression.{signed, scaled, terms_of, factors_of}
use Rattle.mu_tree.specs.Canonical.{joined, written_factors, written_terms}
use Rattle.mu_canonical.proofs.expression_text.+writing.Given as goal

-- what is left to write completes the text
abbrev pub invariant-write_factors-loop-factor :
    goal.invariant-write_factors-loop-factor
invariant-write_factors-loop-factor l = l.out.items ++ joined (written_factors (factors_of (map scaled (drop l.factor-index l.factors))) l.first) ≡ l.initial.out.items ++ joined (written_factors (factors_of (map scaled l.factors)) true)

-- what is left to write completes the text
abbrev pub invariant-write_terms-loop-term : goal.invariant-write_terms-loop-term
invariant-write_terms-loop-term l = l.out.items ++ joined (written_terms (terms_of (map signed (drop l.term-index l.terms))) l.first) ≡ l.initial.out.items ++ joined (written_terms (terms_of (map signed l.terms)) true)
