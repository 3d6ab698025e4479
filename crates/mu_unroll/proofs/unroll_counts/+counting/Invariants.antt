use Rattle.mu_unroll.proofs.Common
use Common.{◌+◌, ◌^◌, ◌≡◌, ◌≤◌, drop, factor_nodes, factors_of, map, min, scaled, signed}
use Common.{term_nodes, terms_of}
use Rattle.mu_unroll.proofs.unroll_counts.+counting.Given as goal

-- the nodes so far and those of what is left are all
abbrev pub invariant-count_unrolled_term_nodes-loop-term : goal.invariant-count_unrolled_term_nodes-loop-term
invariant-count_unrolled_term_nodes-loop-term l = record {
  cut : l.nodes ≤ 2 ^ 20 + 1;
  all : min (l.nodes + term_nodes (terms_of (map signed (drop l.term-index l.terms)))) (2 ^ 20 + 1) ≡ min (l.before + term_nodes (terms_of (map signed l.terms))) (2 ^ 20 + 1);
}

abbrev pub invariant-count_unrolled_factor_nodes-loop-factor : goal.invariant-count_unrolled_factor_nodes-loop-factor
invariant-count_unrolled_factor_nodes-loop-factor l = record {
  cut : l.nodes ≤ 2 ^ 20 + 1;
  all : min (l.nodes + factor_nodes (factors_of (map scaled (drop l.factor-index l.factors)))) (2 ^ 20 + 1) ≡ min (l.before + factor_nodes (factors_of (map scaled l.factors))) (2 ^ 20 + 1);
}
