-- Counts of items, loop rounds and nodes during unrolling, and their limits.
use Rattle.std.specs.Prelude.{ℕ, ◌+◌, ◌^◌, nat_lt, if◌then◌else◌, Result, Ok, Err}
use Rattle.mu_tree.specs.Expression.{Expression, Number, Variable, Now, Previous, Sum, Product}
use Rattle.mu_tree.specs.Expression.{Power, Terms, no_terms, term, Factors, no_factors, factor}
use Rattle.mu_unroll.specs.declared.unroll_counts.Counts.{Counts}
use Rattle.mu_unroll.specs.declared.unroll_fault.UnrollErr.{UnrollErr}
use Rattle.mu_unroll.specs.declared.unroll_fault.UnrollErr.TheVariants.{TooMany}

abbrev mutual
  -- the number of nodes of the flat expression; terms and factors are not counted separately
  pub node_count : Expression → ℕ
  node_count (Number digits at) = 1
  node_count (Variable r) = 1
  node_count (Now at) = 1
  node_count (Previous r) = 1
  node_count (Sum ts) = 1 + term_nodes ts
  node_count (Product fs) = 1 + factor_nodes fs
  node_count (Power base exp at) = 1 + node_count base

  pub term_nodes : Terms → ℕ
  term_nodes no_terms = 0
  term_nodes (term minus at e rest) = node_count e + term_nodes rest

  pub factor_nodes : Factors → ℕ
  factor_nodes no_factors = 0
  factor_nodes (factor divide at e rest) = node_count e + factor_nodes rest

-- one more item with these nodes; the limits are 16,384 items and 1,048,576 nodes
abbrev pub with_item : Counts → ℕ → Result Counts UnrollErr
with_item c nodes =
    if nat_lt (2 ^ 14) (c.items + 1) then Err (TooMany (2 ^ 14 + 1))
    else (if nat_lt (2 ^ 20) (c.nodes + nodes) then Err (TooMany (2 ^ 20 + 1))
    else Ok (record { items = c.items + 1; rounds = c.rounds; nodes = c.nodes + nodes }))

-- one more loop round; the limit is 65,536
abbrev pub with_round : Counts → Result Counts UnrollErr
with_round c = if nat_lt (2 ^ 16) (c.rounds + 1) then Err (TooMany (2 ^ 16 + 1)) else Ok (record { items = c.items; rounds = c.rounds + 1; nodes = c.nodes })

-- counts of 0
abbrev pub no_counts : Counts
no_counts = record { items = 0; rounds = 0; nodes = 0 }

-- one more item, where `nodes` is the new node count
abbrev pub with_total : Counts → ℕ → Result Counts UnrollErr
with_total c nodes =
    if nat_lt (2 ^ 14) (c.items + 1) then Err (TooMany (2 ^ 14 + 1))
    else (if nat_lt (2 ^ 20) nodes then Err (TooMany (2 ^ 20 + 1))
    else Ok (record { items = c.items + 1; rounds = c.rounds; nodes = nodes }))
