-- Counts that are cut past the limit.
use Rattle.mu_unroll.proofs.Common.{ℕ, ◌+◌, ◌^◌, ◌≡◌, arith, Counts, min, nat_tests, with_item}
use Rattle.mu_unroll.specs.Counting.{with_total}

-- the cut total is as good as the whole one
pub with_total_min : (c : Counts) (n total : ℕ) → total ≡ min (c.nodes + n) (2 ^ 20 + 1) → with_total c total ≡ with_item c n
with_total_min c n total e = grind (arith, nat_tests)
