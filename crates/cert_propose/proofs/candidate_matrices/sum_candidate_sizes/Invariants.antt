use Rattle.cert_propose.proofs.Common
use Common.{ℕ, ℤ, ◌*ℤ◌, ◌+ℤ◌, ◌+◌, ◌<◌, ◌≡◌, abs_of, sum_below, Vector, weight}
use Rattle.cert_propose.proofs.candidate_matrices.sum_candidate_sizes.Given as goal

abbrev pub invariant-loop-k : goal.invariant-loop-k
invariant-loop-k p l =
    (f g : Vector) → ((k : ℕ) (x : ℤ) → k < l.n → goal.F-post p l.left k x → x ≡ f k) → ((k : ℕ) (x : ℤ) → k < l.n → goal.G-post p l.right k x → x ≡ g k) →
    (l.sum.total ≡ l.initial.sum.total +ℤ sum_below l.k (λ k. abs_of (f k) *ℤ g k)) × (l.sum.weight ≡ l.initial.sum.weight + weight l.k f g)
