-- The first two stay the first two.
use Rattle.mu_causal.proofs.Common.{[], ◌++◌, ◌∷◌, ap}
use Rattle.mu_causal.proofs.equation_counts.Given.with_equation_count.Goals as goal

pub returns-in-Often : goal.returns-in-Often
returns-in-Often c = λ numbers is.
    let before = rw c.in-Often.is at is in
    (before.0 ++ c.args.number ∷ [], ap (λ ns. ns ++ c.args.number ∷ []) before.1)
