use Rattle.mu_causal.proofs.Common.{DependsOn, IsAlgebraic}
use Rattle.mu_causal.proofs.Cycles.{no_closed_chain}
use Rattle.mu_causal.proofs.causal_order.order_excludes_chains.Goals as goal

pub returns : goal.returns
returns c = λ m vars v vs. no_closed_chain (IsAlgebraic m) (DependsOn m) vars v vs (λ v w d. d.from_algebraic)
