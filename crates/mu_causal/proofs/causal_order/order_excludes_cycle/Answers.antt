use Rattle.mu_causal.proofs.Common.{DependsOn, IsAlgebraic}
use Rattle.mu_causal.proofs.Cycles.{no_cycle}
use Rattle.mu_causal.proofs.causal_order.order_excludes_cycle.Goals as goal

pub returns : goal.returns
returns c = λ m vars round. no_cycle (IsAlgebraic m) (DependsOn m) vars round (λ v w d. d.from_algebraic)
