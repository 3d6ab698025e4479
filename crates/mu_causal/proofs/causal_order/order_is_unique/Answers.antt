use Rattle.mu_causal.proofs.Common.{DependsOn, IsAlgebraic}
use Rattle.mu_causal.proofs.Orders.{one_order}
use Rattle.mu_causal.proofs.causal_order.order_is_unique.Goals as goal

pub returns : goal.returns
returns c = λ m a b. one_order (IsAlgebraic m) (DependsOn m) a b
