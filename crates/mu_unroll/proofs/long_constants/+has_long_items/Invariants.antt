use Rattle.mu_unroll.proofs.Common.{list_size}
use Rattle.mu_unroll.proofs.long_constants.+has_long_items.Given as goal

abbrev pub decreases-has_long_items : goal.decreases-has_long_items
decreases-has_long_items g l = list_size g.T.Nest.tree g.T.Nest.item l.items.now
