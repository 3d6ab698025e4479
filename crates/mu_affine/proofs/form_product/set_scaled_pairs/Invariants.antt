use Rattle.mu_affine.proofs.Common.{beside, map, pair_cmp, SetsAll, take}
use Rattle.mu_affine.proofs.form_product.set_scaled_pairs.Given as goal

abbrev pub invariant-loop-discrete : goal.invariant-loop-discrete
invariant-loop-discrete l = SetsAll pair_cmp l.by l.initial.row.entries l.row.entries (map (beside l.state) (take l.discrete-index l.discretes))
