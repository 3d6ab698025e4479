use Rattle.cert_check.proofs.Common.{◌∙◌, ap, of_z, sym, vector, w128}
use Rattle.cert_check.proofs.Gaps.{apart-below}
use Rattle.cert_check.proofs.inequality_sides.are_side_vectors_same.Goals as goal

pub returns-then-at : goal.returns-then-at
returns-then-at c =
    sym (apart-below c.args.n c.loop-k.k (vector c.args.first.now) (vector c.args.second.now) c.loop-k-test.true
    (λ e. c.if-at.true (ap (of_z w128) (c.at.ensures ∙ e ∙ sym c.at-in-loop-k.ensures))))
