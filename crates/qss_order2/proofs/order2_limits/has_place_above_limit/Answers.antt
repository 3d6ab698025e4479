-- None of the list.
use Rattle.qss_order2.proofs.Common
use Common.{◌≤ℤ◌, abs_of, arith, get_or, index_of, place_in, subst, to_z-of_z, w128}
use Rattle.qss_order2.proofs.order2_limits.has_place_above_limit.Goals as goal

pub returns : goal.returns
returns c e j among =
    let found = index_of c.args.list.now j among in
    subst (λ k. abs_of (place_in c.args.q.now.places.items k).level ≤ℤ c.args.bound) found.2
    (subst (λ b. abs_of (place_in c.args.q.now.places.items (get_or c.args.list.now found.0
    0)).level ≤ℤ b)
    (to_z-of_z w128 c.args.bound c.ranges.bound) (c.loop-state.invariant found.0 (omega (
      arith,
      found.1,
      c.loop-state-test.false,
    ))))
