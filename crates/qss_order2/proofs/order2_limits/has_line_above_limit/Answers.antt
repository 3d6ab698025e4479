-- None of the list.
use Rattle.qss_order2.proofs.Common
use Common.{ℕ, ℤ, arith, get_or, index_of, int_at, IsLineWithin, place_in, subst, to_z-of_z, w128}
use Rattle.qss_order2.proofs.order2_limits.has_line_above_limit.Goals as goal

pub returns : goal.returns
returns c e j among =
    let a = c.args in
    let found = index_of a.list.now j among in
    let At = λ (bound : ℤ) (k : ℕ). IsLineWithin bound (place_in a.q.now.places.items k)
    (int_at a.q.now.changes.items k) a.tick in
    subst (At a.bound) found.2 (subst (λ b. At b (get_or a.list.now found.0 0))
    (to_z-of_z w128 a.bound c.ranges.bound) (c.loop-state.invariant found.0 (omega (
      arith,
      found.1,
      c.loop-state-test.false,
    ))))
