use Rattle.cert_matrix.proofs.Common.{◌+◌, ◌^◌, ◌≤◌, arith}
use Rattle.cert_matrix.proofs.InRange.{product_fits, sum_fits, sum_is, sum_within}
use Rattle.cert_matrix.proofs.ranged_sum.RangedSum.plus.Goals as goal

pub overflow_mul-result : goal.overflow_mul-result
overflow_mul-result c =
    let self = c.args.self in
    let room : self.weight + c.in_ok-size.size ≤ 2 ^ 126 = omega (arith, self.in_range, c.if-size-self.false) in
    product_fits self.total c.args.a c.args.b self.weight c.unsigned_abs.result c.unsigned_abs-2.result c.in_ok-size.size c.ranges.a c.ranges.b
    self.within c.unsigned_abs.ensures.value c.unsigned_abs-2.ensures.value c.in_ok-size.ensures.1 room

pub overflow_add-result : goal.overflow_add-result
overflow_add-result c =
    let self = c.args.self in
    let room : self.weight + c.in_ok-size.size ≤ 2 ^ 126 = omega (arith, self.in_range, c.if-size-self.false) in
    sum_fits self.total c.args.a c.args.b self.weight c.unsigned_abs.result c.unsigned_abs-2.result c.in_ok-size.size c.ranges.a c.ranges.b
    self.within c.unsigned_abs.ensures.value c.unsigned_abs-2.ensures.value c.in_ok-size.ensures.1 room

pub returns-clause-total : goal.returns-clause-total
returns-clause-total c =
    let self = c.args.self in
    let room : self.weight + c.in_ok-size.size ≤ 2 ^ 126 = omega (arith, self.in_range, c.if-size-self.false) in
    sum_is self.total c.args.a c.args.b self.weight c.unsigned_abs.result c.unsigned_abs-2.result c.in_ok-size.size c.ranges.a c.ranges.b
    self.within c.unsigned_abs.ensures.value c.unsigned_abs-2.ensures.value c.in_ok-size.ensures.1 room

pub invariant_of-result : goal.invariant_of-result
invariant_of-result c =
    let self = c.args.self in
    let room : self.weight + c.in_ok-size.size ≤ 2 ^ 126 = omega (arith, self.in_range, c.if-size-self.false) in
    record {
      within = sum_within self.total c.args.a c.args.b self.weight c.unsigned_abs.result c.unsigned_abs-2.result c.in_ok-size.size c.ranges.a c.ranges.b
          self.within c.unsigned_abs.ensures.value c.unsigned_abs-2.ensures.value c.in_ok-size.ensures.1 room;
      in_range = room;
    }
