use Rattle.cert_check.proofs.Common
use Common.{◌+◌, arith, below_more, certificate_data, IsPlaceInRange, left_of, number_of, places_of}
use Common.{relation_of, right_of, start_of, system}
use Rattle.cert_check.proofs.Places.{place-says}
use Rattle.cert_check.proofs.inequality_checker.check_inequality.Goals as goal

pub loop-k-preserved : goal.loop-k-preserved
loop-k-preserved c =
    below_more _ _ c.loop-k.invariant
    ((place-says (number_of c.args.inequality) (start_of c.args.m.now.n c.args.inequality) (places_of c.args.m.now.n c.args.inequality) c.loop-k.k
    (c.start-start.result + c.from.result + 1)
    (IsPlaceInRange (system c.args.m.now) (certificate_data c.args.x.now) c.args.inequality)
    (relation_of c.args.inequality)
    (left_of (system c.args.m.now) (certificate_data c.args.x.now) c.args.inequality)
    (right_of (system c.args.m.now) (certificate_data c.args.x.now) c.args.inequality)
    c.sides_of_inequality.result c.judge_inequality-fault.result
    (omega (arith, c.from.ensures, c.start-start.ensures))
    (rw (c.number.ensures, c.inequality_relation.ensures) at c.judge_inequality-fault.ensures)
    (omega (arith, c.loop-k-test.true, c.count_inequality_places-k-end.ensures)) c.loop-k.invariant
    c.sides_of_inequality.ensures.in_range c.sides_of_inequality.ensures.left c.sides_of_inequality.ensures.right).passes c.if-is_some.ensures)

pub returns-then-is_some : goal.returns-then-is_some
returns-then-is_some c =
    (place-says (number_of c.args.inequality) (start_of c.args.m.now.n c.args.inequality) (places_of c.args.m.now.n c.args.inequality) c.loop-k.k
    (c.start-start.result + c.from.result + 1)
    (IsPlaceInRange (system c.args.m.now) (certificate_data c.args.x.now) c.args.inequality)
    (relation_of c.args.inequality)
    (left_of (system c.args.m.now) (certificate_data c.args.x.now) c.args.inequality)
    (right_of (system c.args.m.now) (certificate_data c.args.x.now) c.args.inequality)
    c.sides_of_inequality.result c.judge_inequality-fault.result
    (omega (arith, c.from.ensures, c.start-start.ensures))
    (rw (c.number.ensures, c.inequality_relation.ensures) at c.judge_inequality-fault.ensures)
    (omega (arith, c.loop-k-test.true, c.count_inequality_places-k-end.ensures)) c.loop-k.invariant
    c.sides_of_inequality.ensures.in_range c.sides_of_inequality.ensures.left c.sides_of_inequality.ensures.right).found c.if-is_some.ensures
