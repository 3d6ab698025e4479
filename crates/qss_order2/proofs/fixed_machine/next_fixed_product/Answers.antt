-- Halving ends at the first product of a state from this one on.
use Rattle.qss_order2.proofs.Common
use Common.{ℕ, ◌≡◌, arith, false, get_or, IsNonDecreasingBy, IsPartitionPoint}
use Common.{IsPartitionPoint-from_clause, nat_lt, pos, Product, rules, true}
use Rattle.qss_order2.proofs.fixed_machine.next_fixed_product.Goals.{After-partition_point-place}
use Rattle.qss_order2.proofs.NextStates.{rising_products, lesser_first, reached, none_between}
use Rattle.qss_order2.proofs.NextStates.{first_is}
use Rattle.qss_order2.proofs.fixed_machine.next_fixed_product.Goals as goal

abbrev none : Product
none = record { state = 0; discrete = 0; coef = pos 0 }

abbrev number : Product → ℕ
number product = product.state

rise : (c : After-partition_point-place) → IsNonDecreasingBy number c.args.products.now
rise c = rising_products c.args.states c.requires.products.0 c.args.products.now
    c.requires.products.1

point : (c : After-partition_point-place) → IsPartitionPoint (λ x. nat_lt (number x) c.args.from
    ≡ true) (λ x. nat_lt (number x) c.args.from ≡ false) c.args.products.now
    c.partition_point-place.result
point c = IsPartitionPoint-from_clause (λ (product : Product). nat_lt product.state c.args.from)
    c.args.products.now c.partition_point-place.result c.partition_point-place.ensures.partitioned
    (lesser_first number c.args.products.now c.args.from c.partition_point-place.result (rise c))
    (λ a r q k. search rules)

pub returns-then-place-products-clause-later : goal.returns-then-place-products-clause-later
returns-then-place-products-clause-later c =
    let k = (goal.at.returns-then-place-products-clause-later c).After-partition_point-place in
    omega (
      arith,
      reached number c.args.products.now c.args.from c.partition_point-place.result
          (rise k) (point k) none c.if-place-products.true,
    )

pub returns-then-place-products-clause-none : goal.returns-then-place-products-clause-none
returns-then-place-products-clause-none c =
    let k = (goal.at.returns-then-place-products-clause-none c).After-partition_point-place in
    let place = c.partition_point-place.result in
    let found = (get_or c.args.products.now place none).state in
    none_between number c.args.products.now c.args.from place (rise k) (point k) found
    (first_is number c.args.products.now place found none (omega arith))

pub returns-clause-none : goal.returns-clause-none
returns-clause-none c =
    let k = (goal.at.returns-clause-none c).After-partition_point-place in
    none_between number c.args.products.now c.args.from c.partition_point-place.result (rise k)
    (point k) c.args.states (λ d h. absurd (omega (arith, h, c.if-place-products.false)))
