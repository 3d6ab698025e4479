-- The sizes and the excesses were added up.
use Rattle.qss_states.proofs.Common
use Common.{◌+◌, ◌^◌, ◌∙◌, ◌≡◌, ◌≤◌, ap, arith, Entry, excess, List, nat_tests, Product, sum_by}
use Common.{unsigned_abs}
use Rattle.qss_states.proofs.safe_bounds.is_safe_row_bound.Goals as goal

pub greatest_excess_sum-requires-clause-size_limit : goal.greatest_excess_sum-requires-clause-size_limit
greatest_excess_sum-requires-clause-size_limit c = rw c.as_slice.ensures c.requires.factors

pub size_sum_of_entries-requires-clause-count_limit : goal.size_sum_of_entries-requires-clause-count_limit
size_sum_of_entries-requires-clause-count_limit c = rw c.as_slice-2.ensures c.requires.count_limit

pub size_sum_of_entries-requires-clause-size_limit : goal.size_sum_of_entries-requires-clause-size_limit
size_sum_of_entries-requires-clause-size_limit c = rw c.as_slice-2.ensures c.requires.size_limit

pub returns : goal.returns
returns c =
    let row = c.args.row.now in
    let own = c.in-Some.ensures in
    let excesses : c.in-Some.excesses ≡ sum_by (excess c.args.level_bits c.args.bound) row.products =
    own.0 ∙ ap (λ (products : List Product). sum_by (excess c.args.level_bits c.args.bound) products) c.as_slice.ensures in
    let sizes : c.size_sum_of_entries.result ≡ sum_by (λ (entry : Entry). unsigned_abs entry.coef) row.entries =
    c.size_sum_of_entries.ensures.value ∙ ap (λ (entries : List Entry). sum_by (λ (entry : Entry). unsigned_abs entry.coef) entries) c.as_slice-2.ensures in (
      λ e.
          let all : c.size_sum_of_entries.result + c.in-Some.excesses ≤ 2 ^ 44 = grind (arith, nat_tests) in
          record { small = c.requires.bound; modes = omega (arith, excesses, sizes, all) },
      λ has.
          let all : c.size_sum_of_entries.result + c.in-Some.excesses ≤ 2 ^ 44 = omega (arith, excesses, sizes, has.modes) in
          grind (arith, nat_tests),
    )
