-- Each term is at most the sum of sizes.
use Rattle.qss_order2.proofs.Common
use Common.{◌*ℤ◌, ◌^◌, ◌∙◌, abs_of, arith, Entry, int_at, ints, IsWithin, pos, sum_done, sum_over}
use Common.{sum_step, sym, weighted_sum-is}
use Rattle.mu_num.proofs.SizeTests.{passes-within}
use Rattle.qss_order2.proofs.SizeSums.{term_below, size_from_zero}
use Rattle.qss_order2.proofs.order2_rises.rise_change_sum.Goals as goal

pub rise_change_term-sum-requires-clause-within : goal.rise_change_term-sum-requires-clause-within
rise_change_term-sum-requires-clause-within c =
    let changes = c.args.changes.now in
    let f = λ (entry : Entry). abs_of (entry.coef *ℤ int_at changes entry.var) in
    let all : IsWithin 94 (sum_over f c.args.entries.now) =
    passes-within 94 (sum_over f c.args.entries.now) c.requires.within in
    let below = term_below f (λ e. size_from_zero (e.coef *ℤ int_at changes e.var))
    c.args.entries.now c.loop-entry.entry-index (record { var = 0; coef = pos 0 })
    c.loop-entry-test.true in
    omega (arith, ints, all, below)

pub loop-entry-preserved : goal.loop-entry-preserved
loop-entry-preserved c =
    let turn = sum_step _ c.args.entries.now c.loop-entry.entry-index (record {
      var = 0;
      coef = pos 0;
    }) _ c.rise_change_term-sum.result (2 ^ 94) c.loop-entry.invariant.so_far
    c.loop-entry.invariant.bound
    c.rise_change_term-sum.ensures.value c.rise_change_term-sum.ensures.bound c.loop-entry-test.true
    (omega (
      arith,
      c.requires.count_limit,
    )) in
    record { so_far = turn.0; bound = turn.1 }

pub returns : goal.returns
returns c =
    sum_done _ _ _ _ c.loop-entry.invariant.so_far c.loop-entry-test.false
    ∙ sym (weighted_sum-is c.args.entries.now c.args.changes.now c.requires.known)
