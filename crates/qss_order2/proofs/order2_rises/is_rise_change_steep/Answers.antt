-- A sum of sizes is past a limit where one of them is.
use Rattle.qss_order2.proofs.Common
use Common.{ℕ, ℤ, ◌*ℤ◌, ◌+◌, ◌<◌, ◌^◌, ◌≡◌, ◌≤ℤ◌, abs_of, arith, Entry, exceeds, get_or, int_at}
use Common.{ints, length, List, nat_tests, pos, sum_over, sum_over_more, sym, take, true}
use Common.{unsigned_abs}
use Rattle.qss_order2.proofs.SizeSums.{term_below, size_from_zero}
use Rattle.qss_order2.proofs.order2_rises.is_rise_change_steep.Goals as goal

passes_more : (a b : ℤ) → exceeds 94 a ≡ true → pos (unsigned_abs a) ≤ℤ b → exceeds 94 b ≡ true
passes_more a b past below =
    let far : 2 ^ 94 < unsigned_abs a = grind (arith, nat_tests) in
    let farther : 2 ^ 94 < unsigned_abs b = omega (arith, ints) in
    grind (arith, nat_tests)

steep_by : (changes : List ℤ) (xs : List Entry) (i : ℕ) (d : Entry) → i < length xs →
    exceeds 94 ((get_or xs i d).coef *ℤ int_at changes (get_or xs i d).var) ≡ true →
    exceeds 94 (sum_over (λ (e : Entry). abs_of (e.coef *ℤ int_at changes e.var)) xs) ≡ true
steep_by changes xs i d h past =
    let f = λ (e : Entry). abs_of (e.coef *ℤ int_at changes e.var) in
    passes_more ((get_or xs i d).coef *ℤ int_at changes (get_or xs i d).var) (sum_over f xs) past
    (term_below f (λ e. size_from_zero (e.coef *ℤ int_at changes e.var)) xs i d h)

pub returns-in-None : goal.returns-in-None
returns-in-None c =
    sym (steep_by c.args.changes.now c.args.entries.now c.loop-entry.entry-index (record {
      var =
          0;
      coef = pos 0;
    }) c.loop-entry-test.true c.in-None.ensures)

more : (changes : List ℤ) (xs : List Entry) (i : ℕ) (d : Entry) (a b : ℕ) → i < length xs →
    pos a ≡ sum_over (λ (e : Entry). abs_of (e.coef *ℤ int_at changes e.var)) (take i xs) →
    pos b ≡ abs_of ((get_or xs i d).coef *ℤ int_at changes (get_or xs i d).var) →
    pos (a + b) ≡ sum_over (λ (e : Entry). abs_of (e.coef *ℤ int_at changes e.var))
    (take (i + 1) xs)
more changes xs i d a b h so_far is =
    let f = λ (e : Entry). abs_of (e.coef *ℤ int_at changes e.var) in
    omega (arith, ints, sum_over_more f xs i d h, so_far, is)

pub loop-entry-preserved : goal.loop-entry-preserved
loop-entry-preserved c = record {
  so_far = more c.args.changes.now c.args.entries.now c.loop-entry.entry-index (record {
    var =
        0;
    coef = pos 0;
  }) c.loop-entry.sum c.in-Some.size c.loop-entry-test.true
      c.loop-entry.invariant.so_far c.in-Some.ensures.0;
  bound = omega (arith, c.in-Some.ensures.1, c.loop-entry.invariant.bound);
}
