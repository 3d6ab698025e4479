use Rattle.qss_rows.proofs.Common
use Common.{ℕ, ◌++◌, ◌+◌, ◌-◌, ◌^◌, ◌≡◌, ◌≤◌, ap, arith, decimal, drop, drop-set, length}
use Common.{length-decimal-le, List, rules}
use Rattle.std.proofs.Common.{to_z-of_z}
use Rattle.itoa.proofs.Decimal.{minus_first}
use Rattle.qss_rows.proofs.line_text.put_i64.Goals as goal

short : (n : ℕ) → n ≤ 2 ^ 63 → length (decimal n) ≤ 19
short n h = length-decimal-le 19 n (omega arith) (omega arith) (omega arith)

pub write_digits-start-requires : goal.write_digits-start-requires
write_digits-start-requires c =
    (omega (arith, short c.unsigned_abs.result (omega arith)), search rules)

pub overflow_sub-line : goal.overflow_sub-line
overflow_sub-line c = omega (arith, short c.unsigned_abs.result (omega arith))

pub overflow_sub-result : goal.overflow_sub-result
overflow_sub-result c = omega (arith, short c.unsigned_abs.result (omega arith))

pub returns-then-number-ge0-clause-short : goal.returns-then-number-ge0-clause-short
returns-then-number-ge0-clause-short c = omega (arith, short c.unsigned_abs.result (omega arith))

pub returns-clause-short : goal.returns-clause-short
returns-clause-short c = omega (arith, short c.unsigned_abs.result (omega arith))

pub returns-clause-written : goal.returns-clause-written
returns-clause-written c =
    let w = c.write_digits-start in
    let long = short c.unsigned_abs.result (omega arith) in
    let e : w.result - 1 + 1 ≡ w.result = omega arith in
    let back = to_z-of_z c.ranges.number in
    let minus = drop-set w.new.buf (w.result - 1) 45 (omega arith) in
    let text = minus_first c.args.number (rw back at c.if-number-ge0.false) in
    rw (minus, e, w.ensures.written, c.unsigned_abs.ensures.value, back)
    (ap (λ (l : List ℕ). l ++ drop c.args.at c.args.line.now) text)
