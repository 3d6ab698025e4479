use Rattle.qss_rows.proofs.Common
use Common.{[], ℕ, ◌++◌, ◌+◌, ◌-◌, ◌<◌, ◌^◌, ◌≡◌, ◌≤◌, append-nil, append_assoc, arith, codes}
use Common.{decimal, drop, drop-set, drop_all, length, length-decimal-le, List, refl, take_all}
use Rattle.std.proofs.Common.{set, length-drop, length-set}
use Rattle.std.proofs.lemmas.Fmt.{decimal_nonempty}
use Rattle.qss_rows.proofs.line_writer.line_firing_text.Goals as goal

-- the number after one of 32 bits takes at most ten digits
short : (n : ℕ) → n < 2 ^ 32 → length (decimal (n + 1)) ≤ 10
short n fits = length-decimal-le 10 (n + 1) (omega arith) (omega arith) (omega arith)

-- a point put before the last bytes
pointed : (buffer last : List ℕ) (at : ℕ) → 0 < at → at ≤ length buffer → drop at buffer ≡ last → drop (at - 1) (set buffer (at - 1) 46) ≡ codes "." ++ last
pointed buffer last at some within e =
    let before : at - 1 < length buffer = omega arith in
    let next : at - 1 + 1 ≡ at = omega arith in
    rw (drop-set buffer (at - 1) 46 before, next, e) refl

pub write_digits-point-requires : goal.write_digits-point-requires
write_digits-point-requires c = (omega (arith, short c.from.result (omega arith)), omega arith)

pub overflow_sub-point : goal.overflow_sub-point
overflow_sub-point c = omega (arith, short c.from.result (omega arith))

pub write_digits-start-requires : goal.write_digits-start-requires
write_digits-start-requires c = (omega (arith, short c.from.result (omega arith), short c.from-2.result (omega arith)), omega (arith, length-set {A = ℕ}))

pub returns : goal.returns
returns c =
    let second = c.write_digits-point in
    let first = c.write_digits-start in
    let nothing : drop 21 c.args.buffer.now ≡ [] = drop_all 21 c.args.buffer.now (omega arith) in
    let last : drop second.result second.new.buf ≡ decimal (c.args.branch + 1) = rw (second.ensures.written, nothing, append-nil, c.from.ensures) refl in
    let rest = pointed second.new.buf (decimal (c.args.branch + 1)) second.result (omega (arith, short c.from.result (omega arith))) (omega (arith, decimal_nonempty)) last in
    rw (take_all (21 - first.result) (drop first.result first.new.buf) (omega (arith, length-drop first.result first.new.buf)), first.ensures.written, rest, c.from-2.ensures, append_assoc) refl
