use Rattle.qss_rows.proofs.Common.{arith, length-decimal-le, rules}
use Rattle.qss_rows.proofs.line_text.put_tick_digits.Goals as goal

pub write_digits-requires : goal.write_digits-requires
write_digits-requires c = (omega (arith, length-decimal-le 20 c.args.tick (omega arith) (omega arith) c.ranges.tick.fits), search rules)
