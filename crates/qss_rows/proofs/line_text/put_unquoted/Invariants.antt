-- The last bytes of the field are copied, and need no quotes.
use Rattle.qss_rows.proofs.Common
use Common.{◌++◌, ◌+◌, ◌≡◌, ◌≤◌, default_writer, drop, false, length, needs_quotes}
use Rattle.qss_rows.proofs.line_text.put_unquoted.Given as goal

abbrev pub invariant-loop-left : goal.invariant-loop-left
invariant-loop-left l = record {
  within : l.left ≤ length l.field;
  start : l.start + length l.field ≡ l.at + l.left;
  written : drop l.start l.line ≡ drop l.left l.field ++ drop l.at l.fn.line;
  unquoted : needs_quotes default_writer (drop l.left l.field) ≡ false;
}

abbrev pub decreases-loop-left : goal.decreases-loop-left
decreases-loop-left l = l.left
