-- The text of the rows of a run, and where it stops.
use Rattle.qss_events.proofs.Common
use Common.{ℕ, ◌++◌, ◌∙◌, ◌≡◌, ap, line_of, List, Machine, Option, passes, Row, row_lines, subst}
use Common.{sym, text_in}
use Rattle.std.specs.Io.KnownBytes.{Appends}
use Rattle.qss_rows.specs.Filters.{lines_passed}
use Rattle.qss_rows.specs.Simulations.{StopsAtLine}
use Rattle.qss_rows.specs.Writes.{StopsBefore}
use Rattle.qss_rows.proofs.RowLines.{text_by, split}

pub row_text : (only : Option (List ℕ)) (m : Machine) (rows : List Row) → text_in (row_lines only m rows) ≡ lines_passed only m rows
row_text only m rows = text_by (passes only m) (line_of m) rows

module _ {K : Type 0} (written : K → Option (List ℕ)) (head : List ℕ) (m : Machine) (old new : K) where
  -- a call that stopped at a line stopped before the row
  pub stops_before : (only : Option (List ℕ)) (rows : List Row) → StopsAtLine written head (row_lines only m rows) old new → StopsBefore written head only m rows old new
  stops_before only rows s =
      let cut = split (passes only m) (line_of m) rows s.front s.line s.rest s.parts in
      let text : text_in s.front ≡ lines_passed only m cut.before = ap text_in (sym cut.front_is) ∙ row_text only m cut.before in
      record {
        front = cut.before;
        row = cut.row;
        rest = cut.after;
        parts = cut.parts;
        passed = cut.passed;
        appended = subst (λ (l : List ℕ). Appends (written old) (written new) (head ++ l)) text s.appended;
      }
