-- The text of second-order rows, and where it stops.
use Rattle.qss_order2.proofs.Common
use Common.{ℕ, ◌++◌, ◌∙◌, ◌≡◌, ap, line2_of, List, Machine, Option, Row2, row2_lines, subst, sym}
use Common.{text_in, true}
use Rattle.std.specs.Io.KnownBytes.{Appends}
use Rattle.qss_order2.specs.SecondRowLines.{lines2_of}
use Rattle.qss_order2.specs.SecondRunTexts.{StopsBefore2}
use Rattle.qss_rows.specs.Simulations.{StopsAtLine}
use Rattle.qss_rows.proofs.RowLines.{split, text_all}

pub row2_text : (m : Machine) (rows : List Row2) → text_in (row2_lines m rows) ≡ lines2_of m rows
row2_text m rows = text_all (line2_of m) rows

module _ {K : Type 0} (written : K → Option (List ℕ)) (head : List ℕ) (m : Machine) (old new : K)
  where
    -- a call that stopped at a line stopped before the row
    pub stops_before2 : (rows : List Row2) → StopsAtLine written head (row2_lines m rows) old new →
        StopsBefore2 written head m rows old new
    stops_before2 rows s =
        let cut = split (λ row. true) (line2_of m) rows s.front s.line s.rest s.parts in
        let text : text_in s.front ≡ lines2_of m cut.before = ap text_in (sym cut.front_is)
        ∙ row2_text m cut.before in
        record {
          front = cut.before;
          row = cut.row;
          rest = cut.after;
          parts = cut.parts;
          appended = subst (λ (l : List ℕ). Appends (written old) (written new) (head ++ l))
              text s.appended;
        }
