-- No field of a row of a second-order run needs quotes in a source's machine.
use Rattle.qss_theorems.proofs.Common
use Common.{[], ℕ, ℤ, ◌++◌, ◌∙◌, ◌∷◌, ◌≡◌, ap, Bool, CompilesTo, decimal, default_writer, false}
use Common.{header, List, Machine, name_of, nat_lt, needs_quotes, plain_line, refl, state_count}
use Rattle.qss_order2.specs.declared.order2_rows.Kind2.{Kind2}
use Rattle.qss_order2.specs.declared.order2_rows.Row2.{Row2}
use Rattle.qss_order2.specs.SecondRowLines.{fields2_of, level2_field, line2_of, lines2_of}
use Rattle.qss_order2.specs.SecondRowLines.{state2_field, word2_of}
use Rattle.qss_order2.specs.SecondRuns.{run2_rows}
use Rattle.qss_theorems.proofs.Lines.{IsPlain, any_named, plain_decimal, plain_record, plain_signed}
use Rattle.qss_theorems.proofs.Lines.{plain_where}
use Rattle.qss_theorems.specs.CommaLines.{SecondOrderLinesAreFields, plain_second_lines}
use Rattle.qss_order2.specs.declared.order2_rows.Kind2.TheVariants as kind

-- ---- fields

plain_word : (k : Kind2) → IsPlain (word2_of k)
plain_word kind.Start = refl
plain_word kind.Slope = refl
plain_word kind.Level = refl
plain_word kind.End = refl
plain_word kind.Overflow = refl

plain_level : (k : Kind2) (z : ℤ) → IsPlain (level2_field k z)
plain_level kind.Start z = plain_signed z
plain_level kind.Slope z = plain_signed z
plain_level kind.Level z = plain_signed z
plain_level kind.End z = plain_signed z
plain_level kind.Overflow z = refl

plain_state : (b : Bool) (k : Kind2) (z : ℤ) → IsPlain (state2_field b k z)
plain_state b kind.Start z = plain_where b z
plain_state b kind.Slope z = refl
plain_state b kind.Level z = plain_signed z
plain_state b kind.End z = plain_where b z
plain_state b kind.Overflow z = refl

-- ---- lines

line_is : (m : Machine) (row : Row2) → needs_quotes default_writer (name_of m row.var) ≡ false → line2_of m row ≡ plain_line (fields2_of m row)
line_is m row named =
    plain_record (decimal row.tick) (word2_of row.kind) (name_of m row.var) (level2_field row.kind row.level) (state2_field (nat_lt row.var (state_count m)) row.kind row.state)
    (plain_decimal row.tick) (plain_word row.kind) named
    (plain_level row.kind row.level) (plain_state (nat_lt row.var (state_count m)) row.kind row.state)

line_denoted : (bytes : List ℕ) (m : Machine) → CompilesTo bytes m → (row : Row2) → line2_of m row ≡ plain_line (fields2_of m row)
line_denoted bytes m compiles row = line_is m row (any_named bytes m compiles row.var)

lines_denoted : (bytes : List ℕ) (m : Machine) → CompilesTo bytes m → (rows : List Row2) → lines2_of m rows ≡ plain_second_lines m rows
lines_denoted bytes m compiles [] = refl
lines_denoted bytes m compiles (row ∷ rows) =
    ap (λ (line : List ℕ). line ++ lines2_of m rows) (line_denoted bytes m compiles row)
    ∙ ap (λ (more : List ℕ). plain_line (fields2_of m row) ++ more) (lines_denoted bytes m compiles rows)

pub second_order_lines_are_fields : SecondOrderLinesAreFields
second_order_lines_are_fields = record {
  plain = line_is;
  lines = line_denoted;
  text = λ bytes m compiles run. ap (λ (text : List ℕ). header ++ text) (lines_denoted bytes m compiles (run2_rows m run));
}
