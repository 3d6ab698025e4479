-- Defines the lines that a writer holds.
use Rattle.std.specs.Prelude.{◌≡◌, ◌++◌, ℕ, ℤ, Bool, List, Option, drop}
use Rattle.qss_rows.specs.PlainFields.{values_line}
use Rattle.qss_rows.specs.Writers.{given_to}
use Rattle.qss_rows.specs.declared.line_writer.RecordWriter.{RecordWriter}
use Rattle.qss_rows.specs.declared.line_writer.LineWriter.{LineWriter}

-- the lines since the writer was last cleared
abbrev pub records_in : RecordWriter → List ℕ
records_in w = drop w.from (given_to w.writer)

-- the lines since the writer was last cleared
abbrev pub lines_in : LineWriter → List ℕ
lines_in w = records_in w.records

-- a call added the line of a row with these fields
abbrev pub AddsRow : (old new : LineWriter) (tick : ℕ) (event name : List ℕ) (level state : Option ℤ)
    → Type 0
AddsRow old new tick event name level state =
    lines_in new ≡ lines_in old ++ values_line tick event name level state

-- whether the lines can be read
abbrev pub is_finished : LineWriter → Bool
is_finished w = w.records.is_finished
