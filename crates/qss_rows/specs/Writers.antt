-- Defines csv writers that copy lines, and the bytes that a writer received.
use Rattle.std.specs.declared.alloc.Global.{Global}
use Rattle.std.specs.Prelude.{◌≡◌, ℕ, List, ◌++◌, Vec, false}
use Rattle.csv.specs.Writing.{default_writer, with_style, writer_setup, fields_written, has_written, writer_pending, writer_under}
use Rattle.csv.specs.declared.writer.QuoteStyle.TheVariants as style
use Rattle.csv.specs.declared.writer.Writer.{Writer}
use Rattle.csv.specs.declared.writer.WriterBuilder.{WriterBuilder}

-- the format of csv by default, but without quotes: the only field of a record is copied
abbrev pub copying_writer : WriterBuilder
copying_writer = with_style default_writer style.Never

-- the writer copies fields, and is between two records
pub record IsBetween (w : Writer (Vec ℕ Global)) : Type 0 where
  pub setup : writer_setup w ≡ copying_writer
  pub fields : fields_written w ≡ 0
  pub clean : has_written w ≡ false

-- all bytes that the writer received: the flushed ones and the buffered ones
abbrev pub given_to : Writer (Vec ℕ Global) → List ℕ
given_to w = (writer_under w).items ++ writer_pending w

-- the writer received these bytes, and is between two records
pub record Gains (old new : Writer (Vec ℕ Global)) (bytes : List ℕ) : Type 0 where
  pub between : IsBetween new
  pub gained : given_to new ≡ given_to old ++ bytes
