use Rattle.mu_io.proofs.Common.{rules}
use Rattle.mu_io.proofs.Readings.{added_read}
use Rattle.mu_io.proofs.shelf.read_all.Goals as goal

pub returns-then-is_err-clause-of_files : goal.returns-then-is_err-clause-of_files
returns-then-is_err-clause-of_files g c =
    let read = c.in-Ok-read.ensures in
    let before = rw c.select.ensures.files at c.loop-chunk.invariant.bytes in
    added_read _ c.args.name.now c.loop-chunk.bytes.items c.read.new.buf c.in-Ok-read.n _ _ _ _ _
    c.in-Ok.ensures.there before
    read.bytes (search rules) (search rules) c.loop-chunk.invariant.read (read.gains (search rules))
