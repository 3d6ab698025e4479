use Rattle.mu_io.proofs.Common.{sym}
use Rattle.mu_io.proofs.HeldFiles.{held_at, held_nowhere}
use Rattle.mu_io.proofs.mem_shelf.find_contents.Goals as goal

pub returns-in-Some : goal.returns-in-Some
returns-in-Some c =
    rw c.deref.ensures.value (sym (held_at c.args.files.now c.args.name.now c.find_name_index.result c.in-Some.i c.index-files-i.result c.find_name_index.ensures c.in-Some.is))

pub returns-in-None : goal.returns-in-None
returns-in-None c = sym (held_nowhere c.args.files.now c.args.name.now c.find_name_index.result c.find_name_index.ensures c.in-None.is)
