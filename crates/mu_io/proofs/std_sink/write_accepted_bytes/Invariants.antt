use Rattle.mu_io.proofs.Common.{◌≤◌, Appends, length, take}
use Rattle.mu_io.proofs.std_sink.write_accepted_bytes.Given as goal

-- the writer has accepted the first `taken` bytes
abbrev pub invariant-loop : goal.invariant-loop
invariant-loop g l = record {
  within : l.taken ≤ length l.bytes;
  taken : Appends (g.W.Write.contents l.initial.writer) (g.W.Write.contents l.writer) (take l.taken l.bytes);
}
