use Rattle.mu_io.proofs.Common.{rules}
use Rattle.std.proofs.KnownBytes.{Appends-kept}
use Rattle.mu_io.proofs.Pieces.{taken_more}
use Rattle.mu_io.proofs.std_sink.write_accepted_bytes.Goals.{in-Ok, in-Err}
use Rattle.mu_io.proofs.std_sink.write_accepted_bytes.Goals as goal

pub loop-preserved : goal.loop-preserved
loop-preserved g c =
    elim c.match-write.branch [
      | in-Ok w ↦ rw w.taken-is (record {
        within = search rules;
        taken = taken_more _ _ _ c.args.bytes.now c.loop.taken w.in-Ok.n c.loop.invariant.taken w.in-Ok.ensures.bytes;
      })
      | in-Err w ↦ rw w.taken-is (record {
        within = c.loop.invariant.within;
        taken = Appends-kept _ _ _ _ c.loop.invariant.taken w.in-Err.ensures.bytes;
      })
    ]
