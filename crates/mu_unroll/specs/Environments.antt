-- Environments and outputs during unrolling.
use Rattle.std.specs.Prelude.{◌≡◌, map}
use Rattle.mu_unroll.specs.declared.environment.Environment.{Environment}
use Rattle.mu_unroll.specs.declared.item_unrolling.Output.{Output}
use Rattle.mu_unroll.specs.Unrolling.{Progress, progress}

-- two environments have the same declared names and the same loop variables
pub record HasSameNames (before after : Environment) : Type 0 where
  pub declared : after.declared ≡ before.declared
  pub loops : after.loops.items ≡ before.loops.items

-- the results and the counts of an output
abbrev pub progress_of : {T X : Type 0} → (T → X) → Output T → Progress X
progress_of flat output = progress (map flat output.done.items) output.counts
