use Rattle.cert_propose.proofs.Common.{◌-◌, ◌≡◌, IsBound, repeated, system}
use Rattle.cert_propose.specs.Candidate as Step
use Rattle.cert_propose.proofs.candidate_basin.grow_basin_radius.Given as goal

abbrev pub invariant-loop-round : goal.invariant-loop-round
invariant-loop-round l = record {
  bound : IsBound l.r;
  rounds : Step.grown_radius (system l.m) l.c l.pm l.b l.start ≡ repeated (64 - l._round) (Step.basin_round (system l.m) l.c l.pm l.b) l.r;
}
