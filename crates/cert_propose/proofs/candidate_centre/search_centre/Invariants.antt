use Rattle.cert_propose.proofs.Common.{◌-◌, ◌≡◌, repeated, system}
use Rattle.cert_propose.specs.Candidate as Step
use Rattle.cert_propose.proofs.candidate_centre.search_centre.Given as goal

abbrev pub invariant-loop-round : goal.invariant-loop-round
invariant-loop-round l = Step.centre (system l.m) l.q ≡ repeated (4096 - l._round) (Step.centre_round (system l.m) l.q) l.c
