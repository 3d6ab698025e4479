use Rattle.cert_propose.proofs.Common.{◌-◌, ◌≡◌, length, repeated, zeros}
use Rattle.cert_propose.specs.Candidate as Step
use Rattle.cert_propose.proofs.candidate_form.repeat_form_rounds.Given as goal

abbrev pub invariant-loop-round : goal.invariant-loop-round
invariant-loop-round l = record {
  size : length l.p ≡ length l.phi;
  rounds : repeated 4096 (Step.form_round (length l.phi) l.q l.phi) (zeros (length l.phi)) ≡ repeated (4096 - l._round) (Step.form_round (length l.phi) l.q l.phi) l.p;
}
