use Rattle.cert_propose.proofs.Common.{◌∙◌, pos, refl, rules, sym, system}
use Rattle.cert_propose.proofs.Rounds.{repeated-step, repeated-stop, repeated-end}
use Rattle.cert_propose.specs.Candidate as Step
use Rattle.cert_propose.proofs.candidate_centre.search_centre.Goals as goal

pub loop-round-init : goal.loop-round-init
loop-round-init c = let zeros = c.candidate_column_of-c.ensures (λ i. pos 0) (λ i x hi e. search rules) in rw zeros refl

pub loop-round-preserved : goal.loop-round-preserved
loop-round-preserved c =
    c.loop-round.invariant ∙ repeated-step 4096 c.loop-round._round (Step.centre_round (system c.args.m.now) c.args.q) _ _ c.loop-round-test.true (sym c.in_ok-c.ensures)

pub returns-in_err-c : goal.returns-in_err-c
returns-in_err-c c =
    c.from_residual.ensures ∙ sym (c.loop-round.invariant ∙ repeated-stop 4096 c.loop-round._round (Step.centre_round (system c.args.m.now) c.args.q) _ c.loop-round-test.true (sym c.in_err-c.ensures))

pub returns : goal.returns
returns c = sym (c.loop-round.invariant ∙ repeated-end 4096 c.loop-round._round (Step.centre_round (system c.args.m.now) c.args.q) _ c.loop-round-test.false)
