use Rattle.cert_propose.proofs.Common.{◌∙◌, FitsSigned, rules, sym, system, to_z-of_z, w128}
use Rattle.cert_propose.proofs.Candidates.{round-bound}
use Rattle.cert_propose.proofs.Rounds.{repeated-step, repeated-stop, repeated-end}
use Rattle.cert_propose.proofs.candidate_basin.grow_basin_radius.Goals as goal

pub loop-round-preserved : goal.loop-round-preserved
loop-round-preserved c =
    let new : FitsSigned w128 c.in_ok-r.r = search rules in
    record {
      bound = rw to_z-of_z (round-bound (system c.args.m.now) c.args.c.now c.args.pm.now c.args.b.now _ c.in_ok-r.r c.requires.bounds.lambda c.loop-round.invariant.bound (sym c.in_ok-r.ensures));
      rounds = rw to_z-of_z (c.loop-round.invariant.rounds ∙ repeated-step 64 c.loop-round._round _ _ _ c.loop-round-test.true (sym c.in_ok-r.ensures));
    }

pub returns-in_err-r : goal.returns-in_err-r
returns-in_err-r c =
    c.from_residual.ensures ∙ sym (c.loop-round.invariant.rounds ∙ repeated-stop 64 c.loop-round._round _ _ c.loop-round-test.true (sym c.in_err-r.ensures))

pub returns : goal.returns
returns c =
    let old : FitsSigned w128 c.loop-round.r = search rules in
    sym (c.loop-round.invariant.rounds ∙ repeated-end 64 c.loop-round._round _ _ c.loop-round-test.false)
