-- The conditions that one more variable touches are settled.
use Rattle.qss_run.proofs.Common
use Common.{ℕ, AreSettledAlong, get_or, List, lists_more, refl, subst, take, take_all, touched_by}
use Common.{touched_of}
use Rattle.qss_run.proofs.OwnConditions.{none_along, along_more, still_settles}
use Rattle.qss_run.proofs.run_conditions.Conditions.settle_touched_detectors.Goals as goal

pub loop-var-init : goal.loop-var-init
loop-var-init c = none_along c.args.at.now c.args.self.now c.args.agenda.now c.args.work.now c.requires.ready

pub settle_touched_detectors_of-requires-clause-ready : goal.settle_touched_detectors_of-requires-clause-ready
settle_touched_detectors_of-requires-clause-ready c = still_settles c.args.at.now _ _ _ _ _ _ _ c.requires.ready c.loop-var.invariant

pub loop-var-preserved : goal.loop-var-preserved
loop-var-preserved c =
    let m = c.args.at.now.machine.now in
    let i : ℕ = c.loop-var.var-index in
    along_more c.args.at.now (touched_by m (take i c.args.vars.now)) (touched_of m (get_or c.args.vars.now i 0)) _ _ _ _ _ _ _ _ _ _ _ c.loop-var.invariant refl
    (lists_more (touched_of m) c.args.vars.now i c.loop-var-test.true) c.settle_touched_detectors_of.ensures

pub returns : goal.returns
returns c =
    subst (λ (vars : List ℕ). AreSettledAlong c.args.at.now (touched_by c.args.at.now.machine.now vars) c.args.self.now c.loop-var.self c.args.agenda.now c.loop-var.agenda c.args.work.now c.loop-var.work)
    (take_all c.loop-var.var-index c.args.vars.now c.loop-var-test.false) c.loop-var.invariant
