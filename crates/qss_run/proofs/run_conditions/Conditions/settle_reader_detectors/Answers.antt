-- The conditions that read one more variable are settled.
use Rattle.qss_run.proofs.Common
use Common.{ℕ, ◌<◌, ◌∙◌, All, AreSettledAlong, arith, conditions, conditions_below, conditions_kept}
use Common.{conditions_many, get_or, length, List, lists_more, readers_of, reading_conditions}
use Common.{subst, sym, take, take_all}
use Rattle.qss_run.proofs.OwnConditions.{none_along, along_more, still_settles}
use Rattle.qss_run.proofs.run_conditions.Conditions.settle_reader_detectors.Goals as goal

pub loop-var-init : goal.loop-var-init
loop-var-init c = none_along c.args.at.now c.args.self.now c.args.agenda.now c.args.work.now c.requires.ready

pub conditions_of-places-requires : goal.conditions_of-places-requires
conditions_of-places-requires c =
    let known = c.requires.known c.loop-var.var-index 0 c.loop-var-test.true in
    omega (arith, known, conditions_many c.args.at.now.machine.now c.args.at.now.uses.now c.requires.ready.moment.uses)

pub settle_detectors_at-requires-clause-ready : goal.settle_detectors_at-requires-clause-ready
settle_detectors_at-requires-clause-ready c = still_settles c.args.at.now _ _ _ _ _ _ _ c.requires.ready c.loop-var.invariant

pub settle_detectors_at-requires-clause-known : goal.settle_detectors_at-requires-clause-known
settle_detectors_at-requires-clause-known c =
    let at = c.args.at.now in
    let m = at.machine.now in
    let known = c.requires.known c.loop-var.var-index 0 c.loop-var-test.true in
    subst (All (λ place. place < length (conditions m))) (sym c.conditions_of-places.ensures)
    (conditions_below m at.uses.now c.requires.ready.moment.uses (get_or c.args.vars.now c.loop-var.var-index 0) (omega (arith, known)) (length (conditions m)) (omega arith))

pub loop-var-preserved : goal.loop-var-preserved
loop-var-preserved c =
    let at = c.args.at.now in
    let m = at.machine.now in
    let i : ℕ = c.loop-var.var-index in
    let var : ℕ = get_or c.args.vars.now i 0 in
    let known = c.requires.known i 0 c.loop-var-test.true in
    along_more at (readers_of m (take i c.args.vars.now)) (reading_conditions m var) _ _ _ _ _ _ _ _ _ _ _ c.loop-var.invariant
    (c.conditions_of-places.ensures ∙ conditions_kept m at.uses.now c.requires.ready.moment.uses var (omega (arith, known)))
    (lists_more (reading_conditions m) c.args.vars.now i c.loop-var-test.true) c.settle_detectors_at.ensures

pub returns : goal.returns
returns c =
    subst (λ (vars : List ℕ). AreSettledAlong c.args.at.now (readers_of c.args.at.now.machine.now vars) c.args.self.now c.loop-var.self c.args.agenda.now c.loop-var.agenda c.args.work.now c.loop-var.work)
    (take_all c.loop-var.var-index c.args.vars.now c.loop-var-test.false) c.loop-var.invariant
