-- The conditions that read one more value before the tick are settled.
use Rattle.qss_run.proofs.Common
use Common.{[], ℕ, ◌+◌, ◌∙◌, ◌≡◌, ap, AreSettledAlong, arith, conditions, conditions_below}
use Common.{conditions_kept, conditions_many, discrete_count, get_or, length, List, lists_more}
use Common.{readers_before, reading_conditions, subst, take, take_all, Values}
use Rattle.qss_run.proofs.OwnConditions.{none_along, along_more, still_settles}
use Rattle.qss_run.proofs.run_conditions.Conditions.settle_assigned_detectors.Goals as goal

pub loop-var-init : goal.loop-var-init
loop-var-init c = none_along c.args.at.now c.args.self.now c.args.agenda.now c.args.work.now c.requires.ready

pub conditions_of-places-requires : goal.conditions_of-places-requires
conditions_of-places-requires c =
    let known = c.requires.assigned c.loop-var.var-index 0 c.loop-var-test.true in
    let many = ap (λ (v : Values). length v.d) c.work.view_is in
    omega (arith, known.1, c.len-discretes.ensures, c.work.inside.d.ok.0, many, c.requires.ready.values.discretes, conditions_many c.args.at.now.machine.now c.args.at.now.uses.now c.requires.ready.moment.uses)

pub settle_detectors_at-requires-clause-ready : goal.settle_detectors_at-requires-clause-ready
settle_detectors_at-requires-clause-ready c = still_settles c.args.at.now _ _ _ _ _ _ _ c.requires.ready c.loop-var.invariant

pub settle_detectors_at-requires-clause-known : goal.settle_detectors_at-requires-clause-known
settle_detectors_at-requires-clause-known c =
    let at = c.args.at.now in
    let m = at.machine.now in
    let var : ℕ = get_or c.args.assigned.now c.loop-var.var-index 0 in
    let known = c.requires.assigned c.loop-var.var-index 0 c.loop-var-test.true in
    let many = ap (λ (v : Values). length v.d) c.work.view_is in
    rw c.conditions_of-places.ensures
    (conditions_below m at.uses.now c.requires.ready.moment.uses (var + c.len-discretes.result)
    (omega (arith, known.1, c.len-discretes.ensures, c.work.inside.d.ok.0, many, c.requires.ready.values.discretes)) (length (conditions m)) (omega arith))

pub loop-var-preserved : goal.loop-var-preserved
loop-var-preserved c =
    let at = c.args.at.now in
    let m = at.machine.now in
    let i : ℕ = c.loop-var.var-index in
    let var : ℕ = get_or c.args.assigned.now i 0 in
    let known = c.requires.assigned i 0 c.loop-var-test.true in
    let many = ap (λ (v : Values). length v.d) c.work.view_is in
    let discretes : c.len-discretes.result ≡ discrete_count m = omega (arith, c.len-discretes.ensures, c.work.inside.d.ok.0, many, c.requires.ready.values.discretes) in
    along_more at (readers_before m (take i c.args.assigned.now)) (reading_conditions m (var + discrete_count m)) _ _ _ _ _ _ _ _ _ _ _ c.loop-var.invariant
    (c.conditions_of-places.ensures ∙ ap (λ (n : ℕ). get_or at.uses.now.1 (var + n) []) discretes
    ∙ conditions_kept m at.uses.now c.requires.ready.moment.uses (var + discrete_count m) (omega (arith, known.1)))
    (lists_more (λ v. reading_conditions m (v + discrete_count m)) c.args.assigned.now i c.loop-var-test.true) c.settle_detectors_at.ensures

pub returns : goal.returns
returns c =
    subst (λ (vars : List ℕ). AreSettledAlong c.args.at.now (readers_before c.args.at.now.machine.now vars) c.args.self.now c.loop-var.self c.args.agenda.now c.loop-var.agenda c.args.work.now c.loop-var.work)
    (take_all c.loop-var.var-index c.args.assigned.now c.loop-var-test.false) c.loop-var.invariant
