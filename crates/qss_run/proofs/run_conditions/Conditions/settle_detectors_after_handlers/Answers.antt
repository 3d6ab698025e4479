-- The conditions settle list by list.
use Rattle.qss_run.proofs.Common
use Common.{ℕ, ◌++◌, ◌≡◌, ap, is_reinitialized, List, readers_before, refl, reinitialized_of, subst}
use Common.{touched_by, true, Values}
use Rattle.qss_run.proofs.OwnConditions.{along_more, along_then, still_settles}
use Rattle.qss_run.proofs.run_conditions.Conditions.settle_detectors_after_handlers.Goals as goal

pub settle_reinitialized_detectors-requires-clause-ready : goal.settle_reinitialized_detectors-requires-clause-ready
settle_reinitialized_detectors-requires-clause-ready c =
    still_settles c.args.at.now _ _ _ _ _ _ _ c.requires.ready c.settle_detectors_at.ensures

pub settle_reinitialized_detectors-requires-clause-known : goal.settle_reinitialized_detectors-requires-clause-known
settle_reinitialized_detectors-requires-clause-known c j among =
    let log = ap (λ (v : Values). v.log) c.settle_detectors_at.ensures.work in
    c.requires.reinitialized j (subst (λ rows. is_reinitialized rows j ≡ true) log among)

pub settle_touched_detectors-requires-clause-ready : goal.settle_touched_detectors-requires-clause-ready
settle_touched_detectors-requires-clause-ready c =
    let at = c.args.at.now in
    let first = still_settles at _ _ _ _ _ _ _ c.requires.ready c.settle_detectors_at.ensures in
    still_settles at _ _ _ _ _ _ _ first c.settle_reinitialized_detectors.ensures

pub settle_assigned_detectors-requires-clause-ready : goal.settle_assigned_detectors-requires-clause-ready
settle_assigned_detectors-requires-clause-ready c =
    let at = c.args.at.now in
    let first = still_settles at _ _ _ _ _ _ _ c.requires.ready c.settle_detectors_at.ensures in
    let second = still_settles at _ _ _ _ _ _ _ first c.settle_reinitialized_detectors.ensures in
    still_settles at _ _ _ _ _ _ _ second c.settle_touched_detectors.ensures

pub returns : goal.returns
returns c =
    let at = c.args.at.now in
    let m = at.machine.now in
    let changed : List ℕ = c.deref-changed.result.now in
    let assigned : List ℕ = c.deref-assigned.result.now in
    let log = ap (λ (v : Values). v.log) c.settle_detectors_at.ensures.work in
    let reinitialized : List ℕ = touched_by m (reinitialized_of c.args.work.now.log) in
    let two = along_more at changed reinitialized _ (changed ++ reinitialized) _ _ _ _ _ _ _ _ _ c.settle_detectors_at.ensures
    (ap (λ rows. touched_by m (reinitialized_of rows)) log) refl c.settle_reinitialized_detectors.ensures in
    let three = along_then at (changed ++ reinitialized) (touched_by m assigned) _ _ _ _ _ _ _ _ _ two c.settle_touched_detectors.ensures in
    rw c.deref-assigned.ensures.value at (rw c.deref-changed.ensures.value at
    (along_then at ((changed ++ reinitialized) ++ touched_by m assigned) (readers_before m assigned) _ _ _ _ _ _ _ _ _ three c.settle_assigned_detectors.ensures))
