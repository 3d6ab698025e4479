-- The conditions that a variable touches are settled.
use Rattle.qss_run.proofs.Common
use Common.{ℕ, ◌+◌, ◌<◌, ◌∙◌, All, AreSettledAlong, arith, conditions, conditions_below}
use Common.{conditions_kept, conditions_many, discrete_count, length, List, readers_of}
use Common.{reading_conditions, reading_rows, refl, rows_below, rows_kept, rows_many, state_count}
use Common.{subst, sym}
use Rattle.qss_run.proofs.OwnConditions.{along_more, still_settles}
use Rattle.qss_run.proofs.run_conditions.Conditions.settle_touched_detectors_of.Goals as goal

pub rows_of-rows-requires : goal.rows_of-rows-requires
rows_of-rows-requires c =
    let at = c.args.at.now in omega (arith, c.requires.known, rows_many at.machine.now at.uses.now c.requires.ready.moment.uses)

pub settle_reader_detectors-requires-clause-known : goal.settle_reader_detectors-requires-clause-known
settle_reader_detectors-requires-clause-known c =
    let at = c.args.at.now in
    let m = at.machine.now in
    subst (All (λ row. row < state_count m + discrete_count m)) (sym c.rows_of-rows.ensures)
    (rows_below m at.uses.now c.requires.ready.moment.uses c.args.var c.requires.known (state_count m + discrete_count m) (omega arith))

pub conditions_of-places-requires : goal.conditions_of-places-requires
conditions_of-places-requires c =
    let at = c.args.at.now in omega (arith, c.requires.known, conditions_many at.machine.now at.uses.now c.requires.ready.moment.uses)

pub settle_detectors_at-requires-clause-ready : goal.settle_detectors_at-requires-clause-ready
settle_detectors_at-requires-clause-ready c = still_settles c.args.at.now _ _ _ _ _ _ _ c.requires.ready c.settle_reader_detectors.ensures

pub settle_detectors_at-requires-clause-known : goal.settle_detectors_at-requires-clause-known
settle_detectors_at-requires-clause-known c =
    let at = c.args.at.now in
    let m = at.machine.now in
    subst (All (λ place. place < length (conditions m))) (sym c.conditions_of-places.ensures)
    (conditions_below m at.uses.now c.requires.ready.moment.uses c.args.var (omega (arith, c.requires.known)) (length (conditions m)) (omega arith))

pub returns : goal.returns
returns c =
    let at = c.args.at.now in
    let m = at.machine.now in
    let of_rows = subst (λ (rows : List ℕ). AreSettledAlong at (readers_of m rows) c.args.self.now c.settle_reader_detectors.new.self c.args.agenda.now c.settle_reader_detectors.new.agenda c.args.work.now c.settle_reader_detectors.new.work)
    (c.rows_of-rows.ensures ∙ rows_kept m at.uses.now c.requires.ready.moment.uses c.args.var c.requires.known) c.settle_reader_detectors.ensures in
    along_more at (readers_of m (reading_rows m c.args.var)) (reading_conditions m c.args.var) _ _ _ _ _ _ _ _ _ _ _ of_rows
    (c.conditions_of-places.ensures ∙ conditions_kept m at.uses.now c.requires.ready.moment.uses c.args.var (omega (arith, c.requires.known))) refl c.settle_detectors_at.ensures
