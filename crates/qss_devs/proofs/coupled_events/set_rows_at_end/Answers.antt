-- The rows are those of the snapshot.
use Rattle.qss_devs.proofs.Common.{◌∙◌, ◌≤◌, All, ap, arith, IntegratorModel, length, subst, sym}
use Rattle.qss_devs.proofs.SnapshotRows.{rows_at, lines_early}
use Rattle.qss_machine.specs.declared.machine_parts.RowKind.TheVariants as kind
use Rattle.qss_devs.proofs.coupled_events.set_rows_at_end.Goals as goal

pub set_snapshot_rows-requires : goal.set_snapshot_rows-requires
set_snapshot_rows-requires g c = record {
  count_limit =
      omega (
        arith,
        ap length c.deref.ensures.value,
        ap length c.handler_discretes.ensures,
        c.requires.fits.parts.integrators,
        c.requires.fits.values.discretes,
        c.args.m.now.has_variables.few,
      );
  not_later = subst (All (λ (i : IntegratorModel _ _). i.line.tick ≤ c.args.m.now.last)) (sym c.deref.ensures.value) (lines_early c.args.m.now c.args.q.now.name c.args.m.now.last c.args.s.now c.requires);
  tick_limit = c.args.m.now.has_units.last_tick;
  room =
      omega (
        arith,
        ap length c.deref.ensures.value,
        ap length c.handler_discretes.ensures,
        c.requires.fits.parts.integrators,
        c.requires.fits.values.discretes,
        c.requires.fits.row_room,
      );
}

pub returns-clause-rows : goal.returns-clause-rows
returns-clause-rows g c =
    c.set_snapshot_rows.ensures.rows
    ∙ rows_at kind.End c.args.m.now.last c.deref.result.now c.handler_discretes.result.now c.args.s.now c.deref.ensures.value c.handler_discretes.ensures
