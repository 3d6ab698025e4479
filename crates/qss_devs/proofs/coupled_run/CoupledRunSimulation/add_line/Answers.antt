use Rattle.qss_devs.proofs.Common.{Floor, view_of}
use Rattle.qss_events.proofs.RuledRuns.{row_known}
use Rattle.qss_devs.proofs.coupled_run.CoupledRunSimulation.add_line.Goals as goal

pub passes-requires : goal.passes-requires
passes-requires g c =
    let run = c.args.self.now in
    row_known run.filter Floor (view_of run.model.machine.value run.model.tick run.model.store run.model.end) c.machine-m.result.now c.rows.result.now c.args.row
    c.machine-m.ensures c.rows.ensures run.known c.requires

pub write-requires : goal.write-requires
write-requires g c =
    let run = c.args.self.now in
    row_known run.filter Floor (view_of run.model.machine.value run.model.tick run.model.store run.model.end) c.machine-m.result.now c.rows.result.now c.args.row
    c.machine-m.ensures c.rows.ensures run.known c.requires
