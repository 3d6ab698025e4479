use Rattle.qss_events.proofs.RuledRuns.{row_known}
use Rattle.qss_run.proofs.ruled_run.RuledRunSimulation.add_line.Goals as goal

pub passes-requires : goal.passes-requires
passes-requires g c =
    let run = c.args.self.now in
    row_known run.filter run.rule run.sim.run c.machine-m.result.now c.rows.result.now c.args.row c.machine-m.ensures c.rows.ensures run.known c.requires

pub write-requires : goal.write-requires
write-requires g c =
    let run = c.args.self.now in
    row_known run.filter run.rule run.sim.run c.machine-m.result.now c.rows.result.now c.args.row c.machine-m.ensures c.rows.ensures run.known c.requires
