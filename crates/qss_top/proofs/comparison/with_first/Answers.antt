use Rattle.qss_top.proofs.Comparing.{no_trace_step, obtained_size, trace_step}
use Rattle.qss_top.proofs.comparison.with_first.Goals as goal

pub with_second-requires : goal.with_second-requires
with_second-requires g c = obtained_size c.in-Ok.ensures

pub returns-in-Ok : goal.returns-in-Ok
returns-in-Ok g c = trace_step _ c.in-Ok.ensures c.with_second.ensures

pub returns-in-Err : goal.returns-in-Err
returns-in-Err g c = no_trace_step _ c.args.basis.scope c.in-Err.ensures
